-- The notes of a program header, and what a walk over them returns, however long it is. `NoteWalk` has the walk itself,
-- with a bound on its length.
use Rattle.std.specs.Prelude.{ℕ, suc, ◌+◌, ◌≤◌, ◌<◌, ◌≡◌, Bool, true, false, List, [], ◌∷◌, leb, eqb, length, Ok, Err, Result}
use Rattle.answers.specs.Pick.{pick}
use Rattle.answers.specs.Tests.{Test, AllHold, FirstFails}
use Rattle.answers.specs.declared.Refusal.{Refusal}
use Rattle.answers.specs.declared.Refusal.TheVariants as refusal
use Rattle.fields.specs.Numbers.{le}
use Rattle.fields.specs.Ranges.{lies_within}
use Rattle.fields.specs.Rounding.{rounded_up}
use Rattle.fields.specs.Tags.{tag_at}
use Rattle.guest.specs.Sizes.{allowed}
use Rattle.guest.specs.declared.ImagePlace.{ImagePlace}
use Rattle.guest.specs.declared.PvhNote.{PvhNote}
use Rattle.guest.specs.declared.PvhBootCapability.{PvhBootCapability}
use Rattle.guest.specs.declared.PvhBootCapability.TheVariants as pvh
use Rattle.reading.specs.Notes.{note_header_of}
use Rattle.reading.specs.declared.NoteHeader.{NoteHeader}
use Rattle.elf.specs.declared.ElfNote.{ElfNote}

-- ---- one note: twelve bytes of header, its name, its descriptor

abbrev pub note_header_size : ℕ
note_header_size = 12

-- the type of the note that holds the PVH entry, and its name: `Xen` and zero
abbrev pub phys_entry : ℕ
phys_entry = 18

abbrev pub xen : List ℕ
xen = 0x58 ∷ 0x65 ∷ 0x6E ∷ 0 ∷ []

-- do type and name size say that the name has to be looked at?
unfoldable pub is_wanted : NoteHeader → Bool
is_wanted note = pick (eqb note.n_type phys_entry) (eqb note.n_namesz 4) false

-- is the note at p the PVH note?
unfoldable pub is_pvh_note : List ℕ → ℕ → Bool
is_pvh_note image p = pick (is_wanted (note_header_of image p)) (tag_at xen image (p + note_header_size)) false

-- the greatest size that rounds up to 4 within 32 bits
abbrev pub top_size : ℕ
top_size = 0xFFFFFFFC

-- how far the next note is: header, name and descriptor, the latter two rounded up to 4
abbrev pub note_length : NoteHeader → ℕ
note_length note = note_header_size + rounded_up note.n_namesz + rounded_up note.n_descsz

-- a descriptor at an offset of the image, of this size: the entry is the number of its first four bytes
abbrev pub note_with : List ℕ → ImagePlace → ℕ → PvhNote
note_with image place size = record { entry = record { 0 = le 4 image place.0 }; place = place; size = size }

-- the PVH note at p, whose descriptor follows the four bytes of its name
abbrev pub descriptor_at : ℕ → ℕ
descriptor_at p = p + 16

abbrev pub note_at : List ℕ → ℕ → PvhNote
note_at image p = note_with image (record { 0 = descriptor_at p }) (note_header_of image p).n_descsz

-- ---- the tests of a note, in order

-- of the PVH note: its descriptor has the four bytes of an entry, which lie in the image
abbrev pub pvh_tests : List ℕ → ℕ → List Test
pvh_tests image p =
    (leb 4 (note_header_of image p).n_descsz, refusal.InvalidPvhNote) ∷ (lies_within (length image) (descriptor_at p) 4, refusal.ReadNoteHeader) ∷ []

-- of any other: both its sizes can be rounded up
abbrev pub size_tests : NoteHeader → List Test
size_tests note = (leb note.n_namesz top_size, refusal.Overflow) ∷ (leb note.n_descsz top_size, refusal.Overflow) ∷ []

-- its header lies in the image, then its name, if that has to be looked at, then these. The name is sought in the image, not in the segment
unfoldable pub note_tests : List ℕ → ℕ → List Test
note_tests image p =
    (lies_within (length image) p note_header_size, refusal.ReadNoteHeader)
    ∷ (pick (is_wanted (note_header_of image p)) (lies_within (length image) (p + note_header_size) 4) true, refusal.ReadNoteHeader)
    ∷ pick (is_pvh_note image p) (pvh_tests image p) (size_tests (note_header_of image p))

-- ---- the walk

-- of the notes of `size` bytes from an offset on, the first j are passed over, and take `read` bytes: all their tests hold, and none is the PVH note
pub data PassedOver (image : List ℕ) (from size : ℕ) : ℕ → ℕ → Type 0 where
  no_note : PassedOver image from size 0 0
  one_more : {j read : ℕ} → PassedOver image from size j read → read < size → AllHold (note_tests image (from + read))
      → is_pvh_note image (from + read) ≡ false → PassedOver image from size (suc j) (read + note_length (note_header_of image (from + read)))

-- what a walk returns: the entry, if there is one, and the count of the headers that were read; a refusal has no count
abbrev pub NoteAnswer : Type 0
NoteAnswer = Result ElfNote Refusal

-- of it, what is said of the entry
abbrev pub said_of : NoteAnswer → Result PvhBootCapability Refusal
said_of (Ok note) = Ok note.pvh
said_of (Err r) = Err r

-- the PVH note at p, the j-th note that is read
abbrev pub found_note : List ℕ → ℕ → ℕ → NoteAnswer
found_note image p j = Ok (record { pvh = pvh.PvhEntryPresent (note_at image p); headers = j })

-- none among j notes
abbrev pub no_entry : ℕ → NoteAnswer
no_entry j = Ok (record { pvh = pvh.PvhEntryNotPresent; headers = j })

-- which rule decides: the image's length, the first note that is not passed over, or none
pub data NoteVerdict (image : List ℕ) (from size : ℕ) : NoteAnswer → Type 0 where
  too_long : allowed (length image) ≡ false → NoteVerdict image from size (Err refusal.SliceTooLong)
  refused : {j read : ℕ} {r : Refusal} → allowed (length image) ≡ true → PassedOver image from size j read → read < size
      → FirstFails r (note_tests image (from + read)) → NoteVerdict image from size (Err r)
  found : {j read : ℕ} → allowed (length image) ≡ true → PassedOver image from size j read → read < size
      → AllHold (note_tests image (from + read)) → is_pvh_note image (from + read) ≡ true → NoteVerdict image from size (found_note image (from + read) (suc j))
  not_found : {j read : ℕ} → allowed (length image) ≡ true → PassedOver image from size j read → size ≤ read → NoteVerdict image from size (no_entry j)
