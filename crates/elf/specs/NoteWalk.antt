-- The note walk, as a function with a bound on its notes: what contracts are written with.
use Rattle.answers.specs.declared.Refusal.{Refusal}
use Rattle.std.specs.Prelude.{ℕ, zero, suc, ◌+◌, ◌/◌, List, ltb, length, Ok, Err, Result}
use Rattle.answers.specs.Pick.{pick}
use Rattle.answers.specs.Tests.{asked_all, Check, pass}
use Rattle.answers.specs.declared.Refusal.TheVariants as refusal
use Rattle.guest.specs.Sizes.{allowed}
use Rattle.guest.specs.declared.ImagePlace.{ImagePlace}
use Rattle.guest.specs.declared.PvhNote.{PvhNote}
use Rattle.guest.specs.declared.PvhBootCapability.TheVariants as pvh
use Rattle.reading.specs.Notes.{note_header_of}
use Rattle.elf.specs.Notes.{is_pvh_note, note_length, descriptor_at, note_at, note_tests, NoteAnswer, no_entry}
use Rattle.elf.specs.declared.notes.Turn.{Turn}
use Rattle.elf.specs.declared.notes.Turn.TheVariants as turn

-- what the note at p says to the walk: the first of its tests that fails, else it is the PVH note, or the next is so many bytes further
abbrev pub turn_by : Check → Turn → Result Turn Refusal
turn_by (Ok _) t = Ok t
turn_by (Err r) t = Err r

unfoldable pub turn_at : List ℕ → ℕ → Result Turn Refusal
turn_at image p =
    turn_by (asked_all pass (note_tests image p)) (pick (is_pvh_note image p) (turn.Found (record { 0 = descriptor_at p }) (note_header_of image p).n_descsz) (turn.Skip (note_length (note_header_of image p))))

-- what the walk does after it, with the headers read so far: `more k` goes on k bytes further
abbrev pub after_turn : PvhNote → Result Turn Refusal → ℕ → (ℕ → NoteAnswer) → NoteAnswer
after_turn note (Ok (turn.Found place size)) headers more = Ok (record { pvh = pvh.PvhEntryPresent note; headers = headers })
after_turn note (Ok (turn.Skip k)) headers more = more k
after_turn note (Err r) headers more = Err r

-- the walk after `read` bytes, with so many notes left at the most
unfoldable pub walk_from : ℕ → List ℕ → ℕ → ℕ → ℕ → ℕ → NoteAnswer
walk_from zero image from size read headers = no_entry headers
walk_from (suc left) image from size read headers =
    pick (ltb read size)
    (after_turn (note_at image (from + read)) (turn_at image (from + read)) (suc headers) (λ k. walk_from left image from size (read + k) (suc headers)))
    (no_entry headers)

-- each note that is passed over takes twelve bytes or more, so there are no more notes than twelve bytes begun
abbrev pub twelves : ℕ → ℕ
twelves size = (size + 11) / 12

unfoldable pub entry_of : List ℕ → ImagePlace → ℕ → NoteAnswer
entry_of image from size = walk_from (twelves size) image from.0 size 0 0

-- the public walk: an image that is too long is refused first
unfoldable pub public_note : List ℕ → ImagePlace → ℕ → NoteAnswer
public_note image from size = pick (allowed (length image)) (entry_of image from size) (Err refusal.SliceTooLong)
