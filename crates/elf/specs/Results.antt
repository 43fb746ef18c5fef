-- The results of an accepted load, said without its order of work: over the first n program headers, which are all of them at the end.
use Rattle.guest.specs.declared.GuestAddress.{GuestAddress}
use Rattle.std.specs.Prelude.{ℕ, ◌+◌, ◌≤◌, ◌<◌, ◌≡◌, true, false, List, [], ◌∷◌, ◌⊎◌, Ok, Option}
use Rattle.guest.specs.Addresses.{amount_of, is_given}
use Rattle.guest.specs.Answers.{pvh_code, pvh_address, pvh_place, pvh_size}
use Rattle.guest.specs.declared.KernelLoaderResult.{KernelLoaderResult}
use Rattle.guest.specs.declared.PvhNote.{PvhNote}
use Rattle.guest.specs.declared.PvhBootCapability.{PvhBootCapability}
use Rattle.guest.specs.declared.PvhBootCapability.TheVariants.{PvhEntryPresent, PvhEntryNotPresent, PvhEntryIgnored}
use Rattle.elf.specs.Header.{e_entry_of, e_phnum_of}
use Rattle.elf.specs.ProgramHeaders.{header_of}
use Rattle.elf.specs.Notes.{said_of}
use Rattle.elf.specs.NoteWalk.{entry_of}
use Rattle.elf.specs.Survey.{end_of, load_address}
use Rattle.elf.specs.declared.program_headers.ProgramHeader.{ProgramHeader}

-- ---- the kernel end

-- a loadable segment that has memory
pub record HasMemory (h : ProgramHeader) : Type 0 where
  pub loadable : h.p_type ≡ 1
  pub some : 0 < h.p_memsz

-- e is the end of such a segment's memory
pub record IsEnd (image : List ℕ) (offset : Option GuestAddress) (n e : ℕ) : Type 0 where
  pub k : ℕ
  pub below : k < n
  pub has_memory : HasMemory (header_of image k)
  pub is : e ≡ (end_of (amount_of offset) (header_of image k)).0

-- e is the greatest of these ends, or 0 if there is none
pub record GreatestEnd (image : List ℕ) (offset : Option GuestAddress) (n e : ℕ) : Type 0 where
  pub covers : (k : ℕ) → k < n → HasMemory (header_of image k) → (end_of (amount_of offset) (header_of image k)).0 ≤ e
  pub attained : (e ≡ 0) ⊎ IsEnd image offset n e

-- ---- PVH

-- the notes of a program header have this PVH note: it is a note header, no offset is given, and the walk finds the note
pub record GivesNote (image : List ℕ) (offset : Option GuestAddress) (h : ProgramHeader) (note : PvhNote) : Type 0 where
  pub is_note : h.p_type ≡ 4
  pub no_offset : is_given offset ≡ false
  pub walked : said_of (entry_of image h.p_offset h.p_filesz) ≡ Ok (PvhEntryPresent note)

-- none of the first n has one
abbrev pub NoneGives : List ℕ → Option GuestAddress → ℕ → Type 0
NoneGives image offset n = (j : ℕ) → j < n → (note : PvhNote) → GivesNote image offset (header_of image j) note → ⊥

-- the first that has one has this one
pub record FirstGives (image : List ℕ) (offset : Option GuestAddress) (n : ℕ) (note : PvhNote) : Type 0 where
  pub k : ℕ
  pub below : k < n
  pub gives : GivesNote image offset (header_of image k) note
  pub before : NoneGives image offset k

-- there is a note header
pub record SomeNotes (image : List ℕ) (n : ℕ) : Type 0 where
  pub k : ℕ
  pub below : k < n
  pub is_note : (header_of image k).p_type ≡ 4

-- the first note found; without one NotPresent, if there is a note header; Ignored with an offset, and without a note header
pub data PvhIs (image : List ℕ) (offset : Option GuestAddress) (n : ℕ) : PvhBootCapability → Type 0 where
  present : {note : PvhNote} → FirstGives image offset n note → PvhIs image offset n (PvhEntryPresent note)
  not_present : is_given offset ≡ false → SomeNotes image n → NoneGives image offset n → PvhIs image offset n PvhEntryNotPresent
  with_offset : is_given offset ≡ true → PvhIs image offset n PvhEntryIgnored
  no_notes : is_given offset ≡ false → (SomeNotes image n → ⊥) → PvhIs image offset n PvhEntryIgnored

-- ---- all three

pub record ResultIs (image : List ℕ) (offset : Option GuestAddress) (n : ℕ) (result : KernelLoaderResult) : Type 0 where
  pub load : result.kernel_load ≡ load_address image offset
  pub end : GreatestEnd image offset n result.kernel_end.0
  pub pvh : PvhIs image offset n result.pvh_boot_cap

-- as the values of the answer
pub record ElfValues (image : List ℕ) (offset : Option GuestAddress) (values : List ℕ) : Type 0 where
  pub end : ℕ
  pub pvh : PvhBootCapability
  pub end_is : GreatestEnd image offset (e_phnum_of image) end
  pub pvh_is : PvhIs image offset (e_phnum_of image) pvh
  pub are : values ≡ (amount_of offset + e_entry_of image) ∷ end ∷ pvh_code pvh ∷ pvh_address pvh ∷ pvh_place pvh ∷ pvh_size pvh ∷ []
