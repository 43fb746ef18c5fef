-- All rules of a load, in no order.
use Rattle.guest.specs.declared.GuestAddress.{GuestAddress}
use Rattle.std.specs.Prelude.{ℕ, ◌+◌, ◌<◌, ◌≡◌, true, false, List, leb, length, Ok, Option}
use Rattle.answers.specs.Tests.{AllHold}
use Rattle.fields.specs.Ranges.{lies_within, fits64}
use Rattle.guest.specs.Addresses.{amount_of, is_given}
use Rattle.guest.specs.Room.{room}
use Rattle.guest.specs.declared.Memory.{Memory}
use Rattle.elf.specs.Header.{tests, e_phnum_of}
use Rattle.elf.specs.ProgramHeaders.{header_of}
use Rattle.elf.specs.NoteWalk.{entry_of}
use Rattle.elf.specs.Notes.{NoteAnswer}
use Rattle.elf.specs.declared.ElfNote.{ElfNote}
use Rattle.elf.specs.declared.program_headers.ProgramHeader.{ProgramHeader}

-- of a loadable segment with file bytes
pub record SegmentRules (imageLength : ℕ) (m : Memory) (shift : ℕ) (h : ProgramHeader) : Type 0 where
  pub address_fits : fits64 shift h.p_paddr.0 ≡ true
  pub in_image : lies_within imageLength h.p_offset.0 h.p_filesz ≡ true
  pub in_guest : room m (shift + h.p_paddr.0) h.p_filesz ≡ true
  pub end_fits : fits64 (shift + h.p_paddr.0) h.p_memsz ≡ true

-- one that has file bytes keeps them
abbrev pub SegmentFits : ℕ → Memory → ℕ → ProgramHeader → Type 0
SegmentFits imageLength m shift h = h.p_type ≡ 1 → 0 < h.p_filesz → SegmentRules imageLength m shift h

-- of one of memory alone
pub record MemoryRules (shift : ℕ) (h : ProgramHeader) : Type 0 where
  pub address_fits : fits64 shift h.p_paddr.0 ≡ true
  pub end_fits : fits64 (shift + h.p_paddr.0) h.p_memsz ≡ true

-- the notes of a program header do not refuse
pub data NotesSay : NoteAnswer → Type 0 where
  notes_say : {note : ElfNote} → NotesSay (Ok note)

-- of any program header
pub record HeaderRules (image : List ℕ) (m : Memory) (offset : Option GuestAddress) (h : ProgramHeader) : Type 0 where
  pub sizes : h.p_type ≡ 1 → leb h.p_filesz h.p_memsz ≡ true
  pub segment : SegmentFits (length image) m (amount_of offset) h
  pub memory : h.p_type ≡ 1 → h.p_filesz ≡ 0 → 0 < h.p_memsz → MemoryRules (amount_of offset) h
  pub notes : h.p_type ≡ 4 → is_given offset ≡ false → NotesSay (entry_of image h.p_offset h.p_filesz)

-- of a load
pub record Rules (image : List ℕ) (m : Memory) (offset highmem : Option GuestAddress) : Type 0 where
  pub before : AllHold (tests image m offset highmem)
  pub headers : (j : ℕ) → j < e_phnum_of image → HeaderRules image m offset (header_of image j)
