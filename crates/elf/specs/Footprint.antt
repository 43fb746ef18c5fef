-- The bytes of an image that the plan of a load looks at: the header, the program headers, and the notes as far as the walk may go.
use Rattle.guest.specs.declared.GuestAddress.{GuestAddress}
use Rattle.std.specs.Prelude.{ℕ, ◌+◌, ◌*◌, ◌<◌, ◌≡◌, false, List, length, Option}
use Rattle.fields.specs.Agreement.{Agree}
use Rattle.guest.specs.Addresses.{is_given}
use Rattle.elf.specs.Header.{e_phoff_of, e_phnum_of, header_size, program_header_size}
use Rattle.elf.specs.ProgramHeaders.{header_of}
use Rattle.elf.specs.declared.program_headers.ProgramHeader.{ProgramHeader}

-- how far the walk looks past the end of its notes: a note begins before the end, and of a note twenty bytes are looked at, its header, its name
-- and the first four of its descriptor
abbrev pub note_reach : ℕ
note_reach = 19

-- the notes of a program header, if it has any bytes
abbrev pub SameNotes : List ℕ → List ℕ → ProgramHeader → Type 0
SameNotes s t h = h.p_type ≡ 4 → 0 < h.p_filesz → Agree s t h.p_offset.0 (h.p_filesz + note_reach)

-- two images of one length that hold the same bytes there; with an offset notes are not walked
pub record SameFootprint (s t : List ℕ) (offset : Option GuestAddress) : Type 0 where
  pub lengths : length s ≡ length t
  pub header : Agree s t 0 header_size
  pub program_headers : Agree s t (e_phoff_of s) (program_header_size * e_phnum_of s)
  pub notes : is_given offset ≡ false → (j : ℕ) → j < e_phnum_of s → SameNotes s t (header_of s j)
