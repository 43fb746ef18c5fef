-- Program headers.
use Rattle.std.specs.Prelude.{ℕ, ◌+◌, ◌*◌, ◌≤◌, ◌<◌, List, length, ltb, eqb, Option, Some, None}
use Rattle.answers.specs.Pick.{pick}
use Rattle.fields.specs.Numbers.{le}
use Rattle.fields.specs.Ranges.{lies_within, fits64}
use Rattle.guest.specs.declared.GuestAddress.{GuestAddress}
use Rattle.elf.specs.Header.{e_phoff_of, e_phnum_of, program_header_size}
use Rattle.elf.specs.declared.program_headers.ProgramHeader.{ProgramHeader}

-- where program header i stands
abbrev pub header_place : List ℕ → ℕ → ℕ
header_place image i = e_phoff_of image + program_header_size * i

-- the program header at a place: its type, its file bytes' place, its physical address, its sizes in the file and in memory
unfoldable pub header_at : List ℕ → ℕ → ProgramHeader
header_at image p = record {
  p_type = le 4 image p;
  p_offset = record { 0 = le 8 image (p + 8) };
  p_paddr = record { 0 = le 8 image (p + 24) };
  p_filesz = le 8 image (p + 32);
  p_memsz = le 8 image (p + 40);
}

abbrev pub header_of : List ℕ → ℕ → ProgramHeader
header_of image i = header_at image (header_place image i)

-- program header i of a load, if there is one and it lies in the image
unfoldable pub header_in : List ℕ → ℕ → Option ProgramHeader
header_in image i =
    pick (ltb i (e_phnum_of image))
    (pick (lies_within (length image) (e_phoff_of image) (program_header_size * i + program_header_size)) (Some (header_of image i)) None)
    None

-- where a loadable segment goes, moved by shift, if that is a number of 64 bits
unfoldable pub segment_address : ℕ → ProgramHeader → Option GuestAddress
segment_address shift h =
    pick (eqb h.p_type 1) (pick (fits64 shift h.p_paddr.0) (Some (record { 0 = shift + h.p_paddr.0 })) None) None

-- the first n program headers stand in the image
pub record HeadersStand (image : List ℕ) (n : ℕ) : Type 0 where
  pub stands : (i : ℕ) → i < n → header_place image i + program_header_size ≤ length image
