-- The guest memory that the segments of a load take, one range for each program header.
use Rattle.guest.specs.declared.GuestAddress.{GuestAddress}
use Rattle.std.specs.Prelude.{ℕ, ◌+◌, ◌*◌, List, ltb, eqb, length, Option}
use Rattle.answers.specs.Pick.{pick}
use Rattle.fields.specs.Ranges.{lies_within, fits64}
use Rattle.guest.specs.Addresses.{amount_of}
use Rattle.guest.specs.Extents.{no_extent}
use Rattle.guest.specs.declared.Extent.{Extent}
use Rattle.elf.specs.Header.{e_phoff_of, e_phnum_of, program_header_size}
use Rattle.elf.specs.ProgramHeaders.{header_of}
use Rattle.elf.specs.declared.program_headers.ProgramHeader.{ProgramHeader}

-- of a loadable segment: its bytes in memory, at its address moved by shift
abbrev pub segment_memory : ℕ → ProgramHeader → Extent
segment_memory shift h = record { at = record { 0 = shift + h.p_paddr.0 }; size = h.p_memsz }

-- of a program header, if it is loadable and its address is a number of 64 bits
unfoldable pub header_memory : ℕ → ProgramHeader → Extent
header_memory shift h =
    pick (eqb h.p_type 1) (pick (fits64 shift h.p_paddr.0) (segment_memory shift h) no_extent) no_extent

-- of program header i, if the header lies in the image
unfoldable pub memory_at : List ℕ → ℕ → ℕ → Extent
memory_at image shift i =
    pick (lies_within (length image) (e_phoff_of image) (program_header_size * i + program_header_size))
    (header_memory shift (header_of image i))
    no_extent

-- of program header i of a load: from the count of program headers on there is none
unfoldable pub memory_of : List ℕ → Option GuestAddress → ℕ → Extent
memory_of image offset i = pick (ltb i (e_phnum_of image)) (memory_at image (amount_of offset) i) no_extent
