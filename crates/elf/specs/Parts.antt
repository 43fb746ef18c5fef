-- The parts of a load, one for each program header; of any image, since a later step may meet another one than the first.
use Rattle.guest.specs.declared.GuestAddress.{GuestAddress}
use Rattle.std.specs.Prelude.{ℕ, ◌+◌, ◌*◌, List, ltb, eqb, length, Option}
use Rattle.answers.specs.Pick.{pick}
use Rattle.fields.specs.Ranges.{lies_within, fits64}
use Rattle.guest.specs.Addresses.{amount_of}
use Rattle.guest.specs.Parts.{no_part}
use Rattle.guest.specs.declared.Part.{Part}
use Rattle.elf.specs.Header.{e_phoff_of, e_phnum_of, program_header_size}
use Rattle.elf.specs.ProgramHeaders.{header_at, header_of}
use Rattle.elf.specs.declared.program_headers.ProgramHeader.{ProgramHeader}

-- of a program header: its file bytes, if it is loadable, at its address moved by shift
unfoldable pub header_part : ℕ → ProgramHeader → Part
header_part shift h =
    pick (eqb h.p_type 1)
    (pick (fits64 shift h.p_paddr.0)
    (record { address = record { 0 = shift + h.p_paddr.0 }; place = h.p_offset; size = h.p_filesz })
    no_part)
    no_part

-- of a program header whose own bytes these are; fewer than its 56 bytes have none
unfoldable pub own_part : List ℕ → ℕ → Part
own_part header shift = pick (ltb (length header) 56) no_part (header_part shift (header_at header 0))

-- of program header i, if the header lies in the image
unfoldable pub part_at : List ℕ → ℕ → ℕ → Part
part_at image shift i =
    pick (lies_within (length image) (e_phoff_of image) (program_header_size * i + program_header_size)) (header_part shift (header_of image i)) no_part

-- part i of a load: from the count of program headers on there is none
unfoldable pub part_of : List ℕ → Option GuestAddress → ℕ → Part
part_of image offset i = pick (ltb i (e_phnum_of image)) (part_at image (amount_of offset) i) no_part
