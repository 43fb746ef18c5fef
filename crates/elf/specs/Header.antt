-- The ELF64 header: its fields at their places, and the tests before the program headers.
use Rattle.guest.specs.declared.GuestAddress.{GuestAddress}
use Rattle.std.specs.Prelude.{ℕ, ◌*◌, Bool, true, List, [], ◌∷◌, ◌++◌, leb, eqb, length, Option}
use Rattle.answers.specs.Pick.{pick}
use Rattle.answers.specs.Tests.{Test}
use Rattle.answers.specs.declared.Refusal.TheVariants as refusal
use Rattle.fields.specs.Numbers.{le}
use Rattle.fields.specs.Ranges.{lies_within, fits64}
use Rattle.fields.specs.Tags.{tag_at}
use Rattle.guest.specs.Addresses.{amount_of}
use Rattle.guest.specs.Lent.{lent_tests}
use Rattle.guest.specs.declared.Memory.{Memory}

-- the sizes of the header and of a program header
abbrev pub header_size : ℕ
header_size = 64

abbrev pub program_header_size : ℕ
program_header_size = 56

-- the first four bytes: 7F, then ELF
abbrev pub magic : List ℕ
magic = 0x7F ∷ 0x45 ∷ 0x4C ∷ 0x46 ∷ []

-- the byte that is 1 where numbers are little-endian
abbrev pub ei_data : List ℕ → ℕ
ei_data image = le 1 image 5

-- the entry point, the place of the program headers, the size of one, their count
abbrev pub e_entry_of : List ℕ → ℕ
e_entry_of image = le 8 image 24

abbrev pub e_phoff_of : List ℕ → ℕ
e_phoff_of image = le 8 image 32

abbrev pub e_phentsize_of : List ℕ → ℕ
e_phentsize_of image = le 2 image 54

abbrev pub e_phnum_of : List ℕ → ℕ
e_phnum_of image = le 2 image 56

-- do n program headers from a place lie within a length? Where there are none, the place is not asked
unfoldable pub stand_within : ℕ → ℕ → ℕ → Bool
stand_within len phoff n = pick (eqb n 0) true (lies_within len phoff (program_header_size * n))

-- the header stands in the image
abbrev pub length_tests : List ℕ → List Test
length_tests image = (leb header_size (length image), refusal.ReadElfHeader) ∷ []

-- what it says of the file
abbrev pub file_tests : List ℕ → List Test
file_tests image =
    (tag_at magic image 0, refusal.InvalidElfMagicNumber)
    ∷ (eqb (ei_data image) 1, refusal.BigEndianElfOnLittle)
    ∷ (eqb (e_phentsize_of image) program_header_size, refusal.InvalidProgramHeaderSize)
    ∷ (leb header_size (e_phoff_of image), refusal.InvalidProgramHeaderOffset)
    ∷ []

-- the entry point, and the load address
abbrev pub entry_tests : List ℕ → Option GuestAddress → Option GuestAddress → List Test
entry_tests image offset highmem =
    (leb (amount_of highmem) (e_entry_of image), refusal.InvalidEntryAddress)
    ∷ (fits64 (amount_of offset) (e_entry_of image), refusal.Overflow)
    ∷ []

-- the program headers stand in the image
abbrev pub stand_tests : List ℕ → List Test
stand_tests image = (stand_within (length image) (e_phoff_of image) (e_phnum_of image), refusal.ReadProgramHeader) ∷ []

-- the fields of the header, in order
abbrev pub field_tests : List ℕ → Option GuestAddress → Option GuestAddress → List Test
field_tests image offset highmem = file_tests image ++ entry_tests image offset highmem ++ stand_tests image

-- the tests of the header: that it stands in the image, then its fields
abbrev pub header_tests : List ℕ → Option GuestAddress → Option GuestAddress → List Test
header_tests image offset highmem = length_tests image ++ field_tests image offset highmem

-- the tests before the program headers: of what is lent, then of the header
abbrev pub tests : List ℕ → Memory → Option GuestAddress → Option GuestAddress → List Test
tests image m offset highmem = lent_tests (length image) m ++ header_tests image offset highmem
