-- The options of a load, as numbers.
use Rattle.guest.specs.declared.GuestAddress.{GuestAddress}
use Rattle.std.specs.Prelude.{ℕ, ◌/◌, ◌%◌, List, [], ◌∷◌, eqb, leb, Some, None, Option}
use Rattle.answers.specs.Pick.{pick}
use Rattle.answers.specs.Tests.{Test}
use Rattle.answers.specs.declared.Refusal.TheVariants.{BadList}
use Rattle.loads.specs.declared.Format.{Format}
use Rattle.loads.specs.declared.Format.TheVariants.{Elf, BzImage, Arm64}
use Rattle.loads.specs.declared.Options.{Options}

-- an address, given if its bit is 1
unfoldable pub given_by : ℕ → ℕ → Option GuestAddress
given_by bit address = pick (eqb bit 1) (Some (record { 0 = address })) None

-- a format by its number
unfoldable pub format_code : Format → ℕ
format_code Elf = 1
format_code BzImage = 2
format_code Arm64 = 3

unfoldable pub format_of : ℕ → Format
format_of n = pick (eqb n 1) Elf (pick (eqb n 2) BzImage Arm64)

-- a number that is a format's
abbrev pub format_tests : ℕ → List Test
format_tests n = (leb 1 n, BadList) ∷ (leb n 3, BadList) ∷ []

-- bit 0 of the flags gives the offset, bit 1 the start of high memory
abbrev pub options_of : ℕ → ℕ → ℕ → ℕ → Options
options_of format flags offset highmem =
    record {
      format = format_of format;
      kernel_offset = given_by (flags % 2) offset;
      highmem_start = given_by (flags / 2 % 2) highmem;
    }
