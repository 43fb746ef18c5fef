-- The parts of a load that is accepted, as the copy reads them: from a table of program headers, or the one part.
use Rattle.guest.specs.declared.GuestAddress.{GuestAddress}
use Rattle.std.specs.Prelude.{List, ℕ, ◌+◌, ◌*◌, ◌≤◌, length, Option}
use Rattle.guest.specs.Addresses.{amount_of}
use Rattle.guest.specs.declared.Part.{Part}
use Rattle.elf.specs.Header.{e_phoff_of, e_phnum_of}
use Rattle.elf.specs.Parts.{header_part}
use Rattle.elf.specs.ProgramHeaders.{header_at, HeadersStand}
use Rattle.bzimage.specs.Parts as bzimage
use Rattle.arm64.specs.Parts as arm64
use Rattle.loads.specs.declared.Format.{Format}
use Rattle.loads.specs.declared.Format.TheVariants.{Elf, BzImage, Arm64}
use Rattle.loads.specs.declared.Options.{Options}
use Rattle.loads.specs.declared.formats.Layout.{Layout}
use Rattle.loads.specs.declared.formats.Layout.TheVariants.{Table, One}

unfoldable pub layout_by : Format → List ℕ → Option GuestAddress → Layout
layout_by Elf image offset = Table (record { 0 = e_phoff_of image }) (record { 0 = amount_of offset })
layout_by BzImage image offset = One (bzimage.part_of image offset)
layout_by Arm64 image offset = One (arm64.part_of image (amount_of offset))

abbrev pub layout_of : List ℕ → Options → Layout
layout_of image o = layout_by o.format image o.kernel_offset

unfoldable pub part_in : List ℕ → Layout → ℕ → Part
part_in image (Table table shift) i = header_part shift.0 (header_at image (table.0 + 56 * i))
part_in image (One part) i = part

-- if the parts are read from a table, header i lies in the image
abbrev pub HeaderLies : List ℕ → Layout → ℕ → Type 0
HeaderLies image (Table table shift) i = table.0 + 56 * i + 56 ≤ length image
HeaderLies image (One part) i = Unit {0}

-- of an ELF image the program headers lie in it
pub data TableStands (image : List ℕ) : Format → Type 0 where
  headers : HeadersStand image (e_phnum_of image) → TableStands image Elf
  bzimage_has_none : TableStands image BzImage
  arm64_has_none : TableStands image Arm64
