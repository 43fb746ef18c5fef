-- What an image is by its magic number.
use Rattle.loads.specs.declared.Format.{Format}
use Rattle.std.specs.Prelude.{List, ℕ, eqb, Some, None, Option}
use Rattle.answers.specs.Pick.{pick}
use Rattle.fields.specs.Numbers.{le}
use Rattle.fields.specs.Tags.{tag_at}
use Rattle.elf.specs.Header.{magic}
use Rattle.bzimage.specs.SetupHeader.{header_magic}
use Rattle.arm64.specs.Image as arm64
use Rattle.loads.specs.declared.Format.TheVariants.{Elf, BzImage, Arm64}

-- the first of these that it has: an ELF file's at 0, a setup header's `HdrS`, an arm64 Image's at 56
unfoldable pub kind_of : List ℕ → Option Format
kind_of image =
    pick (tag_at magic image 0) (Some Elf)
    (pick (eqb (le 4 image header_magic) 0x53726448) (Some BzImage)
    (pick (eqb (arm64.magic image) arm64.the_magic) (Some Arm64) None))
