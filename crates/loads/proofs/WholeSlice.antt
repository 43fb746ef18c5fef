-- "The whole_slice map, or no range over an empty slice, gives today's answers", of a load of any format: over that map the plan is the one of a slice with
-- no map, whatever the image and the options, so every answer and every byte is the same.
use Prim.Native.Nat.{ℕ}
use mathlib.Core.Path.{◌≡◌, refl, ◌∙◌}
use mathlib.Core.List.{List}
use Rattle.guest.specs.Addresses.{amount_of}
use Rattle.guest.specs.Room.{whole_of}
use Rattle.elf.proofs.WholeSlice as elf
use Rattle.bzimage.proofs.WholeSlice as bzimage
use Rattle.arm64.proofs.WholeSlice as arm64
use Rattle.loads.specs.Formats.{plan_of}
use Rattle.loads.specs.Growing.{plan_within_by, plan_within}
use Rattle.loads.specs.declared.Format.{Format}
use Rattle.loads.specs.declared.Format.TheVariants.{Elf, BzImage, Arm64}
use Rattle.loads.specs.declared.Options.{Options}
use Rattle.loads.proofs.FormatsLaws.{elf_plan, bzimage_plan, arm64_plan}

module _ (image : List ℕ) (size : ℕ) (o : Options) where
  slice_by : (f : Format) → o.format ≡ f → plan_of image (whole_of size) o ≡ plan_within_by f image size o.kernel_offset o.highmem_start
  unfolding plan_within_by
  slice_by Elf e = elf_plan image (whole_of size) o e ∙ elf.whole_slice image size o.kernel_offset o.highmem_start
  slice_by BzImage e = bzimage_plan image (whole_of size) o e ∙ bzimage.whole_slice image size o.kernel_offset o.highmem_start
  slice_by Arm64 e = arm64_plan image (whole_of size) o e ∙ arm64.whole_slice image size (amount_of o.kernel_offset)

  pub whole_slice : plan_of image (whole_of size) o ≡ plan_within image size o
  whole_slice = slice_by o.format refl
