-- What theorems compare a load with: memory that grows, memory with no map, and another image with the same bytes where a plan looks.
use Rattle.guest.specs.declared.GuestAddress.{GuestAddress}
use Rattle.guest.specs.Answers.{Answer}
use Rattle.std.specs.Prelude.{List, ℕ, Option}
use Rattle.answers.specs.declared.Refusal.{Refusal}
use Rattle.guest.specs.Addresses.{amount_of}
use Rattle.guest.specs.Loading.{Plan}
use Rattle.elf.specs.Footprint as elf_footprint
use Rattle.elf.specs.Lengthening as elf
use Rattle.elf.specs.WholeSlice as elf_slice
use Rattle.bzimage.specs.Footprint as bzimage_footprint
use Rattle.bzimage.specs.Plan as bzimage
use Rattle.bzimage.specs.WholeSlice as bzimage_slice
use Rattle.arm64.specs.Footprint as arm64_footprint
use Rattle.arm64.specs.Plan as arm64
use Rattle.arm64.specs.WholeSlice as arm64_slice
use Rattle.loads.specs.declared.Format.{Format}
use Rattle.loads.specs.declared.Format.TheVariants.{Elf, BzImage, Arm64}
use Rattle.loads.specs.declared.Options.{Options}

-- the refusals for missing room in guest memory, which more memory may lift: 10, 24, 87
unfoldable pub ForRoom : Format → Refusal → Type 0
ForRoom Elf = elf.ForRoom
ForRoom BzImage = bzimage.ForRoom
ForRoom Arm64 = arm64.ForRoom

-- the plan of a load into a slice of this length with no map
unfoldable pub plan_within_by : Format → List ℕ → ℕ → Option GuestAddress → Option GuestAddress → Plan Answer
plan_within_by Elf image size offset highmem = elf_slice.plan_within image size offset highmem
plan_within_by BzImage image size offset highmem = bzimage_slice.plan_within image size offset highmem
plan_within_by Arm64 image size offset highmem = arm64_slice.plan_within image size (amount_of offset)

abbrev pub plan_within : List ℕ → ℕ → Options → Plan Answer
plan_within image size o = plan_within_by o.format image size o.kernel_offset o.highmem_start

-- two images of one length that hold the same bytes where a plan looks
unfoldable pub SameFootprint : Format → List ℕ → List ℕ → Option GuestAddress → Type 0
SameFootprint Elf s t offset = elf_footprint.SameFootprint s t offset
SameFootprint BzImage s t offset = bzimage_footprint.SameFootprint s t
SameFootprint Arm64 s t offset = arm64_footprint.SameFootprint s t
