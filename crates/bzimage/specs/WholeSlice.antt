-- A load as it was before maps: guest memory is a slice of this length, and room is that the bytes lie within it. These definitions are here for
-- comparison alone, and differ from those of Plan in the memory.
use Rattle.guest.specs.declared.GuestAddress.{GuestAddress}
use Rattle.guest.specs.Answers.{Answer}
use Rattle.std.specs.Prelude.{ℕ, Bool, true, List, [], ◌∷◌, ◌++◌, eqb, length, Err, Option}
use Rattle.answers.specs.Pick.{pick}
use Rattle.answers.specs.Tests.{Test}
use Rattle.answers.specs.declared.Refusal.TheVariants.{SliceTooLong, ReadBzImageCompressedKernel}
use Rattle.fields.specs.Ranges.{lies_within}
use Rattle.guest.specs.Loading.{Plan, behind_tests}
use Rattle.guest.specs.Sizes.{allowed}
use Rattle.bzimage.specs.Kernel.{kernel_size, load_of}
use Rattle.bzimage.specs.Plan.{image_tests, kernel_plan}

-- is there room for n bytes at an address? For none there always is
unfoldable pub room_within : ℕ → ℕ → ℕ → Bool
room_within size address n = pick (eqb n 0) true (lies_within size address n)

abbrev pub tests_within : List ℕ → ℕ → Option GuestAddress → Option GuestAddress → List Test
tests_within image size offset highmem =
    (allowed (length image), SliceTooLong)
    ∷ (allowed size, SliceTooLong)
    ∷ image_tests image highmem
    ++ ((room_within size (load_of image offset).0 (kernel_size image), ReadBzImageCompressedKernel) ∷ [])

abbrev pub plan_within : List ℕ → ℕ → Option GuestAddress → Option GuestAddress → Plan Answer
plan_within image size offset highmem = behind_tests Err (tests_within image size offset highmem) (kernel_plan image (load_of image offset))
