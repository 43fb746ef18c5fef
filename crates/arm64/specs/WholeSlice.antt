-- A load with no map: guest memory is a slice of this length, and room is that the file lies within it. These definitions are here for
-- comparison alone, and differ from those of Plan in the memory.
use Rattle.guest.specs.Answers.{Answer}
use Rattle.std.specs.Prelude.{ℕ, List, [], ◌∷◌, ◌++◌, length, Err}
use Rattle.answers.specs.Tests.{Test}
use Rattle.answers.specs.declared.Refusal.TheVariants.{SliceTooLong, NoRoomForImage, ImageEndWraps}
use Rattle.fields.specs.Ranges.{lies_within, fits64}
use Rattle.guest.specs.Loading.{Plan, behind_tests}
use Rattle.guest.specs.Sizes.{allowed}
use Rattle.arm64.specs.Image.{image_size, start_of}
use Rattle.arm64.specs.Plan.{image_tests, image_plan}

abbrev pub places_within : List ℕ → ℕ → ℕ → List Test
places_within image size base =
    (lies_within size (start_of image base) (length image), NoRoomForImage) ∷ (fits64 (start_of image base) (image_size image), ImageEndWraps) ∷ []

abbrev pub tests_within : List ℕ → ℕ → ℕ → List Test
tests_within image size base = (allowed (length image), SliceTooLong) ∷ (allowed size, SliceTooLong) ∷ image_tests image base ++ places_within image size base

abbrev pub plan_within : List ℕ → ℕ → ℕ → Plan Answer
plan_within image size base = behind_tests Err (tests_within image size base) (image_plan image base)
