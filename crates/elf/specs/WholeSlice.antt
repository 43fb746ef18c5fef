-- A load as it was before maps: guest memory is a slice of this length, and room is that the bytes lie within it. For comparison only.
use Rattle.guest.specs.declared.GuestAddress.{GuestAddress}
use Rattle.guest.specs.Answers.{Answer}
use Rattle.std.specs.Prelude.{ℕ, List, ◌∷◌, length, Err, Option}
use Rattle.answers.specs.Tests.{Test}
use Rattle.answers.specs.declared.Refusal.TheVariants as refusal
use Rattle.fields.specs.Ranges.{lies_within}
use Rattle.guest.specs.Loading.{Plan, behind_tests}
use Rattle.guest.specs.Sizes.{allowed}
use Rattle.elf.specs.Header.{header_tests}
use Rattle.elf.specs.Pouring.{survey_plan}
use Rattle.elf.specs.Survey.{survey_of}

-- the tests before the program headers
abbrev pub tests_within : List ℕ → ℕ → Option GuestAddress → Option GuestAddress → List Test
tests_within image size offset highmem =
    (allowed (length image), refusal.SliceTooLong) ∷ (allowed size, refusal.SliceTooLong) ∷ header_tests image offset highmem

-- the plan
abbrev pub plan_within : List ℕ → ℕ → Option GuestAddress → Option GuestAddress → Plan Answer
plan_within image size offset highmem =
    behind_tests Err (tests_within image size offset highmem) (survey_plan image offset (survey_of image (lies_within size) offset))
