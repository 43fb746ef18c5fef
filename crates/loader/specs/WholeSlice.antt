-- The loading of a line as it was before maps: guest memory is a slice of this length, and room is that the line lies within it. These definitions
-- are here for comparison alone, and differ from those of Lines in the memory.
use Rattle.std.specs.Prelude.{ℕ, List, [], ◌∷◌, ◌++◌, length, Err}
use Rattle.answers.specs.Tests.{Test, Check}
use Rattle.answers.specs.declared.Refusal.TheVariants.{SliceTooLong, CommandLineOverflow}
use Rattle.cmdline.specs.Text.{Text}
use Rattle.fields.specs.Ranges.{lies_within}
use Rattle.guest.specs.Loading.{Plan, behind_tests}
use Rattle.guest.specs.Sizes.{allowed}
use Rattle.loader.specs.Lines.{line_bytes, text_row, line_plan}

abbrev pub tests_within : Text → ℕ → ℕ → List Test
tests_within t size address =
    (allowed size, SliceTooLong) ∷ text_row t ++ ((lies_within size address (length (line_bytes t)), CommandLineOverflow) ∷ [])

abbrev pub plan_within : Text → ℕ → ℕ → Plan Check
plan_within t size address = behind_tests Err (tests_within t size address) (line_plan t address)
