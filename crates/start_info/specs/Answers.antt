-- Answers by the catalogue's number.
use Rattle.answers.specs.Tests.{Check}
use Rattle.std.specs.Prelude.{ℕ}
use Rattle.answers.specs.Catalogue.{check_number}

-- the number that writing, checking and reading a block answer: the refusal's, and 0 if none refused
unfoldable pub gate_number : Check → ℕ
gate_number check = check_number check
