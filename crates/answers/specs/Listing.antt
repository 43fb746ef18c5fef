-- The numbers that a call may answer, as a list.
use Rattle.std.specs.Prelude.{ℕ, ◌≡◌, Bool, true, false, ◌&&◌, ◌||◌, List, [], ◌∷◌, eqb}
use Rattle.answers.specs.Catalogue.{number_of}
use Rattle.answers.specs.Tests.{Test}
use Rattle.answers.specs.declared.Refusal.{Refusal}

-- is a number in the list?
unfoldable pub contains : List ℕ → ℕ → Bool
contains [] n = false
contains (x ∷ xs) n = eqb x n || contains xs n

-- the refusal's number is in the list
abbrev pub Listed : List ℕ → Refusal → Type 0
Listed numbers refusal = contains numbers (number_of refusal) ≡ true

-- are the numbers of all refusals of a row of tests in the list?
unfoldable pub row_listed : List ℕ → List Test → Bool
row_listed numbers [] = true
row_listed numbers (t ∷ ts) = contains numbers (number_of t.1) && row_listed numbers ts
