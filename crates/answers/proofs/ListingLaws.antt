-- Laws of the numbers that a call may answer.
use Prim.Native.Nat.{ℕ}
use mathlib.Core.Path.{◌≡◌, subst}
use mathlib.Core.Bool.{true}
use mathlib.Core.Logic.{⊎_elim}
use mathlib.Core.List.{List, [], ◌∷◌, ◌++◌}
use native.Mathlib.Omega.{arith}
use lib.Dec.{eqb}
use Rattle.answers.specs.Catalogue.{number_of}
use Rattle.answers.specs.Tests.{Test, FirstFails, here, later}
use Rattle.answers.specs.Listing.{contains, Listed, row_listed}
use Rattle.answers.specs.declared.Refusal.{Refusal}
use Rattle.answers.proofs.BoolLaws.{both_held, one_held, left_holds, right_holds}

-- the first test of a row that fails has a number of the list
pub first_listed : (numbers : List ℕ) (ts : List Test) {refusal : Refusal} → row_listed numbers ts ≡ true → FirstFails refusal ts → Listed numbers refusal
unfolding row_listed
first_listed numbers [] ok x' = elim x' [ ]
first_listed numbers (t ∷ ts) ok (here f e) =
    subst (Listed numbers) e (both_held (contains numbers (number_of t.1)) (row_listed numbers ts) ok).0
first_listed numbers (t ∷ ts) ok (later h rest) =
    first_listed numbers ts (both_held (contains numbers (number_of t.1)) (row_listed numbers ts) ok).1 rest

-- two lists, one behind the other
pub listed_left : (ms ns : List ℕ) (r : Refusal) → Listed ms r → Listed (ms ++ ns) r
unfolding contains
listed_left [] ns r e = absurd (let w : ◌≡◌ {A = ℕ} 0 1 = cc in omega arith)
listed_left (x ∷ ms) ns r e =
    ⊎_elim (λ h. left_holds (eqb x (number_of r)) (contains (ms ++ ns) (number_of r)) h)
    (λ h. right_holds (eqb x (number_of r)) (contains (ms ++ ns) (number_of r)) (listed_left ms ns r h)) (one_held (eqb x (number_of r)) (contains ms (number_of r)) e)

pub listed_right : (ms ns : List ℕ) (r : Refusal) → Listed ns r → Listed (ms ++ ns) r
unfolding contains
listed_right [] ns r e = e
listed_right (x ∷ ms) ns r e = right_holds (eqb x (number_of r)) (contains (ms ++ ns) (number_of r)) (listed_right ms ns r e)
