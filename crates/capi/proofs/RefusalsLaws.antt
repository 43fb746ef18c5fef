-- Laws of the catalogue read backwards.
use Prim.Native.Nat.{ℕ}
use mathlib.Core.Path.{◌≡◌, refl, sym, ap, ◌∙◌}
use mathlib.Core.Bool.{true, false}
use native.Mathlib.Omega.{arith}
use borrow.Author.Tests.{eq-eqb, ne_eqb}
use lib.Dec.{eqb}
use Rattle.answers.specs.Pick.{pick}
use Rattle.answers.proofs.BoolLaws.{right_holds}
use Rattle.answers.specs.Catalogue.{number_of}
use Rattle.answers.specs.declared.Refusal.{Refusal}
use Rattle.capi.specs.Refusals.{first_with, refusal_of, is_known}

-- the refusal of a refusal's number is itself
pub refusal_back : (r : Refusal) → refusal_of (number_of r) ≡ r
unfolding refusal_of first_with pick
refusal_back r = grind arith

-- the number of a refusal is known, and 0 is
pub refusal_known : (r : Refusal) → is_known (number_of r) ≡ true
unfolding is_known
refusal_known r = right_holds (eqb (number_of r) 0) (eqb (number_of r) (number_of (refusal_of (number_of r)))) (eq-eqb (number_of r) (number_of (refusal_of (number_of r))) (sym (ap number_of (refusal_back r))))

pub zero_known : is_known 0 ≡ true
unfolding is_known
zero_known = refl

-- no refusal has the number 0
pub not_zero : (r : Refusal) → eqb (number_of r) 0 ≡ false
not_zero r = grind arith

-- a number that a refusal has, and one that none has
pub is_number : (n : ℕ) {r : Refusal} → number_of r ≡ n → (refusal_of n ≡ r) × (is_known n ≡ true)
unfolding is_known
is_number n {r} e =
    let back : refusal_of n ≡ r = ap refusal_of (sym e) ∙ refusal_back r in
    (back, right_holds (eqb n 0) (eqb n (number_of (refusal_of n))) (eq-eqb n (number_of (refusal_of n)) (sym e ∙ ap number_of (sym back))))

pub no_number : (n : ℕ) → (n ≡ 0 → ⊥) → ((r : Refusal) → number_of r ≡ n → ⊥) → is_known n ≡ false
unfolding is_known
no_number n other none = rw (ne_eqb n 0 other, ne_eqb n (number_of (refusal_of n)) (λ e. none (refusal_of n) (sym e)))
