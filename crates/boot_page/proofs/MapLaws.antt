-- Laws of the memory map's test, as the code asks it.
use Prim.Native.Nat.{ℕ, suc, ◌-◌, ◌<◌}
use mathlib.Core.Path.{◌≡◌, ◌∙◌, refl, ap}
use mathlib.Core.Bool.{Bool, true, false, ◌&&◌}
use mathlib.Core.List.{List}
use native.Mathlib.Omega.{arith}
use borrow.Author.Tests.{lt-ltb, le-ltb}
use lib.Dec.{ltb}
use Rattle.fields.specs.Ranges.{fits64}
use Rattle.fields.specs.Every.{every}
use Rattle.fields.proofs.EveryLaws.{left_failed, right_failed}
use Rattle.boot_page.specs.Map.{address_of, size_of, rows_apart, row_is_good}

module _ (rows : List ℕ) (i : ℕ) where
  pub row_empty : size_of rows i ≡ 0 → row_is_good rows i ≡ false
  unfolding row_is_good
  row_empty e = left_failed (fits64 (address_of rows i) (size_of rows i) && every (rows_apart rows i) i) (le-ltb 0 (size_of rows i) (omega arith))

  pub row_wraps : fits64 (address_of rows i) (size_of rows i) ≡ false → row_is_good rows i ≡ false
  unfolding row_is_good
  row_wraps f = right_failed (ltb 0 (size_of rows i)) (left_failed (every (rows_apart rows i) i) f)

  -- of the others the test of the earlier rows is what is left
  pub row_by : {b : Bool} → (size_of rows i ≡ 0 → ⊥) → fits64 (address_of rows i) (size_of rows i) ≡ true → b ≡ every (rows_apart rows i) i → b ≡ row_is_good rows i
  unfolding row_is_good
  row_by some fits e = rw (lt-ltb 0 (size_of rows i) (omega arith), fits) e

-- ---- the earlier rows, the nearest first, of which those below j are left to test

and_true : (a : Bool) → (a && true) ≡ a
and_true true = refl
and_true false = refl

-- one that is apart leaves those before it
pub row_left : (rows : List ℕ) (i j : ℕ) → 0 < j → every (rows_apart rows i) i ≡ every (rows_apart rows i) j → rows_apart rows i (j - 1) ≡ true
    → every (rows_apart rows i) i ≡ every (rows_apart rows i) (j - 1)
unfolding every
row_left rows i j some left is =
    let test = rows_apart rows i in
    let last : j ≡ suc (j - 1) = omega arith in
    left ∙ ap (every test) last ∙ ap (λ b. every test (j - 1) && b) is ∙ and_true (every test (j - 1))

-- and one that is not decides
pub row_met : (rows : List ℕ) (i j : ℕ) → 0 < j → every (rows_apart rows i) i ≡ every (rows_apart rows i) j → rows_apart rows i (j - 1) ≡ false
    → row_is_good rows i ≡ false
unfolding every row_is_good
row_met rows i j some left is =
    let test = rows_apart rows i in
    let last : j ≡ suc (j - 1) = omega arith in
    let met = left ∙ ap (every test) last ∙ right_failed (every test (j - 1)) is in
    right_failed (ltb 0 (size_of rows i)) (right_failed (fits64 (address_of rows i) (size_of rows i)) met)
