-- Laws of numbers that are whole rows, each number fitting its field.
use Prim.Native.Nat.{ℕ, suc, ◌+◌, ◌%◌, ◌^◌, ◌<◌}
use mathlib.Core.Path.{◌≡◌, ap, subst, ◌∙◌}
use mathlib.Core.Bool.{Bool, true, false}
use mathlib.Core.List.{List, [], ◌∷◌}
use native.Mathlib.Omega.{arith}
use native.Mathlib.Nat.{zero-add, add-zero}
use borrow.Author.Tests.{eq-eqb, ne_eqb, eqb-true}
use lib.Dec.{eqb}
use lib.ListN.{length, get_or}
use Rattle.std.specs.List.{list_all, enumerate_from}
use Rattle.fields.specs.Numbers.{fits}
use Rattle.fields.specs.Every.{every}
use Rattle.fields.specs.Rows.{field_width, are_rows, RowsFit, fit_none, fit_one}
use Rattle.fields.proofs.NumbersLaws.{fits_small}
use Rattle.fields.proofs.EveryLaws.{left_failed, left_holds, right_holds, every_same, all_every, every_each}

-- each number fits its field, told by the list
fit_from : (width : ℕ → ℕ) (vs : List ℕ) (i : ℕ) → ((k : ℕ) → k < length vs → get_or vs k 0 < 256 ^ width (i + k)) → RowsFit width vs i
fit_from width [] i h = fit_none
fit_from width (v ∷ vs) i h =
    fit_one (subst (λ (k : ℕ). v < 256 ^ width k) (add-zero i) (h 0 (omega arith)))
    (fit_from width vs (suc i) (λ k l. subst (λ (j : ℕ). get_or vs k 0 < 256 ^ width j) (next i k) (h (suc k) (omega arith))))
  where
    next : (i k : ℕ) → i + suc k ≡ suc i + k
    next i k = omega arith

module _ (widths vs : List ℕ) where
  -- the i-th number fits its field
  abbrev pub fits_at : ℕ → Bool
  fits_at i = fits (field_width widths i) (get_or vs i 0)

  -- ---- what the test says

  pub rows_whole : are_rows widths vs ≡ true → length vs % length widths ≡ 0
  unfolding are_rows
  rows_whole e = eqb-true (length vs % length widths) 0 (left_holds (eqb (length vs % length widths) 0) (every fits_at (length vs)) e)

  pub rows_fit : are_rows widths vs ≡ true → RowsFit (field_width widths) vs 0
  unfolding are_rows
  rows_fit e =
      let each = right_holds (eqb (length vs % length widths) 0) (every fits_at (length vs)) e in
      fit_from (field_width widths) vs 0 (λ k l. rw (zero_plus k) (fits_small (field_width widths k) (get_or vs k 0) (every_each fits_at (length vs) k each l)))
    where
      zero_plus : (k : ℕ) → 0 + k ≡ k
      zero_plus k = omega arith

  -- ---- as the code asks it

  pub rows_part : (length vs % length widths ≡ 0 → ⊥) → are_rows widths vs ≡ false
  unfolding are_rows
  rows_part h = left_failed (every fits_at (length vs)) (ne_eqb (length vs % length widths) 0 h)

  -- each number of the list, counted from n, is tested
  pub rows_all : length vs % length widths ≡ 0 → list_all (λ (p : ℕ × ℕ). fits (field_width widths p.0) p.1) (enumerate_from 0 vs) ≡ are_rows widths vs
  unfolding are_rows
  rows_all e =
      let from_zero = every_same _ _ (length vs) (λ i. ap (λ (k : ℕ). fits (field_width widths k) (get_or vs i 0)) (zero-add i)) in
      rw (eq-eqb (length vs % length widths) 0 e) (all_every (λ (i v : ℕ). fits (field_width widths i) v) vs 0 ∙ from_zero)
