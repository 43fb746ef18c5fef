-- Laws of reserved numbers, as the code asks for them.
use Prim.Native.Nat.{ℕ, suc, ◌+◌, ◌%◌, ◌≤◌, ◌<◌, min}
use mathlib.Core.Path.{◌≡◌, sym, ap, ◌∙◌}
use mathlib.Core.Bool.{Bool, true, false}
use mathlib.Core.List.{List}
use native.Mathlib.Omega.{arith}
use native.Mathlib.Nat.{zero-add}
use native.Mathlib.Decide.{ℕ_discrete}
use borrow.Author.Tests.{eq-eqb, ne_eqb, eqb-true}
use lib.Dec.{eqb}
use lib.ListN.{length, get_or}
use Rattle.std.specs.List.{list_all, enumerate_from}
use Rattle.answers.specs.Pick.{pick}
use Rattle.fields.specs.Every.{every}
use Rattle.fields.specs.Numbers.{le}
use Rattle.fields.specs.Rows.{rows_numbers, rows_length}
use Rattle.fields.proofs.EveryLaws.{every_each, each_every, every_fails, every_same, all_every}
use Rattle.fields.proofs.RowsLaws.{numbers_count}
use Rattle.start_info.specs.Kinds.{row_fields, reserved_is_zero, reserved_are_zero}
use Rattle.fields.proofs.RowsPlaces.{number_at, length_next, le_clipped}

pub is_reserved : (i v : ℕ) → i % row_fields ≡ 3 → eqb v 0 ≡ reserved_is_zero i v
unfolding reserved_is_zero pick
is_reserved i v e = rw (eq-eqb (i % row_fields) 3 e)

pub not_reserved : (i v : ℕ) → (i % row_fields ≡ 3 → ⊥) → true ≡ reserved_is_zero i v
unfolding reserved_is_zero pick
not_reserved i v h = rw (ne_eqb (i % row_fields) 3 h)

-- ---- of a list

module _ (rows : List ℕ) where
  abbrev pub zero_at : ℕ → Bool
  zero_at i = reserved_is_zero i (get_or rows i 0)

  pub zero_fails : (i : ℕ) → i < length rows → zero_at i ≡ false → reserved_are_zero rows ≡ false
  unfolding reserved_are_zero
  zero_fails i h f = every_fails zero_at (length rows) i h f

  pub zero_all : {i : ℕ} → i ≡ length rows → every zero_at i ≡ true → reserved_are_zero rows ≡ true
  unfolding reserved_are_zero
  zero_all e all = ap (every zero_at) (sym e) ∙ all

  -- each number of the list, counted from 0, is tested
  pub zero_listed : list_all (λ (p : ℕ × ℕ). reserved_is_zero p.0 p.1) (enumerate_from 0 rows) ≡ reserved_are_zero rows
  unfolding reserved_are_zero
  zero_listed =
      all_every reserved_is_zero rows 0 ∙ every_same _ _ (length rows) (λ i. ap (λ (k : ℕ). reserved_is_zero k (get_or rows i 0)) (zero-add i))

-- what the test says

pub zero_means : (rows : List ℕ) → reserved_are_zero rows ≡ true → (i : ℕ) → i < length rows → i % row_fields ≡ 3 → get_or rows i 0 ≡ 0
unfolding reserved_are_zero
zero_means rows e i h last = eqb-true (get_or rows i 0) 0 (is_reserved i (get_or rows i 0) last ∙ every_each (zero_at rows) (length rows) i e h)

pub means_zero : (rows : List ℕ) → ((i : ℕ) → i < length rows → i % row_fields ≡ 3 → get_or rows i 0 ≡ 0) → reserved_are_zero rows ≡ true
unfolding reserved_are_zero
means_zero rows zeros = each_every (zero_at rows) (length rows) (λ i h. split i h (ℕ_discrete (i % row_fields) 3))
  where
    split : (i : ℕ) → i < length rows → Dec (i % row_fields ≡ 3) → zero_at rows i ≡ true
    split i h (yes last) = sym (is_reserved i (get_or rows i 0) last) ∙ eq-eqb (get_or rows i 0) 0 (zeros i h last)
    split i h (no other) = sym (not_reserved i (get_or rows i 0) other)

-- ---- of n numbers that stand at a place, number by number

module _ (width : ℕ → ℕ) (n : ℕ) (s : List ℕ) (at : ℕ) where
  abbrev pub standing : List ℕ
  standing = rows_numbers width n s at 0

  -- p is the place of the i-th number, or both are past the end
  abbrev pub Place : ℕ → ℕ → Type 0
  Place p i = min p (length s) ≡ min (at + rows_length width i 0) (length s)

  pub place_first : Place at 0
  unfolding rows_length
  place_first = omega arith

  pub place_next : (p i : ℕ) {w q : ℕ} → Place p i → w ≡ width i → q ≡ min (p + w) (length s) → Place q (suc i)
  place_next p i {w} {q} here ew eq =
      let more : rows_length width (suc i) 0 ≡ rows_length width i 0 + w = length_next width i 0 ∙ ap (λ (k : ℕ). rows_length width i 0 + k) (ap width (zero-add i) ∙ sym ew) in
      omega arith

  -- the test of the i-th number, as the code is told it: its width is at most 8
  pub stand_told : (p i : ℕ) {w v : ℕ} {t : Bool} → i < n → width i ≤ 8 → Place p i → w ≡ width i → v ≡ le (min w 8) s p → t ≡ reserved_is_zero i v → t ≡ zero_at standing i
  stand_told p i {w} h small here ew ev et =
      let narrow : min w 8 ≡ width i = omega arith in
      et
      ∙ ap (reserved_is_zero i)
      (ev
      ∙ ap (λ (k : ℕ). le k s p) narrow
      ∙ le_clipped (width i) s (at + rows_length width i 0) p here
      ∙ ap (λ (k : ℕ). le (width k) s (at + rows_length width i 0)) (sym (zero-add i))
      ∙ sym (number_at width n s at 0 i h))

  pub stand_fails : (i : ℕ) → i < n → zero_at standing i ≡ false → reserved_are_zero standing ≡ false
  stand_fails i h = zero_fails standing i (let count = numbers_count width n s at 0 in omega arith)

  pub stand_all : {i : ℕ} → i ≡ n → every (zero_at standing) i ≡ true → reserved_are_zero standing ≡ true
  stand_all e = zero_all standing (e ∙ sym (numbers_count width n s at 0))
