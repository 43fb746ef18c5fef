-- Where each number of rows stands.
use Prim.Native.Nat.{ℕ, zero, suc, ◌+◌, ◌*◌, ◌%◌, ◌≤◌, ◌<◌, min}
use mathlib.Core.Path.{◌≡◌, sym, ap, ap₂, ◌∙◌}
use mathlib.Core.List.{List}
use native.Mathlib.Omega.{arith}
use native.Mathlib.Nat.{add-zero, zero-add}
use native.Mathlib.Decide.{dec_le}
use lib.ListN.{length, get_or}
use Rattle.fields.specs.Numbers.{le}
use Rattle.fields.specs.Rows.{field_width, rows_numbers, rows_length, row_length}
use Rattle.fields.proofs.NumbersLaws.{le_past}
use Rattle.fields.proofs.WholeRows.{whole_rows}

-- the k-th stands behind the bytes of those before it
pub number_at : (width : ℕ → ℕ) (n : ℕ) (s : List ℕ) (p i k : ℕ) → k < n → get_or (rows_numbers width n s p i) k 0 ≡ le (width (i + k)) s (p + rows_length width k i)
unfolding rows_numbers rows_length
number_at width zero s p i k h = absurd (omega arith)
number_at width (suc n) s p i zero h = rw (add-zero i, add-zero p)
number_at width (suc n) s p i (suc k) h =
    let index : suc i + k ≡ i + suc k = omega arith in
    let place : p + width i + rows_length width k (suc i) ≡ p + (width i + rows_length width k (suc i)) = omega arith in
    number_at width n s (p + width i) (suc i) k (omega arith) ∙ ap₂ (λ (a b : ℕ). le (width a) s b) index place

-- the bytes of one number more
pub length_next : (width : ℕ → ℕ) (n i : ℕ) → rows_length width (suc n) i ≡ rows_length width n i + width (i + n)
unfolding rows_length
length_next width zero i = rw (add-zero i) (omega arith)
length_next width (suc n) i =
    let index : suc i + n ≡ i + suc n = omega arith in
    rw (length_next width n (suc i), index) (omega arith)

-- places that are the same, or both past the end, have the same number
pub le_clipped : (n : ℕ) (s : List ℕ) (p q : ℕ) → min q (length s) ≡ min p (length s) → le n s q ≡ le n s p
le_clipped n s p q e = split (dec_le (length s) p)
  where
    split : Dec (length s ≤ p) → le n s q ≡ le n s p
    split (yes h) = le_past n s q (omega arith) ∙ sym (le_past n s p h)
    split (no h) = ap (le n s) (let same : q ≡ p = omega arith in same)

-- ---- rows of four fields

no_fields : (width : ℕ → ℕ) (n : ℕ) → n ≡ n + rows_length width 0 0
unfolding rows_length
no_fields width n = omega arith

module _ (widths : List ℕ) (four : length widths ≡ 4) where
  -- the width of a field does not depend on its row
  pub width_of : (i j : ℕ) → field_width widths (i * 4 + j) ≡ field_width widths j
  unfolding field_width
  width_of i j =
      let same : (i * 4 + j) % 4 ≡ j % 4 = omega arith in
      ap (λ (k : ℕ). min (get_or widths k 0) 8) (ap (λ (k : ℕ). (i * 4 + j) % k) four ∙ same ∙ ap (λ (k : ℕ). j % k) (sym four))

  -- the bytes of i rows, and those of a field more
  row_start : (i : ℕ) → rows_length (field_width widths) (i * 4) 0 ≡ i * row_length widths
  row_start i = ap (λ (k : ℕ). rows_length (field_width widths) (i * k) 0) (sym four) ∙ whole_rows widths i

  field_next : (i j : ℕ) → rows_length (field_width widths) (suc (i * 4 + j)) 0 ≡ rows_length (field_width widths) (i * 4 + j) 0 + field_width widths j
  field_next i j =
      length_next (field_width widths) (i * 4 + j) 0
      ∙ ap (λ (w : ℕ). rows_length (field_width widths) (i * 4 + j) 0 + w) (ap (field_width widths) (zero-add (i * 4 + j)) ∙ width_of i j)

  -- the bytes before a field of row i, and those before it in the first row
  fields_before : (i j : ℕ) → rows_length (field_width widths) (i * 4 + j) 0 ≡ i * row_length widths + rows_length (field_width widths) j 0
  fields_before i zero = ap (λ (n : ℕ). rows_length (field_width widths) n 0) (add-zero (i * 4)) ∙ row_start i ∙ no_fields (field_width widths) (i * row_length widths)
  fields_before i (suc j) =
      let index : i * 4 + suc j ≡ suc (i * 4 + j) = omega arith in
      let before = fields_before i j in
      let more = length_next (field_width widths) j 0 in
      let same = ap (field_width widths) (zero-add j) in
      ap (λ (n : ℕ). rows_length (field_width widths) n 0) index ∙ field_next i j ∙ omega arith

  -- the fourth of row i
  pub fourth_at : (i : ℕ) → rows_length (field_width widths) (i * 4 + 3) 0 ≡ i * row_length widths + rows_length (field_width widths) 3 0
  fourth_at i = fields_before i 3

  -- a row ends behind its fourth field
  pub row_end : row_length widths ≡ rows_length (field_width widths) 3 0 + field_width widths 3
  row_end =
      let one = row_start 1 in
      let last = length_next (field_width widths) 3 0 in
      omega arith
