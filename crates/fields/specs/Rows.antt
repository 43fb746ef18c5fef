-- Rows of numbers in one list, their fields in turn, and the little-endian bytes they take.
use Rattle.std.specs.Prelude.{Bool, ◌&&◌, List, [], ◌∷◌, ◌++◌, ℕ, zero, suc, ◌+◌, ◌%◌, ◌^◌, ◌<◌, min, eqb, length, get_or}
use Rattle.fields.specs.Numbers.{le, le_bytes, fits}
use Rattle.fields.specs.Every.{every}

-- the width of the i-th number, where the fields of a row have these widths; a width above 8 counts as 8
unfoldable pub field_width : List ℕ → ℕ → ℕ
field_width widths i = min (get_or widths (i % length widths) 0) 8

-- the bytes of numbers, the first of which is the i-th
unfoldable pub rows_bytes : (ℕ → ℕ) → List ℕ → ℕ → List ℕ
rows_bytes width [] i = []
rows_bytes width (v ∷ vs) i = le_bytes (width i) v ++ rows_bytes width vs (suc i)

-- the n numbers in s from p on, the first of which is the i-th
unfoldable pub rows_numbers : (ℕ → ℕ) → ℕ → List ℕ → ℕ → ℕ → List ℕ
rows_numbers width zero s p i = []
rows_numbers width (suc n) s p i = le (width i) s p ∷ rows_numbers width n s (p + width i) (suc i)

-- how many bytes n numbers take, the first of which is the i-th
unfoldable pub rows_length : (ℕ → ℕ) → ℕ → ℕ → ℕ
rows_length width zero i = 0
rows_length width (suc n) i = width i + rows_length width n (suc i)

-- how many bytes one row takes, whose fields have these widths
unfoldable pub row_length : List ℕ → ℕ
row_length [] = 0
row_length (w ∷ ws) = min w 8 + row_length ws

-- each number fits its field
pub data RowsFit (width : ℕ → ℕ) : List ℕ → ℕ → Type 0 where
  fit_none : {i : ℕ} → RowsFit width [] i
  fit_one : {v i : ℕ} {vs : List ℕ} → v < 256 ^ width i → RowsFit width vs (suc i) → RowsFit width (v ∷ vs) i

-- are these numbers whole rows, each number fitting its field?
unfoldable pub are_rows : List ℕ → List ℕ → Bool
are_rows widths vs = eqb (length vs % length widths) 0 && every (λ (i : ℕ). fits (field_width widths i) (get_or vs i 0)) (length vs)
