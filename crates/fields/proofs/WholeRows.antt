-- n whole rows take n times the bytes of one.
use Prim.Native.Nat.{ℕ, zero, suc, ◌+◌, ◌*◌, ◌<◌, min}
use mathlib.Core.Path.{◌≡◌, refl, sym, ap, ap₂, ◌∙◌}
use mathlib.Core.List.{List, [], ◌∷◌}
use native.Mathlib.Omega.{arith}
use native.Mathlib.Nat.{zero-add, zero-mul, suc-mul, suc-add, add-suc, add_comm, add-mod_left, mod-eq_of_lt}
use lib.ListN.{length, get_or, drop}
use lib.Seq.{drop-cons}
use Rattle.fields.specs.Rows.{field_width, rows_length, row_length}

length_split : (width : ℕ → ℕ) (n m i : ℕ) → rows_length width (n + m) i ≡ rows_length width n i + rows_length width m (n + i)
unfolding rows_length
length_split width zero m i = rw (zero-add m, zero-add i, zero-add (rows_length width m i))
length_split width (suc n) m i = rw (suc-add n m, suc-add n i, length_split width n m (suc i), add-suc n i) (omega arith)

module _ (widths : List ℕ) where
  -- one row further the widths are the same
  length_shifted : (n i : ℕ) → rows_length (field_width widths) n (length widths + i) ≡ rows_length (field_width widths) n i
  unfolding rows_length field_width
  length_shifted zero i = refl
  length_shifted (suc n) i =
      ap₂ (λ (a b : ℕ). a + b) (ap (λ (k : ℕ). min (get_or widths k 0) 8) (add-mod_left (length widths) i))
      (ap (rows_length (field_width widths) n) (sym (add-suc (length widths) i)) ∙ length_shifted n (suc i))

  -- the fields of a row from the i-th on
  length_from : (ws : List ℕ) (i : ℕ) → drop i widths ≡ ws → i + length ws ≡ length widths → rows_length (field_width widths) (length ws) i ≡ row_length ws
  unfolding rows_length row_length field_width
  length_from [] i e n = refl
  length_from (w ∷ ws) i e n =
      let low : i < length widths = omega arith in
      let here = sym (drop-cons widths i 0 low) ∙ e in
      ap₂ (λ (a b : ℕ). a + b) (ap (λ (k : ℕ). min k 8) (ap (λ (k : ℕ). get_or widths k 0) (mod-eq_of_lt low) ∙ ap (λ (l : List ℕ). get_or l 0 0) here))
      (length_from ws (suc i) (ap (drop 1) here) (omega arith))

  one_row : rows_length (field_width widths) (length widths) 0 ≡ row_length widths
  one_row = length_from widths 0 refl (omega arith)

  pub whole_rows : (n : ℕ) → rows_length (field_width widths) (n * length widths) 0 ≡ n * row_length widths
  unfolding rows_length
  whole_rows zero = rw (zero-mul (length widths), zero-mul (row_length widths))
  whole_rows (suc n) =
      ap (λ (k : ℕ). rows_length (field_width widths) k 0) (suc-mul n (length widths) ∙ add_comm (n * length widths) (length widths))
      ∙ length_split (field_width widths) (length widths) (n * length widths) 0
      ∙ ap₂ (λ (a b : ℕ). a + b) one_row (length_shifted (n * length widths) 0 ∙ whole_rows n)
      ∙ add_comm (row_length widths) (n * row_length widths)
      ∙ sym (suc-mul n (row_length widths))
