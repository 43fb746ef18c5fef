-- Laws of rows of numbers, over any widths.
use Prim.Native.Nat.{ℕ, zero, suc, ◌+◌, ◌≤◌, ◌<◌, min}
use mathlib.Core.Path.{◌≡◌, refl, sym, ap, ap₂, ◌∙◌}
use mathlib.Core.List.{List, [], ◌∷◌, ◌++◌}
use native.Mathlib.Omega.{arith}
use native.Mathlib.Decide.{dec_le}
use lib.ListN.{length, get_or, set, drop, length-append, drop_of_length-le}
use lib.Seq.{sets, drop-cons, length-sets}
use Rattle.fields.specs.Numbers.{le, le_bytes}
use Rattle.fields.specs.Rows.{field_width, rows_bytes, rows_numbers, rows_length}
use Rattle.fields.proofs.CopyingLaws.{sets_append, sets_clipped}
use Rattle.fields.proofs.NumbersLaws.{le_past, length_le_bytes}

pub width_small : (widths : List ℕ) (i : ℕ) → field_width widths i ≤ 8
unfolding field_width
width_small widths i = omega arith

-- the length of the bytes does not depend on the numbers
pub rows_length_lem : (width : ℕ → ℕ) (vs : List ℕ) (i : ℕ) → length (rows_bytes width vs i) ≡ rows_length width (length vs) i
unfolding rows_bytes rows_length
rows_length_lem width [] i = refl
rows_length_lem width (v ∷ vs) i =
    length-append (le_bytes (width i) v) (rows_bytes width vs (suc i))
    ∙ ap₂ (λ (a b : ℕ). a + b) (length_le_bytes (width i) v) (rows_length_lem width vs (suc i))

-- ---- written number by number

module _ (width : ℕ → ℕ) (vs : List ℕ) (i : ℕ) where
  rows_next : i < length vs → rows_bytes width (drop i vs) i ≡ le_bytes (width i) (get_or vs i 0) ++ rows_bytes width (drop (suc i) vs) (suc i)
  unfolding rows_bytes
  rows_next h = rw (drop-cons vs i 0 h)

  -- no number is left
  pub rows_put_end : (s : List ℕ) (p : ℕ) → length vs ≤ i → sets s p (rows_bytes width (drop i vs) i) ≡ s
  unfolding rows_bytes
  rows_put_end s p h = rw (drop_of_length-le vs h)

  -- one number more, with its width, what its bytes made of the slice, and the next place, as the code tells them
  pub rows_put_next : (s : List ℕ) (p : ℕ) {s' : List ℕ} {w q : ℕ} → i < length vs → w ≡ width i → s' ≡ sets s p (le_bytes w (get_or vs i 0))
      → q ≡ min (p + w) (length s) → sets s' q (rows_bytes width (drop (suc i) vs) (suc i)) ≡ sets s p (rows_bytes width (drop i vs) i)
  rows_put_next s p {s'} {w} {q} h ew es eq =
      let bytes = le_bytes w (get_or vs i 0) in
      let rest = rows_bytes width (drop (suc i) vs) (suc i) in
      let kept : length s' ≡ length s = ap length es ∙ length-sets s p bytes in
      sets_clipped rest s' (p + w) q (eq ∙ ap (min (p + w)) (sym kept))
      ∙ ap (λ (l : List ℕ). sets l (p + w) rest) es
      ∙ sym (sets_append bytes rest s p (p + w) (ap (λ (k : ℕ). p + k) (sym (length_le_bytes w (get_or vs i 0)))))
      ∙ ap (λ (k : ℕ). sets s p (le_bytes k (get_or vs i 0) ++ rest)) ew
      ∙ sym (ap (sets s p) (rows_next h))

-- ---- read number by number

pub numbers_count : (width : ℕ → ℕ) (n : ℕ) (s : List ℕ) (p i : ℕ) → length (rows_numbers width n s p i) ≡ n
unfolding rows_numbers
numbers_count width zero s p i = refl
numbers_count width (suc n) s p i = ap suc (numbers_count width n s (p + width i) (suc i))

-- from any place past the end the same numbers are read, all 0
numbers_past : (width : ℕ → ℕ) (n : ℕ) (s : List ℕ) (p q i : ℕ) → length s ≤ p → length s ≤ q → rows_numbers width n s p i ≡ rows_numbers width n s q i
unfolding rows_numbers
numbers_past width zero s p q i hp hq = refl
numbers_past width (suc n) s p q i hp hq =
    rw (le_past (width i) s p hp, le_past (width i) s q hq)
    (ap (λ (l : List ℕ). 0 ∷ l) (numbers_past width n s (p + width i) (q + width i) (suc i) (omega arith) (omega arith)))

numbers_clipped : (width : ℕ → ℕ) (n : ℕ) (s : List ℕ) (i p q : ℕ) → q ≡ min p (length s) → rows_numbers width n s q i ≡ rows_numbers width n s p i
numbers_clipped width n s i p q e = split (dec_le (length s) p)
  where
    split : Dec (length s ≤ p) → rows_numbers width n s q i ≡ rows_numbers width n s p i
    split (yes h) = numbers_past width n s q p i (omega arith) h
    split (no low) = let same : q ≡ p = omega arith in rw same

-- no number is left
pub rows_read_end : (width : ℕ → ℕ) (l s : List ℕ) (p i n : ℕ) → n ≡ 0 → sets l i (rows_numbers width n s p i) ≡ l
unfolding rows_numbers
rows_read_end width l s p i n e = rw e

-- one number more, with its width, its value and the next place, as the code tells them
pub rows_read_next : (width : ℕ → ℕ) (l s : List ℕ) (p i : ℕ) {n m v w k q : ℕ} → m ≡ suc n → w ≡ width i → k ≡ w → v ≡ le k s p
    → q ≡ min (p + w) (length s) → sets (set l i v) (suc i) (rows_numbers width n s q (suc i)) ≡ sets l i (rows_numbers width m s p i)
unfolding rows_numbers
rows_read_next width l s p i {n = n} {w = w} {q = q} em ew ek ev eq = rw (numbers_clipped width n s (suc i) (p + w) q eq, ev, ek, ew, em)
