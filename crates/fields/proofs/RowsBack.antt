-- Rows that were written are read back, whatever their widths.
use Prim.Native.Nat.{ℕ, suc, ◌+◌, ◌≤◌}
use mathlib.Core.Path.{◌≡◌, refl, sym, ap}
use mathlib.Core.List.{List, [], ◌∷◌}
use lib.ListN.{length}
use lib.Seq.{sets}
use Rattle.fields.specs.Numbers.{le_bytes, HasBytes}
use Rattle.fields.specs.Rows.{rows_bytes, rows_numbers, RowsFit, fit_one}
use Rattle.fields.proofs.HasBytesLaws.{at_left, at_right, stored_at}
use Rattle.fields.proofs.NumbersLaws.{le_bytes_lem, length_le_bytes}

-- wherever their bytes stand
pub rows_back : (width : ℕ → ℕ) (vs s : List ℕ) (p i : ℕ) → RowsFit width vs i → HasBytes s p (rows_bytes width vs i) → rows_numbers width (length vs) s p i ≡ vs
unfolding rows_bytes rows_numbers
rows_back width [] s p i fit here = refl
rows_back width (v ∷ vs) s p i (fit_one small fit) here =
    let first = le_bytes (width i) v in
    let rest = rows_bytes width vs (suc i) in
    let past = ap (λ (k : ℕ). p + k) (sym (length_le_bytes (width i) v)) in
    rw (le_bytes_lem (width i) v s p small (at_left s first rest p here), rows_back width vs s (p + width i) (suc i) fit (at_right s first rest p (p + width i) past here))

-- from the place where they were written
pub rows_written : (width : ℕ → ℕ) (vs s : List ℕ) (p : ℕ) → RowsFit width vs 0 → p + length (rows_bytes width vs 0) ≤ length s
    → rows_numbers width (length vs) (sets s p (rows_bytes width vs 0)) p 0 ≡ vs
rows_written width vs s p fit room = rows_back width vs (sets s p (rows_bytes width vs 0)) p 0 fit (stored_at (rows_bytes width vs 0) s p room)
