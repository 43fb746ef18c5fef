-- Laws of a load's state in numbers: lists written and read, and what is kept read back.
use Prim.Native.Nat.{ℕ, zero, suc, ◌+◌, ◌-◌, ◌≤◌, ◌<◌, min}
use mathlib.Core.Path.{◌≡◌, refl, sym, ap, ◌∙◌}
use mathlib.Core.List.{List}
use native.Mathlib.Omega.{arith}
use borrow.Rule.Slice.PartMut.{put_mid}
use lib.ListN.{length, get_or, set, take, drop, replicate, length-take, length-drop, take-append-drop}
use native.Mathlib.Decide.{dec_le}
use lib.Seq.{sets, sets-eq, length-sets, drop-drop}
use Rattle.std.proofs.Common.{append_assoc}
use Rattle.fields.proofs.CopyingLaws.{sets_out, sets_none, sets_append, sets_clipped, sets_whole}
use Rattle.capi.specs.Saved.{numbers_from}

-- ---- `put`

-- nothing is left to be stored, or there is no room for it
put_done : (vs l : List ℕ) (p k : ℕ) → (k < length vs → length l ≤ p) → sets l p (drop k vs) ≡ l
put_done vs l p k full = split (dec_le (length vs) k)
  where
    split : Dec (length vs ≤ k) → sets l p (drop k vs) ≡ l
    split (yes h) = sets_none (drop k vs) l p (omega (arith, length-drop k vs))
    split (no more) = sets_out (drop k vs) l p (full (omega arith))

-- as many values as fit, put at an index that is clipped to the end
pub put_values : (vs l part : List ℕ) (n k at : ℕ) → n ≡ min at (length l) → k ≡ min (length vs) (length l - n) → part ≡ take k vs
    → put_mid n k l part ≡ sets l at vs
put_values vs l part n k at en ek ep =
    let long : length (take k vs) ≡ k = omega (arith, length-take k vs) in
    let rest : sets (sets l n (take k vs)) (n + k) (drop k vs) ≡ sets l n (take k vs) =
    put_done vs (sets l n (take k vs)) (n + k) k (λ more. rw (length-sets l n (take k vs)) (omega arith)) in
    let block = take k vs in
    let direct : put_mid n k l block ≡ sets l n block =
    rw (sets-eq block l n (rw long (omega arith)), long, drop-drop k n l, append_assoc (take n l) block (drop (n + k) l)) in
    ap (put_mid n k l) ep ∙ direct ∙ sym rest ∙ sym (sets_append block (drop k vs) l n (n + k) (rw long)) ∙ ap (sets l n) (take-append-drop k vs)
    ∙ sets_clipped vs l at n en

-- ---- `sixteen`

pub length_numbers : (k : ℕ) (numbers : List ℕ) (at : ℕ) → length (numbers_from k numbers at) ≡ k
unfolding numbers_from
length_numbers zero numbers at = refl
length_numbers (suc k) numbers at = ap suc (length_numbers k numbers (suc at))

-- sixteen of them over an array of sixteen are all of it
pub numbers_all : (numbers : List ℕ) (at : ℕ) {p : ℕ} → p ≡ at → sets (replicate 16 0) 0 (numbers_from 16 numbers p) ≡ numbers_from 16 numbers at
numbers_all numbers at e = rw e (sets_whole (numbers_from 16 numbers at) (replicate 16 0) (sym (length_numbers 16 numbers at)))

-- one number stored, and the rest from the next place on
pub numbers_next : (l numbers : List ℕ) (i at : ℕ) {k j next on v : ℕ} → k ≡ suc j → next ≡ suc i → on ≡ suc at → v ≡ get_or numbers at 0
    → sets (set l i v) next (numbers_from j numbers on) ≡ sets l i (numbers_from k numbers at)
unfolding numbers_from
numbers_next l numbers i at ek en eo ev = rw (ek, en, eo, ev)

pub numbers_end : (l numbers : List ℕ) (i at : ℕ) {k : ℕ} → k ≡ 0 → sets l i (numbers_from k numbers at) ≡ l
unfolding numbers_from
numbers_end l numbers i at ek = rw ek
