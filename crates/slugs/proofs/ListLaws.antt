-- Laws of lists that the kit's library lacks: the first element of a rest, and runs of stores one after the other.
use Prim.Native.Nat.{ℕ, ◌+◌, ◌-◌, ◌≤◌, ◌<◌}
use mathlib.Core.Path.{◌≡◌, sym, ap, ◌∙◌}
use mathlib.Core.List.{List, [], ◌∷◌, ◌++◌}
use native.Mathlib.Omega.{arith}
use native.Mathlib.Nat.{zero-add}
use native.Mathlib.Numerals.{add-one}
use lib.ListN.{length, take, drop, get_or, length-drop, take-append-drop, drop_of_length-le}
use lib.Seq.{sets, sets-eq, drop-cons, take_all, length-take-le}
use Rattle.fields.proofs.CopyingLaws.{sets_append}

-- what is left from a place on: the element there and the rest, or nothing
module _ (s : List ℕ) (i : ℕ) where
  pub here : i < length s → drop i s ≡ get_or s i 0 ∷ drop (i + 1) s
  here h = rw (add-one, drop-cons s i 0)

  pub gone : length s ≤ i → drop i s ≡ []
  gone h = drop_of_length-le s h

  pub part_end : take (length s - i) (drop i s) ≡ drop i s
  part_end = take_all (length s - i) (drop i s) (simp length-drop (omega arith))

-- a run that begins with what is there
pub sets_same : (d : List ℕ) (n : ℕ) → n ≤ length d → sets d 0 (take n d) ≡ d
sets_same d n h =
    let l : length (take n d) ≡ n = length-take-le n d h in
    sets-eq (take n d) d 0 (omega arith) ∙ rw (l, zero-add) (take-append-drop n d)

pub sets_own : (d s : List ℕ) (n : ℕ) → n ≤ length d → sets d 0 (take n d ++ s) ≡ sets d n s
sets_own d s n h = sets_append (take n d) s d 0 n (sym (zero-add (length (take n d)) ∙ length-take-le n d h)) ∙ ap (λ (l : List ℕ). sets l n s) (sets_same d n h)
