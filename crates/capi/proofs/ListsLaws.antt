-- Laws of lists laid one behind the other, and of what is read from them.
use Prim.Native.Nat.{ℕ, zero, suc, ◌+◌}
use mathlib.Core.Path.{◌≡◌, refl, sym, ap, ◌∙◌}
use mathlib.Core.List.{List, [], ◌∷◌, ◌++◌}
use native.Mathlib.Omega.{arith}
use lib.ListN.{length, get_or, length-append}
use lib.Seq.{sets}
use Rattle.fields.proofs.CopyingLaws.{sets_append, sets_whole}
use Rattle.capi.specs.Saved.{numbers_from}

-- a number of the second list
pub get_d_behind : (p q : List ℕ) (at n : ℕ) → at ≡ length p + n → get_or (p ++ q) at 0 ≡ get_or q n 0
get_d_behind [] q at n e = let same : at ≡ n = omega arith in ap (λ (k : ℕ). get_or q k 0) same
get_d_behind (x ∷ p) q zero n e = absurd (omega arith)
get_d_behind (x ∷ p) q (suc at) n e = get_d_behind p q at n (omega arith)

-- numbers of the second list
pub from_behind : (k : ℕ) (p q : List ℕ) (at n : ℕ) → at ≡ length p + n → numbers_from k (p ++ q) at ≡ numbers_from k q n
unfolding numbers_from
from_behind zero p q at n e = refl
from_behind (suc k) p q at n e = rw (get_d_behind p q at n e, from_behind k p q (suc at) (suc n) (omega arith))

-- all numbers of the first
pub from_front : (s q : List ℕ) → numbers_from (length s) (s ++ q) 0 ≡ s
unfolding numbers_from
from_front [] q = refl
from_front (x ∷ s) q = ap (λ (t : List ℕ). x ∷ t) (from_behind (length s) (x ∷ []) (s ++ q) 1 0 refl ∙ from_front s q)

pub from_front_of : (k : ℕ) (s q : List ℕ) → length s ≡ k → numbers_from k (s ++ q) 0 ≡ s
from_front_of k s q e = rw (sym e) (from_front s q)

-- four lists written one behind the other over a list of their length
pub laid : (h s z a l : List ℕ) → length h ≡ 10 → length s ≡ 16 → length z ≡ 16 → length l ≡ 42 + length a
    → sets (sets (sets (sets l 0 h) 10 s) 26 z) 42 a ≡ h ++ (s ++ (z ++ a))
laid h s z a l eh es ez el =
    sym
    (sets_append h (s ++ (z ++ a)) l 0 10 (omega arith) ∙ sets_append s (z ++ a) (sets l 0 h) 10 26 (omega arith)
    ∙ sets_append z a (sets (sets l 0 h) 10 s) 26 42 (omega arith))
    ∙ sets_whole (h ++ (s ++ (z ++ a))) l (whole)
  where
    whole : length l ≡ length (h ++ (s ++ (z ++ a)))
    whole =
        let e₁ = length-append h (s ++ (z ++ a)) in
        let e₂ = length-append s (z ++ a) in
        let e₃ = length-append z a in
        omega arith

-- a number of the fourth
pub get_d_fourth : (h s z a : List ℕ) (at n : ℕ) → length h ≡ 10 → length s ≡ 16 → length z ≡ 16 → at ≡ 42 + n → get_or (h ++ (s ++ (z ++ a))) at 0 ≡ get_or a n 0
get_d_fourth h s z a at n eh es ez e =
    get_d_behind h (s ++ (z ++ a)) at (32 + n) (omega arith) ∙ get_d_behind s (z ++ a) (32 + n) (16 + n) (omega arith)
    ∙ get_d_behind z a (16 + n) n (omega arith)
