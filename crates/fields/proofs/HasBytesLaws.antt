-- Laws of bytes that stand at a place.
use Prim.Native.Nat.{ℕ, suc, ◌+◌, ◌≤◌}
use mathlib.Core.Path.{◌≡◌, subst⁻¹, ◌∙◌}
use mathlib.Core.List.{List, [], ◌∷◌, ◌++◌}
use native.Mathlib.Omega.{arith}
use lib.ListN.{length, set, length-set}
use lib.Seq.{sets, get_or-set_same}
use Rattle.fields.specs.Numbers.{HasBytes, no_byte, a_byte}
use Rattle.fields.proofs.CopyingLaws.{sets_below, sets_above}

-- the two parts of bytes that stand at a place
pub at_left : (s xs ys : List ℕ) (p : ℕ) → HasBytes s p (xs ++ ys) → HasBytes s p xs
at_left s [] ys p here = no_byte
at_left s (x ∷ xs) ys p (a_byte e rest) = a_byte e (at_left s xs ys (suc p) rest)

pub at_right : (s xs ys : List ℕ) (p q : ℕ) → q ≡ p + length xs → HasBytes s p (xs ++ ys) → HasBytes s q ys
at_right s [] ys p q e here = let same : q ≡ p = omega arith in subst⁻¹ (λ (k : ℕ). HasBytes s k ys) same here
at_right s (x ∷ xs) ys p q e (a_byte b rest) = at_right s xs ys (suc p) q (omega arith) rest

-- what is stored at a place stands there
pub stored_at : (vs l : List ℕ) (p : ℕ) → p + length vs ≤ length l → HasBytes (sets l p vs) p vs
stored_at [] l p h = no_byte
stored_at (v ∷ vs) l p h =
    a_byte (sets_below vs (set l p v) (suc p) p (omega arith) ∙ get_or-set_same l p v 0 (omega arith))
    (stored_at vs (set l p v) (suc p) (rw (length-set l p v) (omega arith)))

-- stores above what stands, and stores below it, keep it
pub kept_below : (bs s vs : List ℕ) (p q : ℕ) → p + length bs ≤ q → HasBytes s p bs → HasBytes (sets s q vs) p bs
kept_below [] s vs p q h no_byte = no_byte
kept_below (b ∷ bs) s vs p q h (a_byte e rest) = a_byte (sets_below vs s q p (omega arith) ∙ e) (kept_below bs s vs (suc p) q (omega arith) rest)

pub kept_above : (bs s vs : List ℕ) (p q : ℕ) → q + length vs ≤ p → HasBytes s p bs → HasBytes (sets s q vs) p bs
kept_above [] s vs p q h no_byte = no_byte
kept_above (b ∷ bs) s vs p q h (a_byte e rest) = a_byte (sets_above vs s q p h ∙ e) (kept_above bs s vs (suc p) q (omega arith) rest)
