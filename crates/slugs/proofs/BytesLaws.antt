-- Laws of the tests of bytes.
use Prim.Native.Nat.{ℕ, zero, suc, ◌<◌}
use mathlib.Core.Path.{◌≡◌, refl, sym, ap, ◌∙◌}
use mathlib.Core.Bool.{Bool, true, false, ◌&&◌, ◌||◌}
use mathlib.Core.List.{List, [], ◌∷◌, ◌++◌}
use native.Mathlib.Nat.{le_of_suc-le-suc, not-suc-le-zero}
use native.Mathlib.Omega.{arith}
use lib.Dec.{leb, eqb}
use lib.ListN.{length, get_or}
use borrow.Author.Tests.{le-leb, lt-leb, leb-true, eqb-false}
use Rattle.std.specs.List.{list_any}
use Rattle.slugs.specs.Bytes.{blank, printable, all_bytes, has, space}

-- ---- two tests

pub both_left : (a b : Bool) → a && b ≡ true → a ≡ true
both_left true b e = refl
both_left false b e = e

pub both_right : (a b : Bool) → a && b ≡ true → b ≡ true
both_right true b e = e
both_right false b e = absurd (eqb-false 0 0 (sym e) refl)

pub and_false : (a : Bool) → a && false ≡ false
and_false true = refl
and_false false = refl

pub either_left : (a b : Bool) → a || b ≡ false → a ≡ false
either_left true b e = e
either_left false b e = refl

pub either_right : (a b : Bool) → a || b ≡ false → b ≡ false
either_right true b e = absurd (eqb-false 0 0 e refl)
either_right false b e = e

-- ---- the library's test of some byte

pub has_any : (b : ℕ) (s : List ℕ) → list_any (λ x. eqb x b) s ≡ has b s
unfolding has
has_any b [] = refl
has_any b (x ∷ xs) = ap (λ (r : Bool). eqb x b || r) (has_any b xs)

-- ---- a test of every byte

pub every_at : (p : ℕ → Bool) (s : List ℕ) (i : ℕ) → all_bytes p s ≡ true → i < length s → p (get_or s i 0) ≡ true
unfolding all_bytes
every_at p [] i e h = absurd (not-suc-le-zero h)
every_at p (x ∷ xs) zero e h = both_left (p x) (all_bytes p xs) e
every_at p (x ∷ xs) (suc i) e h = every_at p xs i (both_right (p x) (all_bytes p xs) e) (le_of_suc-le-suc h)

-- and back
pub every_index : (p : ℕ → Bool) (s : List ℕ) → ((k : ℕ) → k < length s → p (get_or s k 0) ≡ true) → all_bytes p s ≡ true
unfolding all_bytes
every_index p [] h = refl
every_index p (x ∷ xs) h = rw (h 0 (omega arith)) (every_index p xs (λ k l. h (suc k) (omega arith)))

pub every_append : (p : ℕ → Bool) (s t : List ℕ) → all_bytes p s ≡ true → all_bytes p t ≡ true → all_bytes p (s ++ t) ≡ true
unfolding all_bytes
every_append p [] t a b = b
every_append p (x ∷ xs) t a b = rw (both_left (p x) (all_bytes p xs) a) (every_append p xs t (both_right (p x) (all_bytes p xs) a) b)

-- in two parts
pub every_part : (p : ℕ → Bool) (s t : List ℕ) → all_bytes p (s ++ t) ≡ (all_bytes p s && all_bytes p t)
unfolding all_bytes
every_part p [] t = refl
every_part p (x ∷ s) t = ap (λ (r : Bool). p x && r) (every_part p s t) ∙ grouped (p x) (all_bytes p s) (all_bytes p t)
  where
    grouped : (a b d : Bool) → a && (b && d) ≡ (a && b) && d
    grouped true b d = refl
    grouped false b d = refl

-- one byte more at the end
pub every_more : (p : ℕ → Bool) (s : List ℕ) (x : ℕ) → all_bytes p (s ++ (x ∷ [])) ≡ (all_bytes p s && p x)
unfolding all_bytes
every_more p s x = every_part p s (x ∷ []) ∙ ap (λ (r : Bool). all_bytes p s && r) (and_one (p x))
  where
    and_one : (a : Bool) → a && true ≡ a
    and_one true = refl
    and_one false = refl

pub every_none : (p : ℕ → Bool) (s : List ℕ) → length s ≡ 0 → all_bytes p s ≡ true
unfolding all_bytes
every_none p [] e = refl
every_none p (x ∷ s) e = absurd (omega arith)

-- ---- a byte among others

pub has_not_at : (b : ℕ) (s : List ℕ) (i : ℕ) → has b s ≡ false → i < length s → eqb (get_or s i 0) b ≡ false
unfolding has
has_not_at b [] i e h = absurd (not-suc-le-zero h)
has_not_at b (x ∷ xs) zero e h = either_left (eqb x b) (has b xs) e
has_not_at b (x ∷ xs) (suc i) e h = has_not_at b xs i (either_right (eqb x b) (has b xs) e) (le_of_suc-le-suc h)

or_assoc : (a b d : Bool) → a || (b || d) ≡ (a || b) || d
or_assoc true b d = refl
or_assoc false b d = refl

pub has_append : (b : ℕ) (s t : List ℕ) → has b (s ++ t) ≡ (has b s || has b t)
unfolding has
has_append b [] t = refl
has_append b (x ∷ xs) t = ap (λ (r : Bool). eqb x b || r) (has_append b xs t) ∙ or_assoc (eqb x b) (has b xs) (has b t)

-- one byte more at the end
pub has_more : (b : ℕ) (s : List ℕ) (x : ℕ) → has b (s ++ (x ∷ [])) ≡ (has b s || eqb x b)
unfolding has
has_more b [] x = or_none (eqb x b)
  where
    or_none : (a : Bool) → a || false ≡ a
    or_none true = refl
    or_none false = refl
has_more b (y ∷ s) x = ap (λ (r : Bool). eqb y b || r) (has_more b s x) ∙ or_assoc (eqb y b) (has b s) (eqb x b)

-- ---- a printable byte that is no space is not blank

pub not_blank : (x : ℕ) → printable x ≡ true → eqb x space ≡ false → blank x ≡ false
unfolding printable blank
not_blank x p q = let l = leb-true 32 x (both_left (leb 32 x) (leb x 126) p) in rw (q, le-leb 9 x (omega arith), lt-leb x 13 (omega arith))
