-- Ranges that are apart: the test does not depend on their order, and it says that no address is among both.
use Prim.Native.Nat.{ℕ, ◌+◌, ◌≤◌, ◌<◌, min, max}
use mathlib.Core.Path.{◌≡◌, refl, sym, ◌∙◌, ap₂}
use mathlib.Core.Bool.{Bool, true, false}
use native.Mathlib.Omega.{arith}
use native.Mathlib.Decide.{dec_le}
use native.Mathlib.Nat.{min_comm, max_comm}
use borrow.Author.Tests.{le-leb, lt-leb, leb-true, leb-false, eq-eqb, ne_eqb}
use lib.Dec.{leb, eqb}
use Rattle.fields.specs.Ranges.{apart, Among}

-- the same in either order
pub apart_symmetric : (a n b m : ℕ) → apart a n b m ≡ apart b m a n
unfolding apart
apart_symmetric a n b m = ap₂ leb (min_comm (a + n) (b + m)) (max_comm a b)

-- ---- what it says

pub apart_none : (a n b m : ℕ) → apart a n b m ≡ true → (x : ℕ) → Among x a n → Among x b m → ⊥
unfolding apart
apart_none a n b m e x in-a in_b =
    let h = leb-true (min (a + n) (b + m)) (max a b) e in
    let l = in-a.from in
    let k = in-a.below in
    let l' = in_b.from in
    let k' = in_b.below in
    absurd (omega arith)

-- where they are not apart, the later start is among both
pub not_apart_among : (a n b m : ℕ) → apart a n b m ≡ false → Among (max a b) a n × Among (max a b) b m
unfolding apart
not_apart_among a n b m e =
    let h = leb-false (min (a + n) (b + m)) (max a b) e in
    (record { from = omega arith; below = omega arith }, record { from = omega arith; below = omega arith })

pub none_apart : (a n b m : ℕ) → ((x : ℕ) → Among x a n → Among x b m → ⊥) → apart a n b m ≡ true
none_apart a n b m none = split (apart a n b m) (λ f. let both = not_apart_among a n b m f in none (max a b) both.0 both.1)
  where
    split : (t : Bool) → (t ≡ false → ⊥) → t ≡ true
    split true h = refl
    split false h = absurd (h refl)

-- ---- asked by differences, as code must

pub apart_before : (a n b m : ℕ) → a + n ≤ b → apart a n b m ≡ true
unfolding apart
apart_before a n b m h = le-leb (min (a + n) (b + m)) (max a b) (omega arith)

-- a range that begins at or after the start of one that is longer is apart from it where it is empty
pub apart_empty : (a n b m : ℕ) → a ≤ b → b < a + n → eqb m 0 ≡ apart a n b m
unfolding apart
apart_empty a n b m low high = split (dec_le m 0)
  where
    split : Dec (m ≤ 0) → eqb m 0 ≡ leb (min (a + n) (b + m)) (max a b)
    split (yes p) = eq-eqb m 0 (omega arith) ∙ sym (le-leb (min (a + n) (b + m)) (max a b) (omega arith))
    split (no q) = ne_eqb m 0 (λ e. absurd (omega arith)) ∙ sym (lt-leb (min (a + n) (b + m)) (max a b) (omega arith))
