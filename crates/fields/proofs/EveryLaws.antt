-- Laws of a test of every number below another.
use Prim.Native.Nat.{ℕ, zero, suc, ◌+◌, ◌≤◌, ◌<◌}
use mathlib.Core.Path.{◌≡◌, refl, sym, ap, ◌∙◌}
use mathlib.Core.List.{List, [], ◌∷◌}
use lib.ListN.{length, get_or}
use native.Mathlib.Nat.{add-zero}
use Rattle.std.specs.List.{list_all, enumerate_from, range_with_len}
use mathlib.Core.Bool.{Bool, true, false, ◌&&◌}
use native.Mathlib.Omega.{arith}
use native.Mathlib.Decide.{dec_le}
use Rattle.fields.specs.Every.{every}

-- ---- two tests of which both hold

pub both_held : {a b : Bool} → a ≡ true → b ≡ true → (a && b) ≡ true
both_held p q = rw (p, q)

pub left_failed : {a : Bool} (b : Bool) → a ≡ false → (a && b) ≡ false
left_failed b p = rw p

pub right_failed : (a : Bool) {b : Bool} → b ≡ false → (a && b) ≡ false
right_failed true e = e
right_failed false e = refl

pub left_holds : (a b : Bool) → (a && b) ≡ true → a ≡ true
left_holds true b e = refl
left_holds false b e = e

pub right_holds : (a b : Bool) → (a && b) ≡ true → b ≡ true
right_holds true b e = e
right_holds false true e = refl
right_holds false false e = e

-- ---- every number below n

pub every_none : (test : ℕ → Bool) {n : ℕ} → n ≡ 0 → every test n ≡ true
unfolding every
every_none test e = rw e

-- one number more
pub every_next : (test : ℕ → Bool) (n : ℕ) → every test n ≡ true → test n ≡ true → every test (suc n) ≡ true
unfolding every
every_next test n e h = both_held e h

-- the last number, or one below it
by_last : {P : Type 0} (n i : ℕ) → i < suc n → (i ≡ n → P) → (i < n → P) → P
by_last {P} n i h last lower = split (dec_le n i)
  where
    split : Dec (n ≤ i) → P
    split (yes p) = last (omega arith)
    split (no q) = lower (omega arith)

-- what holds of every number holds of each
pub every_each : (test : ℕ → Bool) (n i : ℕ) → every test n ≡ true → i < n → test i ≡ true
unfolding every
every_each test zero i e h = absurd (omega arith)
every_each test (suc n) i e h =
    by_last n i h (λ same. ap test same ∙ right_holds (every test n) (test n) e) (λ less. every_each test n i (left_holds (every test n) (test n) e) less)

-- and what holds of each holds of every
pub each_every : (test : ℕ → Bool) (n : ℕ) → ((i : ℕ) → i < n → test i ≡ true) → every test n ≡ true
unfolding every
each_every test zero h = refl
each_every test (suc n) h = both_held (each_every test n (λ i l. h i (omega arith))) (h n (omega arith))

-- one that fails
pub every_fails : (test : ℕ → Bool) (n i : ℕ) → i < n → test i ≡ false → every test n ≡ false
unfolding every
every_fails test zero i h f = absurd (omega arith)
every_fails test (suc n) i h f =
    by_last n i h (λ same. right_failed (every test n) (ap test (sym same) ∙ f)) (λ less. left_failed (test n) (every_fails test n i less f))

-- ---- counted from the front, as a list is

pub every_same : (t u : ℕ → Bool) (n : ℕ) → ((i : ℕ) → t i ≡ u i) → every t n ≡ every u n
unfolding every
every_same t u zero h = refl
every_same t u (suc n) h = rw (every_same t u n h, h n)

every_front : (t : ℕ → Bool) (n : ℕ) → every t (suc n) ≡ (t 0 && every (λ (i : ℕ). t (suc i)) n)
unfolding every
every_front t zero = one (t 0)
  where
    one : (b : Bool) → (true && b) ≡ (b && true)
    one true = refl
    one false = refl
every_front t (suc n) = rw (every_front t n) (grouped (t 0) (every (λ (i : ℕ). t (suc i)) n) (t (suc n)))
  where
    grouped : (a b c : Bool) → ((a && b) && c) ≡ (a && (b && c))
    grouped true b c = refl
    grouped false b c = refl

-- the elements of a list, counted from n
pub all_every : (test : ℕ → ℕ → Bool) (vs : List ℕ) (n : ℕ) → list_all (λ (p : ℕ × ℕ). test p.0 p.1) (enumerate_from n vs) ≡ every (λ (i : ℕ). test (n + i) (get_or vs i 0)) (length vs)
all_every test [] n = sym (every_none _ refl)
all_every test (v ∷ vs) n =
    ap (λ (b : Bool). test n v && b) (all_every test vs (n + 1) ∙ every_same _ _ (length vs) (λ i. ap (λ (k : ℕ). test k (get_or vs i 0)) (next n i)))
    ∙ ap (λ (k : ℕ). test k v && every (λ (i : ℕ). test (n + suc i) (get_or vs i 0)) (length vs)) (sym (add-zero n))
    ∙ sym (every_front (λ (i : ℕ). test (n + i) (get_or (v ∷ vs) i 0)) (length vs))
  where
    next : (n i : ℕ) → n + 1 + i ≡ n + suc i
    next n i = omega arith

-- the numbers from n on
range_every_from : (test : ℕ → Bool) (k n : ℕ) → list_all test (range_with_len n k) ≡ every (λ (i : ℕ). test (n + i)) k
range_every_from test zero n = sym (every_none _ refl)
range_every_from test (suc k) n =
    ap (λ (b : Bool). test n && b) (range_every_from test k (n + 1) ∙ every_same _ _ k (λ i. ap test (next n i)))
    ∙ ap (λ (m : ℕ). test m && every (λ (i : ℕ). test (n + suc i)) k) (sym (add-zero n))
    ∙ sym (every_front (λ (i : ℕ). test (n + i)) k)
  where
    next : (n i : ℕ) → n + 1 + i ≡ n + suc i
    next n i = omega arith

-- those below n
pub range_every : (test : ℕ → Bool) (n : ℕ) → list_all test (range_with_len 0 n) ≡ every test n
range_every test n = range_every_from test n 0 ∙ every_same _ _ n (λ i. ap test (let e : 0 + i ≡ i = omega arith in e))
