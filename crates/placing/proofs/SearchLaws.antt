-- Laws of the search within bounds.
use Rattle.std.specs.Prelude.{Some, None, Option}
use Prim.Native.Nat.{ℕ, zero, suc, ◌+◌, ◌-◌, ◌*◌, ◌/◌, ◌%◌, ◌^◌, ◌≤◌, ◌<◌, min, max}
use mathlib.Core.Path.{◌≡◌, sym, ◌∙◌, refl, ap, subst}
use mathlib.Core.Bool.{Bool, true, false}
use mathlib.Core.List.{List, [], ◌∷◌, ◌++◌}
use native.Mathlib.Omega.{arith}
use native.Mathlib.Decide.{dec_le}
use native.Mathlib.Nat.{add-zero, sub-zero, mod_self, mod-eq_of_lt, mod-lt, div-add-mod', lt_of_mul-lt-mul_right, mul-le-mul_right, suc-mul}
use lib.Arith.{digits_mod}
use lib.Dec.{eqb}
use borrow.Author.Tests.{eqb-true, eqb-false}
use Rattle.std.specs.Int.{next_multiple_of}
use lib.ListN.{get_or, length}
use Rattle.answers.specs.Pick.{pick}
use Rattle.answers.proofs.BoolLaws.{both_held}
use Rattle.fields.specs.Ranges.{apart}
use Rattle.fields.proofs.ApartLaws.{apart_none, not_apart_among}
use Rattle.guest.specs.Maps.{Range}
use Rattle.placing.specs.Placing.{pairs_from, ranges_in, apart_from, First, first, nowhere, Below, Above}
use Rattle.placing.specs.Search.{met_of, FitsIn}

-- ---- the next multiple, and the last

-- the least multiple of a step from a number on
pub record NextMultiple (step v r : ℕ) : Type 0 where
  pub above : v ≤ r
  pub multiple : r % step ≡ 0
  pub least : (x : ℕ) → v ≤ x → x % step ≡ 0 → r ≤ x

-- the greatest multiple of a step up to a number
pub record LastMultiple (step v r : ℕ) : Type 0 where
  pub below : r ≤ v
  pub multiple : r % step ≡ 0
  pub greatest : (x : ℕ) → x ≤ v → x % step ≡ 0 → x ≤ r

module _ (v step : ℕ) (some : 0 < step) where
  abbrev up : ℕ
  up = v + (step - v % step)

  up_multiple : up ≡ suc (v / step) * step + 0
  up_multiple =
      let small = mod-lt v some in
      let parts = div-add-mod' v step in
      let next = suc-mul (v / step) step in
      omega arith

  up_least : (x : ℕ) → v ≤ x → x % step ≡ 0 → (v % step ≡ 0 → ⊥) → up ≤ x
  up_least x le even odd =
      let small = mod-lt v some in
      let parts = div-add-mod' v step in
      let parts' = div-add-mod' x step in
      let fewer : v / step * step < x / step * step = omega arith in
      let times = mul-le-mul_right step (lt_of_mul-lt-mul_right step fewer) in
      let next = up_multiple in
      omega arith

  -- as std reckons it
  pub next_is : {a : ℕ} → a ≡ next_multiple_of v step → NextMultiple step v a
  next_is {a} is = rw is (by (eqb (v % step) 0) refl)
    where
      by : (t : Bool) → eqb (v % step) 0 ≡ t → NextMultiple step v (next_multiple_of v step)
      by true e =
          let even : v % step ≡ 0 = eqb-true (v % step) 0 e in
          let same : next_multiple_of v step ≡ v = rw (even, sub-zero step, mod_self step) (add-zero v) in
          rw same (record { above = omega arith; multiple = even; least = λ x le _. le })
      by false e =
          let odd : v % step ≡ 0 → ⊥ = eqb-false (v % step) 0 e in
          let small = mod-lt v some in
          let same : next_multiple_of v step ≡ up = ap (λ (k : ℕ). v + k) (mod-eq_of_lt (omega arith)) in
          rw same
          (record {
            above = omega arith;
            multiple = ap (λ (k : ℕ). k % step) up_multiple ∙ digits_mod (suc (v / step)) some;
            least = λ x le even. up_least x le even odd;
          })

-- ---- the last multiple

pub down_last : (v step : ℕ) → 0 < step → {w : ℕ} → v ≡ w → LastMultiple step w (v - v % step)
down_last v step some {w} e =
    subst (λ (k : ℕ). LastMultiple step k (v - v % step)) e
    (record {
      below = omega arith;
      multiple = ap (λ (k : ℕ). k % step) whole ∙ digits_mod (v / step) some;
      greatest = λ x le even. by x le even (dec_le x (v - v % step));
    })
  where
    whole : v - v % step ≡ v / step * step + 0
    whole = let parts = div-add-mod' v step in omega arith

    by : (x : ℕ) → x ≤ v → x % step ≡ 0 → Dec (x ≤ v - v % step) → x ≤ v - v % step
    by x le even (yes h) = h
    by x le even (no h) =
        let small = mod-lt v some in
        let same = whole in
        let parts' = div-add-mod' x step in
        let fewer : v / step * step < x / step * step = omega arith in
        let times = mul-le-mul_right step (lt_of_mul-lt-mul_right step fewer) in
        let next = suc-mul (v / step) step in
        let parts = div-add-mod' v step in
        absurd (omega arith)

-- ---- the first range that is met, range by range

-- the first pair of a list, and the rest
pairs_behind : (k : ℕ) (x y : ℕ) (numbers : List ℕ) (i : ℕ) → pairs_from k (x ∷ y ∷ numbers) (suc (suc i)) ≡ pairs_from k numbers i
unfolding pairs_from
pairs_behind zero x y numbers i = refl
pairs_behind (suc k) x y numbers i = ap (λ (qs : List Range). (get_or numbers i 0, get_or numbers (suc i) 0) ∷ qs) (pairs_behind k x y numbers (suc (suc i)))

module _ (rest : List ℕ) (a n : ℕ) where
  chunk_met : (chunk rest' : List ℕ) → rest ≡ chunk ++ rest' → length chunk ≡ 2
      → met_of (ranges_in rest) a n
      ≡ pick (apart (get_or chunk 0 0) (get_or chunk 1 0) a n) (met_of (ranges_in rest') a n) (Some (get_or chunk 0 0, get_or chunk 1 0))
  unfolding met_of pairs_from
  chunk_met [] rest' e two = absurd (omega arith)
  chunk_met (x ∷ []) rest' e two = absurd (omega arith)
  chunk_met (x ∷ y ∷ []) rest' e two =
      let many : suc (suc (length rest')) / 2 ≡ suc (length rest' / 2) = omega arith in
      rw (e, many, pairs_behind (length rest' / 2) x y rest' 0)
  chunk_met (x ∷ y ∷ z ∷ zs) rest' e two = absurd (omega arith)

  pub chunk_meets : (chunk rest' : List ℕ) → rest ≡ chunk ++ rest' → length chunk ≡ 2 → apart (get_or chunk 0 0) (get_or chunk 1 0) a n ≡ false
      → met_of (ranges_in rest) a n ≡ Some (get_or chunk 0 0, get_or chunk 1 0)
  unfolding pick
  chunk_meets chunk rest' e two t = chunk_met chunk rest' e two ∙ rw t

  pub chunk_apart : (chunk rest' : List ℕ) → rest ≡ chunk ++ rest' → length chunk ≡ 2 → apart (get_or chunk 0 0) (get_or chunk 1 0) a n ≡ true
      → met_of (ranges_in rest) a n ≡ met_of (ranges_in rest') a n
  unfolding pick
  chunk_apart chunk rest' e two t = chunk_met chunk rest' e two ∙ rw t

  pub chunks_end : length rest < 2 → met_of (ranges_in rest) a n ≡ None
  unfolding met_of pairs_from
  chunks_end h = let none : length rest / 2 ≡ 0 = omega arith in rw none

-- what it means: n bytes at a are apart from all, or not from one, from which all are apart that are apart from all
pub data MetMeans (qs : List Range) (a n : ℕ) : Option Range → Type 0 where
  meets_none : apart_from qs a n ≡ true → MetMeans qs a n None
  meets_one : {start size : ℕ} → apart start size a n ≡ false
      → ((x : ℕ) → apart_from qs x n ≡ true → apart start size x n ≡ true) → MetMeans qs a n (Some (start, size))

met_means : (qs : List Range) (a n : ℕ) → MetMeans qs a n (met_of qs a n)
unfolding met_of apart_from pick
met_means [] a n = meets_none refl
met_means (q ∷ qs) a n = by (apart q.0 q.1 a n) refl (met_of qs a n) refl (met_means qs a n)
  where
    by : (t : Bool) → apart q.0 q.1 a n ≡ t → (r : Option Range) → met_of qs a n ≡ r → MetMeans qs a n r
        → MetMeans (q ∷ qs) a n (met_of (q ∷ qs) a n)
    by false e r er means = rw e (meets_one e (λ x all. (both_held (apart q.0 q.1 x n) (apart_from qs x n) all).0))
    by true e None er (meets_none all) = rw (e, er) (meets_none (rw e all))
    by true e (Some q') er (meets_one not_one each) =
        rw (e, er) (meets_one not_one (λ x all. each x (both_held (apart q.0 q.1 x n) (apart_from qs x n) all).1))

pub met_apart : (qs : List Range) (a n : ℕ) {r : Option Range} → r ≡ met_of qs a n → r ≡ None → apart_from qs a n ≡ true
met_apart qs a n e is = by (subst (MetMeans qs a n) (sym e ∙ is) (met_means qs a n))
  where
    by : MetMeans qs a n None → apart_from qs a n ≡ true
    by (meets_none all) = all

-- what is met ends past a, and starts before the end of the n bytes; and what fits lies past it, or before it
pub record Past (qs : List Range) (a n start size : ℕ) : Type 0 where
  pub some : 0 < n
  pub ends : a < start + size
  pub starts : start < a + n
  pub beside : (x : ℕ) → apart_from qs x n ≡ true → x < start + size → start < x + n → ⊥

pub met_past : (qs : List Range) (a n : ℕ) {start size : ℕ} {r : Option Range} → r ≡ met_of qs a n → r ≡ Some (start, size)
    → Past qs a n start size
met_past qs a n {start} {size} e is = by (subst (MetMeans qs a n) (sym e ∙ is) (met_means qs a n))
  where
    by : MetMeans qs a n (Some (start, size)) → Past qs a n start size
    by (meets_one not_one each) =
        let both = not_apart_among start size a n not_one in
        let from-q = both.0.from in
        let below-q = both.0.below in
        let from-a = both.1.from in
        let below-a = both.1.below in
        record {
          some = omega arith;
          ends = omega arith;
          starts = omega arith;
          beside =
              λ x all lt lt'.
              apart_none start size x n (each x all) (max start x)
              (record { from = omega arith; below = omega arith }) (record { from = omega arith; below = omega arith });
        }

-- ---- from multiple to multiple, upwards

-- a multiple that does not fit 64 bits is past every bound
pub past_bounds : {step m high : ℕ} (n : ℕ) → 0 < step → ((0 < step) × (m < 2 ^ 64) → ⊥) → high < 2 ^ 64 → high < m + n
past_bounds {m = m} {high = high} n some past small = by (dec_le (2 ^ 64) m)
  where
    by : Dec (2 ^ 64 ≤ m) → high < m + n
    by (yes h) = omega arith
    by (no h) = absurd (past (some, omega arith))

-- none below `from` fits
pub record Rising (qs : List Range) (low high step n from : ℕ) : Type 0 where
  pub above : low ≤ from
  pub none : (x : ℕ) → x < from → FitsIn qs low high step n x → ⊥

module _ {qs : List Range} {low high step n : ℕ} where
  -- more bytes than the upper bound
  pub too_many : {before : ℕ → ℕ → Type 0} → high < n → First before (FitsIn qs low high step n) None
  too_many lt = nowhere (λ x f. let below = f.below in absurd (omega arith))

  module _ {from a : ℕ} (going : Rising qs low high step n from) (next : NextMultiple step from a) where
    -- none below the next multiple fits
    none_below : (x : ℕ) → x < a → FitsIn qs low high step n x → ⊥
    none_below x lt f = by (dec_le from x)
      where
        by : Dec (from ≤ x) → ⊥
        by (yes h) = let least = next.least x h f.multiple in absurd (omega arith)
        by (no h) = going.none x (omega arith) f

    pub rising_found : a + n ≤ high → apart_from qs a n ≡ true → First Below (FitsIn qs low high step n) (Some (record { 0 = a }))
    rising_found here all =
        let above = going.above in
        let further = next.above in
        first {a = record { 0 = a }} (record { above = omega arith; below = here; multiple = next.multiple; is_apart = all }) none_below

    pub rising_end : high < a + n → First Below (FitsIn qs low high step n) None
    rising_end past = nowhere (λ x f. by x f (dec_le a x))
      where
        by : (x : ℕ) → FitsIn qs low high step n x → Dec (a ≤ x) → ⊥
        by x f (yes h) = let below = f.below in absurd (omega arith)
        by x f (no h) = none_below x (omega arith) f

    module _ {start size from' : ℕ} (here : a + n ≤ high) (past : Past qs a n start size) (e : from' ≡ min (start + size) high) where
      pub rising_past : from < from'
      rising_past = let some = past.some in let ends = past.ends in let further = next.above in omega arith

      pub rising_on : Rising qs low high step n from'
      rising_on =
          record {
            above = let above = going.above in let further = rising_past in omega arith;
            none = λ x lt f. by x lt f (dec_le a x);
          }
        where
          by : (x : ℕ) → x < from' → FitsIn qs low high step n x → Dec (a ≤ x) → ⊥
          by x lt f (yes h) = let starts = past.starts in past.beside x f.is_apart (omega arith) (omega arith)
          by x lt f (no h) = none_below x (omega arith) f

-- ---- from multiple to multiple, downwards

-- none above a fits, and a is a multiple that ends in the bounds
pub record Falling (qs : List Range) (low high step n a : ℕ) : Type 0 where
  pub below : a + n ≤ high
  pub multiple : a % step ≡ 0
  pub none : (x : ℕ) → a < x → FitsIn qs low high step n x → ⊥

module _ {qs : List Range} {low high step n : ℕ} where
  pub falling_start : {a : ℕ} → n ≤ high → LastMultiple step (high - n) a → Falling qs low high step n a
  falling_start le last =
      let last-below = last.below in
      record {
        below = omega arith;
        multiple = last.multiple;
        none =
            λ x lt f.
            let below = f.below in
            let greatest = last.greatest x (omega arith) f.multiple in
            absurd (omega arith);
      }

  module _ {a : ℕ} (going : Falling qs low high step n a) where
    pub falling_found : low ≤ a → apart_from qs a n ≡ true
        → First Above (FitsIn qs low high step n) (Some (record { 0 = a }))
    falling_found le all =
        first {a = record { 0 = a }}
        (record { above = le; below = going.below; multiple = going.multiple; is_apart = all }) going.none

    pub falling_end : a < low → First Above (FitsIn qs low high step n) None
    falling_end lt = nowhere (λ x f. let above = f.above in going.none x (omega arith) f)

    module _ {start size : ℕ} (past : Past qs a n start size) where
      -- what fits and is not above a ends where the range that is met starts, or before
      falling_beside : (x : ℕ) → FitsIn qs low high step n x → start < x + n → ⊥
      falling_beside x f lt = by (dec_le x a)
        where
          by : Dec (x ≤ a) → ⊥
          by (yes h) = let ends = past.ends in past.beside x f.is_apart (omega arith) lt
          by (no h) = going.none x (omega arith) f

      pub falling_short : start < n → First Above (FitsIn qs low high step n) None
      falling_short lt = nowhere (λ x f. falling_beside x f (omega arith))

      module _ {a' : ℕ} (le : n ≤ start) (last : LastMultiple step (start - n) a') where
        pub falling_past : a' < a
        falling_past = let last-below = last.below in let starts = past.starts in omega arith

        pub falling_on : Falling qs low high step n a'
        falling_on =
            let less = falling_past in
            let below = going.below in
            record { below = omega arith; multiple = last.multiple; none = λ x lt f. by x lt f (dec_le (x + n) start) }
          where
            by : (x : ℕ) → a' < x → FitsIn qs low high step n x → Dec (x + n ≤ start) → ⊥
            by x lt f (yes h) = let greatest = last.greatest x (omega arith) f.multiple in absurd (omega arith)
            by x lt f (no h) = falling_beside x f (omega arith)
