-- Laws of `fit`: the first address of all ranges of guest memory, range by range.
use Rattle.std.specs.Prelude.{None, Option}
use Prim.Native.Nat.{ℕ, zero, suc, ◌+◌, ◌%◌, ◌≤◌, ◌<◌, min, max}
use mathlib.Core.Path.{◌≡◌, sym, ◌∙◌, refl, ap, subst}
use mathlib.Core.Bool.{Bool, true, false, true≢false}
use mathlib.Core.List.{List}
use mathlib.Core.Logic.{◌⊎◌, inl, inr, ⊎_elim}
use native.Mathlib.Omega.{arith}
use native.Mathlib.Decide.{dec_le}
use borrow.Author.Tests.{ltb-true, ltb-false}
use lib.ListN.{get_or}
use Rattle.answers.specs.Pick.{pick}
use Rattle.answers.proofs.BoolLaws.{one_held, left_holds, right_holds}
use Rattle.guest.specs.Maps.{Range, ranges_from, in_range, in_ranges, most_ranges}
use Rattle.guest.specs.declared.GuestAddress.{GuestAddress}
use Rattle.guest.specs.declared.Memory.{Memory}
use Rattle.guest.proofs.MapsLaws.{range_means, means_range}
use Rattle.guest.proofs.RoomLaws.{room_means, means_room, room_for_none, room_for_some}
use Rattle.placing.specs.Placing.{ranges_in, Fits, First, first, nowhere}
use Rattle.placing.specs.declared.Wanted.{Wanted}
use Rattle.placing.specs.declared.Wanted.TheVariants.{Lowest, Highest}
use Rattle.placing.specs.Search.{FitsIn, Order, is_before, first_of}

-- ---- the first address of two, and of one property or another

is_before_lem : (wanted : Wanted) (a b : ℕ) → is_before wanted a b ≡ true → Order wanted a b
unfolding is_before Order
is_before_lem Lowest a b e = ltb-true a b e
is_before_lem Highest a b e = ltb-true b a e

before_trans : (wanted : Wanted) (x a b : ℕ) → Order wanted x a → Order wanted a b → Order wanted x b
unfolding Order
before_trans Lowest x a b h k = omega arith
before_trans Highest x a b h k = omega arith

-- what comes before an address comes before one that does not
not_before : (wanted : Wanted) (x a b : ℕ) → Order wanted x a → is_before wanted b a ≡ false → Order wanted x b
unfolding is_before Order
not_before Lowest x a b h e = let le = ltb-false b a e in omega arith
not_before Highest x a b h e = let le = ltb-false a b e in omega arith

pub first_of_lem : {P Q R : ℕ → Type 0} {r r' s : Option GuestAddress} (wanted : Wanted) → ((x : ℕ) → P x → R x) → ((x : ℕ) → Q x → R x)
    → ((x : ℕ) → R x → P x ⊎ Q x) → First (Order wanted) P r → First (Order wanted) Q r' → s ≡ first_of wanted r r'
    → First (Order wanted) R s
unfolding first_of pick
first_of_lem {P} {Q} {R} {s = s} wanted p-in q-in either (first {a = a} p none) (first {a = b} q none') e =
    by (is_before wanted b.0 a.0) refl
  where
    by : (t : Bool) → is_before wanted b.0 a.0 ≡ t → First (Order wanted) R s
    by true t =
        rw (e, t)
        (first (q-in b.0 q)
        (λ x h r.
        let further = before_trans wanted x b.0 a.0 h (is_before_lem wanted b.0 a.0 t) in
        ⊎_elim (none x further) (none' x h) (either x r)))
    by false t =
        rw (e, t)
        (first (p-in a.0 p)
        (λ x h r. ⊎_elim (none x h) (none' x (not_before wanted x a.0 b.0 h t)) (either x r)))
first_of_lem wanted p-in q-in either (first {a = a} p none) (nowhere none') e =
    rw e (first (p-in a.0 p) (λ x h r. ⊎_elim (none x h) (none' x) (either x r)))
first_of_lem wanted p-in q-in either (nowhere none) (first {a = b} q none') e =
    rw e (first (q-in b.0 q) (λ x h r. ⊎_elim (none x) (none' x h) (either x r)))
first_of_lem wanted p-in q-in either (nowhere none) (nowhere none') e =
    rw e (nowhere (λ x r. ⊎_elim (none x) (none' x) (either x r)))

-- of two properties that are the same
pub first_same : {before : ℕ → ℕ → Type 0} {P Q : ℕ → Type 0} {r : Option GuestAddress} → ((x : ℕ) → P x → Q x) → ((x : ℕ) → Q x → P x)
    → First before P r → First before Q r
first_same to from (first p none) = first (to _ p) (λ x h q. none x h (from x q))
first_same to from (nowhere none) = nowhere (λ x q. none x (from x q))

-- ---- range by range

-- n bytes fit at an address in one of the first k ranges of memory
pub record FitsAmong (qs : List Range) (low top step n : ℕ) (starts sizes : List ℕ) (k a : ℕ) : Type 0 where
  pub index : ℕ
  pub among : index < k
  pub fits : FitsIn qs (max low (get_or starts index 0)) (min (get_or starts index 0 + get_or sizes index 0) top) step n a

module _ {qs : List Range} {low top step n : ℕ} {starts sizes : List ℕ} where
  pub among_none : {before : ℕ → ℕ → Type 0} → First before (FitsAmong qs low top step n starts sizes 0) None
  among_none = nowhere (λ x f. let among = f.among in absurd (omega arith))

  pub among_next : (wanted : Wanted) {i from end : ℕ} {best found r : Option GuestAddress}
      → First (Order wanted) (FitsAmong qs low top step n starts sizes i) best → from ≡ max low (get_or starts i 0)
      → end ≡ min (get_or starts i 0 + get_or sizes i 0) top → First (Order wanted) (FitsIn qs from end step n) found
      → r ≡ first_of wanted best found → First (Order wanted) (FitsAmong qs low top step n starts sizes (i + 1)) r
  among_next wanted {i} {from} {end} going ef ee found e =
      first_of_lem wanted (λ x f. record { index = f.index; among = let among = f.among in omega arith; fits = f.fits })
      (λ x f. record { index = i; among = omega arith; fits = rw (sym ef, sym ee) f })
      (λ x f. by x f (dec_le i f.index)) going found e
    where
      by : (x : ℕ) → (f : FitsAmong qs low top step n starts sizes (i + 1) x) → Dec (i ≤ f.index)
          → FitsAmong qs low top step n starts sizes i x ⊎ FitsIn qs from end step n x
      by x f (no h) = inl (record { index = f.index; among = omega arith; fits = f.fits })
      by x f (yes h) =
          let among = f.among in
          let same : f.index ≡ i = omega arith in
          inr
          (rw (ef, ee)
          (subst (λ k. FitsIn qs (max low (get_or starts k 0)) (min (get_or starts k 0 + get_or sizes k 0) top) step n x) same
          f.fits))

-- ---- the ranges of memory by their index

-- n bytes lie in one of k ranges from range i on
pub record InOne (starts sizes : List ℕ) (a n i k : ℕ) : Type 0 where
  pub index : ℕ
  pub from : i ≤ index
  pub below : index < i + k
  pub is_in : in_range (get_or starts index 0) (get_or sizes index 0) a n ≡ true

module _ (starts sizes : List ℕ) (a n : ℕ) where
  -- is it the first of these, or one of the rest?
  abbrev here : ℕ → Bool
  here i = in_range (get_or starts i 0) (get_or sizes i 0) a n

  abbrev later : ℕ → ℕ → Bool
  later k i = in_ranges (ranges_from k starts sizes (suc i)) a n

  in_index : (k i index : ℕ) → i ≤ index → index < i + k → here index ≡ true
      → in_ranges (ranges_from k starts sizes i) a n ≡ true
  unfolding ranges_from in_ranges
  in_index zero i index from below is = absurd (omega arith)
  in_index (suc k) i index from below is = by (dec_le index i) (λ lt. in_index k (suc i) index lt (omega arith) is)
    where
      by : Dec (index ≤ i) → (suc i ≤ index → later k i ≡ true)
          → in_ranges (ranges_from (suc k) starts sizes i) a n ≡ true
      by (yes h) rest = let same : index ≡ i = omega arith in left_holds (here i) (later k i) (rw same at is)
      by (no h) rest = right_holds (here i) (later k i) (rest (omega arith))

  index_in : (k i : ℕ) → in_ranges (ranges_from k starts sizes i) a n ≡ true → InOne starts sizes a n i k
  unfolding ranges_from in_ranges
  index_in zero i e = absurd (true≢false (sym e))
  index_in (suc k) i e = ⊎_elim found (λ is. further (index_in k (suc i) is)) (one_held (here i) (later k i) e)
    where
      found : here i ≡ true → InOne starts sizes a n i (suc k)
      found is = record { index = i; from = omega arith; below = omega arith; is_in = is }

      further : InOne starts sizes a n (suc i) k → InOne starts sizes a n i (suc k)
      further one =
          let from = one.from in
          let below = one.below in
          record { index = one.index; from = omega arith; below = omega arith; is_in = one.is_in }

-- ---- what fits, by bounds and ranges

-- in one of the first k ranges of a memory
abbrev FitsOne : Memory → List ℕ → ℕ → ℕ → ℕ → ℕ → ℕ → ℕ → Type 0
FitsOne m placed low top step n k = FitsAmong (ranges_in placed) low top step n m.map.starts m.map.sizes k

module _ {m : Memory} {placed : List ℕ} {low high align n step : ℕ} (es : step ≡ max align 1) where
  fits_in : (x : ℕ) → Fits m placed low high align n x → FitsIn (ranges_in placed) low high step n x
  fits_in x f =
      record {
        above = f.above;
        below = f.below;
        multiple = ap (λ (k : ℕ). x % k) es ∙ f.aligned;
        is_apart = f.is_apart;
      }

  -- 0 bytes fit wherever the bounds let them
  in_fits : n ≡ 0 → (x : ℕ) → FitsIn (ranges_in placed) low high step n x → Fits m placed low high align n x
  in_fits e x f =
      record {
        above = f.above;
        below = f.below;
        aligned = ap (λ (k : ℕ). x % k) (sym es) ∙ f.multiple;
        has_room = room_for_none m x n e;
        is_apart = f.is_apart;
      }

  -- others fit in one of the ranges
  module _ {top k : ℕ} (some : 0 < n) (et : top ≡ min high m.size) (ek : k ≡ min m.map.count most_ranges) where
    fits_among : (x : ℕ) → Fits m placed low high align n x → FitsOne m placed low top step n k x
    fits_among x f =
        let starts = m.map.starts in
        let sizes = m.map.sizes in
        let room-there = room_means m x n (sym (room_for_some m x n some) ∙ f.has_room) in
        let one = index_in starts sizes x n (min m.map.count most_ranges) 0 room-there.1 in
        let means = range_means (get_or starts one.index 0) (get_or sizes one.index 0) x n one.is_in in
        let sized = room-there.0 in
        let among = one.below in
        let above = f.above in
        let below = f.below in
        let multiple = (fits_in x f).multiple in
        record {
          index = one.index;
          among = omega arith;
          fits = record { above = omega arith; below = omega arith; multiple = multiple; is_apart = f.is_apart };
        }

    among_fits : (x : ℕ) → FitsOne m placed low top step n k x → Fits m placed low high align n x
    among_fits x f =
        let starts = m.map.starts in
        let sizes = m.map.sizes in
        let count = min m.map.count most_ranges in
        let i = f.index in
        let among = f.among in
        let above = f.fits.above in
        let below = f.fits.below in
        let in_one = means_range (get_or starts i 0) (get_or sizes i 0) x n (omega arith) (omega arith) in
        let in_all = in_index starts sizes x n count 0 i (omega arith) (omega arith) in_one in
        record {
          above = omega arith;
          below = omega arith;
          aligned = ap (λ (j : ℕ). x % j) (sym es) ∙ f.fits.multiple;
          has_room = room_for_some m x n some ∙ means_room m x n (omega arith) in_all;
          is_apart = f.fits.is_apart;
        }

    pub fit_some : {before : ℕ → ℕ → Type 0} {r : Option GuestAddress}
        → First before (FitsOne m placed low top step n k) r
        → First before (Fits m placed low high align n) r
    fit_some l = first_same among_fits fits_among l

  pub fit_empty : {before : ℕ → ℕ → Type 0} {r : Option GuestAddress} → n ≡ 0
      → First before (FitsIn (ranges_in placed) low high step n) r → First before (Fits m placed low high align n) r
  fit_empty e l = first_same (in_fits e) fits_in l
