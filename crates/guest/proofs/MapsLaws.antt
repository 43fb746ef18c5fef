-- Laws of memory maps: range by range as a loop asks them, what the tests mean, and maps that grow.
use mathlib.Core.Path.{◌≡◌, sym, ◌∙◌, refl, ap, subst}
use mathlib.Core.Bool.{Bool, true, false, ◌&&◌, ◌||◌}
use mathlib.Core.List.{List, [], ◌∷◌, ◌++◌}
use mathlib.Core.Logic.{⊎_elim}
use Prim.Native.Nat.{ℕ, zero, suc, ◌+◌, ◌-◌, ◌≤◌, ◌<◌, min}
use native.Mathlib.Omega.{arith}
use native.Mathlib.Decide.{dec_le}
use borrow.Author.Tests.{leb-true, le-leb, lt-leb, ltb-true, lt-ltb, le-ltb, eq-eqb, ne_eqb, eqb-true, eqb-false}
use lib.Dec.{leb, ltb, eqb}
use lib.ListN.{get_or}
use native.Mathlib.Numerals.{add-one}
use Rattle.std.specs.List.{list_any, list_all, range_with_len}
use Rattle.answers.specs.Pick.{pick}
use Rattle.answers.proofs.BoolLaws.{both_held, one_held, right_holds}
use Rattle.fields.specs.Ranges.{lies_within}
use Rattle.fields.proofs.RangesLaws.{within_sum, sum_within}
use Rattle.guest.specs.Maps.{Range, ranges_from, in_range, in_ranges, good_range, good_ranges, good_map, whole_map, most_ranges, ranges_of, same_ranges, same_map}
use Rattle.guest.specs.declared.Map.{Map}

-- ---- range by range, as a loop goes: of k ranges from i on, the first and the rest

module _ (starts sizes : List ℕ) (i : ℕ) where
  pub good_next : {k : ℕ} {t : Bool} (j next len floor : ℕ) → k ≡ suc j → next ≡ suc i → t ≡ good_range len floor (get_or starts i 0) (get_or sizes i 0)
      → good_ranges len floor (ranges_from k starts sizes i) ≡ t && good_ranges len (suc (get_or starts i 0 + get_or sizes i 0)) (ranges_from j starts sizes next)
  unfolding ranges_from good_ranges
  good_next j next len floor ek en et = rw (ek, en, et)

  pub good_end : {k : ℕ} (len floor : ℕ) → k ≡ 0 → good_ranges len floor (ranges_from k starts sizes i) ≡ true
  unfolding ranges_from good_ranges
  good_end len floor ek = rw ek

-- as code asks where a range starts
pub past_end : (end start : ℕ) → ltb end start ≡ leb (suc end) start
past_end end start = split (dec_le (suc end) start)
  where
    split : Dec (suc end ≤ start) → ltb end start ≡ leb (suc end) start
    split (yes h) = lt-ltb end start h ∙ sym (le-leb (suc end) start h)
    split (no h) = le-ltb end start (omega arith) ∙ sym (lt-leb (suc end) start (omega arith))

-- a map of too many ranges, and one of 16 at the most
pub too_many : (len : ℕ) (map : Map) → most_ranges < map.count → good_map len map ≡ false
unfolding good_map
too_many len map h = rw (lt-leb map.count most_ranges h)

pub not_too_many : (len : ℕ) (map : Map) {k : ℕ} → map.count ≤ most_ranges → k ≡ min map.count most_ranges
    → good_map len map ≡ good_ranges len 0 (ranges_from k map.starts map.sizes 0)
unfolding good_map
not_too_many len map h e = rw (le-leb map.count most_ranges h, e)

-- ---- what the tests mean

pub range_means : (start size address n : ℕ) → in_range start size address n ≡ true → (start ≤ address) × (address + n ≤ start + size)
unfolding in_range
range_means start size address n e =
    let parts = both_held (leb start address) (lies_within size (address - start) n) e in
    let from = leb-true start address parts.0 in
    let sum = within_sum size (address - start) n parts.1 in
    (from, omega arith)

pub means_range : (start size address n : ℕ) → start ≤ address → address + n ≤ start + size → in_range start size address n ≡ true
unfolding in_range
means_range start size address n from below = rw (le-leb start address from, sum_within size (address - start) n (omega arith))

pub good_means : (len floor start size : ℕ) → good_range len floor start size ≡ true → (floor ≤ start) × (0 < size) × (start + size ≤ len)
unfolding good_range
good_means len floor start size e =
    let parts = both_held (leb floor start) (ltb 0 size && lies_within len start size) e in
    let rest = both_held (ltb 0 size) (lies_within len start size) parts.1 in
    (leb-true floor start parts.0, ltb-true 0 size rest.0, within_sum len start size rest.1)

-- a good map of a slice is one of a longer slice
range_longer : (len len' floor start size : ℕ) → len ≤ len' → good_range len floor start size ≡ true → good_range len' floor start size ≡ true
unfolding good_range
range_longer len len' floor start size h e =
    let is = good_means len floor start size e in
    rw (le-leb floor start is.0, lt-ltb 0 size is.1, sum_within len' start size (omega arith))

ranges_longer : (len len' : ℕ) → len ≤ len' → (floor : ℕ) (rs : List Range) → good_ranges len floor rs ≡ true → good_ranges len' floor rs ≡ true
unfolding good_ranges
ranges_longer len len' h floor [] e = e
ranges_longer len len' h floor (r ∷ rs) e =
    let parts = both_held (good_range len floor r.0 r.1) (good_ranges len (suc (r.0 + r.1)) rs) e in
    rw (range_longer len len' floor r.0 r.1 h parts.0, ranges_longer len len' h (suc (r.0 + r.1)) rs parts.1)

pub good_longer : (len len' : ℕ) (map : Map) → len ≤ len' → good_map len map ≡ true → good_map len' map ≡ true
unfolding good_map
good_longer len len' map h e =
    let parts = both_held (leb map.count most_ranges) (good_ranges len 0 (ranges_of map)) e in
    rw (parts.0, ranges_longer len len' h 0 (ranges_of map) parts.1)

-- ---- n bytes in the first of some ranges, or in one of the rest

in_cases : {P : Type 0} (r : Range) (rs : List Range) (address n : ℕ) → ((r.0 ≤ address) × (address + n ≤ r.0 + r.1) → P) → (in_ranges rs address n ≡ true → P)
    → in_ranges (r ∷ rs) address n ≡ true → P
unfolding in_ranges
in_cases r rs address n here later e =
    ⊎_elim (λ h. here (range_means r.0 r.1 address n h)) later (one_held (in_range r.0 r.1 address n) (in_ranges rs address n) e)

in_here : (r : Range) (rs : List Range) (address n : ℕ) → r.0 ≤ address → address + n ≤ r.0 + r.1 → in_ranges (r ∷ rs) address n ≡ true
unfolding in_ranges
in_here r rs address n from below = rw (means_range r.0 r.1 address n from below)

in_later : (r : Range) (rs : List Range) (address n : ℕ) → in_ranges rs address n ≡ true → in_ranges (r ∷ rs) address n ≡ true
unfolding in_ranges
in_later r rs address n e = right_holds (in_range r.0 r.1 address n) (in_ranges rs address n) e

-- ---- a part of the bytes, a range more, a longer range

pub in_part : (rs : List Range) (address n at k : ℕ) → in_ranges rs address n ≡ true → address ≤ at → at + k ≤ address + n → in_ranges rs at k ≡ true
unfolding in_ranges
in_part [] address n at k e from below = e
in_part (r ∷ rs) address n at k e from below =
    in_cases r rs address n (λ m. in_here r rs at k (omega arith) (omega arith)) (λ later. in_later r rs at k (in_part rs address n at k later from below)) e

pub in_added : (xs ys : List Range) (r : Range) (address n : ℕ) → in_ranges (xs ++ ys) address n ≡ true → in_ranges (xs ++ (r ∷ ys)) address n ≡ true
in_added [] ys r address n e = in_later r ys address n e
in_added (x ∷ xs) ys r address n e =
    in_cases x (xs ++ ys) address n (λ m. in_here x (xs ++ (r ∷ ys)) address n m.0 m.1)
    (λ later. in_later x (xs ++ (r ∷ ys)) address n (in_added xs ys r address n later)) e

pub in_lengthened : (xs : List Range) (start size size' : ℕ) → size ≤ size' → (address n : ℕ) → in_ranges (xs ++ ((start, size) ∷ [])) address n ≡ true
    → in_ranges (xs ++ ((start, size') ∷ [])) address n ≡ true
in_lengthened [] start size size' h address n e =
    in_cases (start, size) [] address n (λ m. in_here (start, size') [] address n m.0 (omega arith)) (λ later. in_later (start, size') [] address n later) e
in_lengthened (x ∷ xs) start size size' h address n e =
    in_cases x (xs ++ ((start, size) ∷ [])) address n (λ m. in_here x (xs ++ ((start, size') ∷ [])) address n m.0 m.1)
    (λ later. in_later x (xs ++ ((start, size') ∷ [])) address n (in_lengthened xs start size size' h address n later)) e

-- ---- the whole slice

positive : (n : ℕ) → eqb n 0 ≡ false → 0 < n
positive n f = let some = eqb-false n 0 f in omega arith

pub whole_ranges : (len : ℕ) → 0 < len → ranges_of (whole_map len) ≡ (0, len) ∷ []
unfolding ranges_from pick
whole_ranges len some = rw (ne_eqb len 0 (λ e. omega arith))

pub whole_good : (len : ℕ) → good_map len (whole_map len) ≡ true
unfolding good_map ranges_from good_ranges good_range pick
whole_good len = by (eqb len 0) refl
  where
    by : (b : Bool) → eqb len 0 ≡ b → good_map len (whole_map len) ≡ true
    by true e = rw e
    by false e = rw (e, lt-ltb 0 len (positive len e), sum_within len 0 len (omega arith))

-- n bytes lie in the one range that is the whole slice where they lie within it
pub whole_in : (len address n : ℕ) → 0 < len → address + n ≤ len → in_ranges (ranges_of (whole_map len)) address n ≡ true
whole_in len address n some fits = rw (whole_ranges len some) (in_here (0, len) [] address n (omega arith) (omega arith))

-- ---- the ranges by their index

-- do n bytes lie in one of k ranges from range i on?
pub in_any : (k i : ℕ) (starts sizes : List ℕ) (address n : ℕ)
    → list_any (λ (j : ℕ). in_range (get_or starts j 0) (get_or sizes j 0) address n) (range_with_len i k) ≡ in_ranges (ranges_from k starts sizes i) address n
unfolding ranges_from in_ranges
in_any zero i starts sizes address n = refl
in_any (suc k) i starts sizes address n = rw (add-one i) (ap (λ (t : Bool). in_range (get_or starts i 0) (get_or sizes i 0) address n || t) (in_any k (suc i) starts sizes address n))

-- are k ranges from range i on the same?
pub same_all : (k i : ℕ) (starts sizes starts' sizes' : List ℕ)
    → list_all (λ (j : ℕ). eqb (get_or starts j 0) (get_or starts' j 0) && eqb (get_or sizes j 0) (get_or sizes' j 0)) (range_with_len i k)
    ≡ same_ranges (ranges_from k starts sizes i) (ranges_from k starts' sizes' i)
unfolding ranges_from same_ranges
same_all zero i starts sizes starts' sizes' = refl
same_all (suc k) i starts sizes starts' sizes' =
    rw (add-one i, same_all k (suc i) starts sizes starts' sizes')
    (grouped (eqb (get_or starts i 0) (get_or starts' i 0)) (eqb (get_or sizes i 0) (get_or sizes' i 0)) (same_ranges (ranges_from k starts sizes (suc i)) (ranges_from k starts' sizes' (suc i))))
  where
    grouped : (a b c : Bool) → (a && b && c) ≡ (a && (b && c))
    grouped true b c = refl
    grouped false b c = refl

-- the counts are compared first
pub same_counted : (a b : Map) {k : ℕ} → a.count ≡ b.count → k ≡ min a.count most_ranges
    → same_ranges (ranges_from k a.starts a.sizes 0) (ranges_from k b.starts b.sizes 0) ≡ same_map a b
unfolding same_map
same_counted a b ec ek = sym (rw (eq-eqb a.count b.count ec, ← ec, ek))

pub other_count : (a b : Map) → (a.count ≡ b.count → ⊥) → same_map a b ≡ false
unfolding same_map
other_count a b ne = rw (ne_eqb a.count b.count ne)

-- ---- what it means: the same ranges, and as many

ranges_self : (rs : List Range) → same_ranges rs rs ≡ true
unfolding same_ranges
ranges_self [] = refl
ranges_self (r ∷ rs) = rw (eq-eqb r.0 r.0 refl, eq-eqb r.1 r.1 refl) (ranges_self rs)

ranges_mean : (rs ss : List Range) → same_ranges rs ss ≡ true → rs ≡ ss
unfolding same_ranges
ranges_mean [] [] e = refl
ranges_mean [] (s ∷ ss) e = absurd (let w : ◌≡◌ {A = ℕ} 0 1 = cc in omega arith)
ranges_mean (r ∷ rs) [] e = absurd (let w : ◌≡◌ {A = ℕ} 0 1 = cc in omega arith)
ranges_mean ((a, b) ∷ rs) ((c, d) ∷ ss) e =
    let first = both_held (eqb a c) (eqb b d && same_ranges rs ss) e in
    let rest = both_held (eqb b d) (same_ranges rs ss) first.1 in
    rw (eqb-true a c first.0, eqb-true b d rest.0, ranges_mean rs ss rest.1)

pub same_means : (a b : Map) → same_map a b ≡ true → (a.count ≡ b.count) × (ranges_of a ≡ ranges_of b)
unfolding same_map
same_means a b e =
    let both = both_held (eqb a.count b.count) (same_ranges (ranges_of a) (ranges_of b)) e in
    (eqb-true a.count b.count both.0, ranges_mean (ranges_of a) (ranges_of b) both.1)

pub means_same : (a b : Map) → a.count ≡ b.count → ranges_of a ≡ ranges_of b → same_map a b ≡ true
unfolding same_map
means_same a b ec er = rw (eq-eqb a.count b.count ec) (subst (λ rs. same_ranges (ranges_of a) rs ≡ true) er (ranges_self (ranges_of a)))

pub map_self : (map : Map) → same_map map map ≡ true
map_self map = means_same map map refl refl
