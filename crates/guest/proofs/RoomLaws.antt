-- Laws of room, of memory that grows, and of allowed sizes. Whoever asks for room cites these and does not look behind the name.
use mathlib.Core.Path.{◌≡◌, sym, ◌∙◌, refl, ap, subst, subst⁻¹}
use mathlib.Core.Bool.{Bool, true, false, ◌&&◌, and-false}
use mathlib.Core.List.{List, [], ◌∷◌, ◌++◌}
use Prim.Native.Nat.{ℕ, ◌+◌, ◌≤◌, ◌<◌}
use native.Mathlib.Omega.{arith}
use native.Mathlib.Decide.{dec_le}
use borrow.Author.Tests.{le-leb, eq-eqb, ne_eqb}
use lib.Dec.{leb, eqb}
use lib.ListN.{length, length-append}
use Rattle.answers.specs.Pick.{pick}
use Rattle.answers.specs.Tests.{Test, asked, asked_all, Check}
use Rattle.answers.specs.declared.Refusal.{Refusal}
use Rattle.answers.specs.declared.Refusal.TheVariants.{SliceTooLong, BadMap}
use Rattle.answers.proofs.BoolLaws.{both_held}
use Rattle.answers.proofs.TestsLaws.{holds_passed}
use Rattle.answers.proofs.KeepingLaws.{Widens, end, stays}
use Rattle.fields.specs.Ranges.{lies_within}
use Rattle.fields.proofs.RangesLaws.{within_sum, sum_within, sum_beyond}
use Rattle.guest.specs.Maps.{ranges_of, in_ranges, most_ranges, good_ranges, good_map, whole_map}
use Rattle.guest.specs.Room.{room, room_for, same_memory, Grows, Larger, slice_longer, range_added, last_longer, in_turn, memory_of, whole_of}
use Rattle.guest.specs.Lent.{memory_tests, lent_tests}
use Rattle.guest.specs.Sizes.{allowed, longest}
use Rattle.guest.specs.declared.Map.{Map}
use Rattle.guest.specs.declared.Memory.{Memory}
use Rattle.guest.proofs.MapsLaws.{in_part, in_added, in_lengthened, whole_good, whole_in, map_self}

-- what has room lies within the slice and in one range, and the other way round
pub room_means : (m : Memory) (address n : ℕ) → room m address n ≡ true → (address + n ≤ m.size) × (in_ranges (ranges_of m.map) address n ≡ true)
unfolding room
room_means m address n e =
    let parts = both_held (lies_within m.size address n) (in_ranges (ranges_of m.map) address n) e in
    (within_sum m.size address n parts.0, parts.1)

pub means_room : (m : Memory) (address n : ℕ) → address + n ≤ m.size → in_ranges (ranges_of m.map) address n ≡ true → room m address n ≡ true
unfolding room
means_room m address n fits in_one = rw (sum_within m.size address n fits, in_one)

-- what has room lies within the size
pub room_size : (m : Memory) (address n : ℕ) → room m address n ≡ true → address + n ≤ m.size
room_size m address n e = (room_means m address n e).0

-- so what passes the size has none
pub room_beyond : (m : Memory) (address n : ℕ) → m.size < address + n → room m address n ≡ false
room_beyond m address n lt = by_test (room m address n) refl
  where
    by_test : (b : Bool) → room m address n ≡ b → b ≡ false
    by_test false e = refl
    by_test true e = let sum = room_size m address n e in absurd (omega arith)

-- and what lies in no range has none
pub no_range : (m : Memory) (address n : ℕ) → in_ranges (ranges_of m.map) address n ≡ false → room m address n ≡ false
unfolding room
no_range m address n e = rw e (and-false (lies_within m.size address n))

-- a part of what has room has room
pub room_part : (m : Memory) (address n at k : ℕ) → room m address n ≡ true → address ≤ at → at + k ≤ address + n → room m at k ≡ true
room_part m address n at k e from below =
    let is = room_means m address n e in
    means_room m at k (omega arith) (in_part (ranges_of m.map) address n at k is.1 from below)

-- a piece that may be empty: 0 bytes have room, and for others it is `room`
pub room_for_none : (m : Memory) (address n : ℕ) → n ≡ 0 → room_for m address n ≡ true
unfolding room_for pick
room_for_none m address n e = rw (eq-eqb n 0 e)

pub room_for_some : (m : Memory) (address n : ℕ) → 0 < n → room_for m address n ≡ room m address n
unfolding room_for pick
room_for_some m address n some = rw (ne_eqb n 0 (λ e. omega arith))

-- and in memory that grows it keeps its room
pub room_for_grows : (m m' : Memory) (address n : ℕ) → Grows m m' → room_for m address n ≡ true → room_for m' address n ≡ true
unfolding room_for pick
room_for_grows m m' address n grows e = by_none (eqb n 0) e
  where
    by_none : (b : Bool) → pick b true (room m address n) ≡ true → pick b true (room m' address n) ≡ true
    by_none true w = refl
    by_none false w = grows.rooms address n w

-- a memory is the same as itself
pub memory_self : (m : Memory) → same_memory m m ≡ true
unfolding same_memory
memory_self m = rw (eq-eqb m.size m.size refl) (map_self m.map)

-- ---- memory that grows

pub same_grows : (m : Memory) → Grows m m
same_grows m = record { rooms = λ address n e. e }

-- the slice is no shorter, and what lies in one range does so afterwards
grows_by : (m m' : Memory) → m.size ≤ m'.size
    → ((address n : ℕ) → in_ranges (ranges_of m.map) address n ≡ true → in_ranges (ranges_of m'.map) address n ≡ true) → Grows m m'
grows_by m m' longer ranges =
    record {
      rooms = λ address n e. let is = room_means m address n e in means_room m' address n (omega arith) (ranges address n is.1);
    }

-- memory made larger in any of these ways grows
pub larger_grows : {m m' : Memory} → Larger m m' → Grows m m'
larger_grows {m} {m'} (slice_longer longer e) =
    grows_by m m' longer (λ address n in_one. subst⁻¹ (λ map. in_ranges (ranges_of map) address n ≡ true) e in_one)
larger_grows {m} {m'} (range_added xs ys r longer e e') =
    grows_by m m' longer
    (λ address n in_one.
    subst⁻¹ (λ rs. in_ranges rs address n ≡ true) e' (in_added xs ys r address n (subst (λ rs. in_ranges rs address n ≡ true) e in_one)))
larger_grows {m} {m'} (last_longer xs start size size' more longer e e') =
    grows_by m m' longer
    (λ address n in_one.
    subst⁻¹ (λ rs. in_ranges rs address n ≡ true) e'
    (in_lengthened xs start size size' more address n (subst (λ rs. in_ranges rs address n ≡ true) e in_one)))
larger_grows (in_turn first next) =
    record { rooms = λ address n e. (larger_grows next).rooms address n ((larger_grows first).rooms address n e) }

-- a slice lengthened at its end, with the same map
pub longer_grows : (guest more : List ℕ) (map : Map) → Grows (memory_of guest map) (memory_of (guest ++ more) map)
longer_grows guest more map = larger_grows (slice_longer (simp length-append (omega arith)) refl)

-- ---- the whole slice: the room of one byte or more is that it lies within the slice, as it is with no map

pub whole_room : (size address n : ℕ) → 0 < n → room (whole_of size) address n ≡ lies_within size address n
unfolding room
whole_room size address n some = split (dec_le (address + n) size)
  where
    split : Dec (address + n ≤ size) → (lies_within size address n && in_ranges (ranges_of (whole_map size)) address n) ≡ lies_within size address n
    split (yes fits) = rw (sum_within size address n fits, whole_in size address n (omega arith) fits)
    split (no out) = rw (sum_beyond size address n (omega arith))

-- and its map is good: what is lent is tested as it is with no map
pub whole_lent : (gate : Check) (size : ℕ) (rest : List Test)
    → asked_all gate (memory_tests (whole_of size) ++ rest) ≡ asked_all gate ((allowed size, SliceTooLong) ∷ rest)
whole_lent gate size rest =
    rw (whole_good size) (ap (λ g. asked_all g rest) (holds_passed (asked gate (allowed size) SliceTooLong) BadMap))

-- ---- the whole of a slice, and of a longer one

pub whole_grows : (size size' : ℕ) → size ≤ size' → Grows (whole_of size) (whole_of size')
whole_grows size size' longer = split (dec_le 1 size')
  where
    split : Dec (1 ≤ size') → Grows (whole_of size) (whole_of size')
    split (yes some) =
        record {
          rooms = λ address n e. let fits = room_size (whole_of size) address n e in means_room (whole_of size') address n (omega arith) (whole_in size' address n some (omega arith));
        }
    split (no none) = subst (λ k. Grows (whole_of size) (whole_of k)) (let same : size ≡ size' = omega arith in same) (same_grows (whole_of size))

-- ---- the ranges of a map only: what its unused elements hold makes no difference

module _ (m m' : Memory) (size : m.size ≡ m'.size) (count : m.map.count ≡ m'.map.count) (ranges : ranges_of m.map ≡ ranges_of m'.map) where
  pub room_ranges : (address n : ℕ) → room m address n ≡ room m' address n
  unfolding room
  room_ranges address n = ap (λ len. lies_within len address n && in_ranges (ranges_of m.map) address n) size ∙ ap (λ rs. lies_within m'.size address n && in_ranges rs address n) ranges

  pub good_ranges_lem : good_map m.size m.map ≡ good_map m'.size m'.map
  unfolding good_map
  good_ranges_lem =
      ap (λ len. leb m.map.count most_ranges && good_ranges len 0 (ranges_of m.map)) size
      ∙ ap (λ n. leb n most_ranges && good_ranges m'.size 0 (ranges_of m.map)) count
      ∙ ap (λ rs. leb m'.map.count most_ranges && good_ranges m'.size 0 rs) ranges

  pub lent_ranges : (imageLength : ℕ) → lent_tests imageLength m ≡ lent_tests imageLength m'
  lent_ranges imageLength =
      ap (λ (a : Bool). (allowed imageLength, SliceTooLong) ∷ (a, SliceTooLong) ∷ (good_map m.size m.map, BadMap) ∷ []) (ap allowed size)
      ∙ ap (λ (g : Bool). (allowed imageLength, SliceTooLong) ∷ (allowed m'.size, SliceTooLong) ∷ (g, BadMap) ∷ []) good_ranges_lem

-- ---- what is lent, before and after

-- two lengths within the limit: both are allowed
pub allowed_both : (len len' : ℕ) → len ≤ len' → len' ≤ longest → allowed len' ≡ allowed len
unfolding allowed
allowed_both len len' h short = le-leb len' longest short ∙ sym (le-leb len longest (omega arith))

-- a list and one that it is the front of, within the limit
pub allowed_longer : (s t : List ℕ) → length (s ++ t) ≤ longest → allowed (length (s ++ t)) ≡ allowed (length s)
allowed_longer s t short = allowed_both (length s) (length (s ++ t)) (simp length-append (omega arith)) short

-- the rows of what is lent stay where the slices are allowed before and after, and the maps good
module _ (Lifts : Refusal → Type 0) (m m' : Memory) (memories : allowed m'.size ≡ allowed m.size)
    (maps : good_map m'.size m'.map ≡ good_map m.size m.map) where
  pub memory_stays : Widens Lifts (memory_tests m) (memory_tests m')
  memory_stays = stays memories (λ _. stays maps (λ _. end))

  pub lent_stays : (len len' : ℕ) → allowed len' ≡ allowed len → Widens Lifts (lent_tests len m) (lent_tests len' m')
  lent_stays len len' images = stays images (λ _. memory_stays)
