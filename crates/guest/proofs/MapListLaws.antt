-- Laws of maps as lists of numbers.
use mathlib.Core.Path.{◌≡◌, sym, refl, ap}
use mathlib.Core.List.{List, [], ◌∷◌}
use Prim.Native.Nat.{ℕ, zero, suc, ◌<◌}
use native.Mathlib.Omega.{arith}
use borrow.Author.Tests.{ne_eqb}
use lib.ListN.{length, get_or, set, replicate}
use lib.Seq.{sets}
use Rattle.answers.specs.Pick.{pick}
use Rattle.fields.proofs.CopyingLaws.{sets_whole}
use Rattle.guest.specs.Maps.{map_of, whole_map, every_second, range_count, most_ranges}

length_second : (k : ℕ) (numbers : List ℕ) (at : ℕ) → length (every_second k numbers at) ≡ k
unfolding every_second
length_second zero numbers at = refl
length_second (suc k) numbers at = ap suc (length_second k numbers (suc (suc at)))

-- sixteen of them over an array of sixteen are all of it
pub second_all : (numbers : List ℕ) (at : ℕ) → sets (replicate most_ranges 0) 0 (every_second most_ranges numbers at) ≡ every_second most_ranges numbers at
second_all numbers at = sets_whole (every_second most_ranges numbers at) (replicate most_ranges 0) (sym (length_second most_ranges numbers at))

-- one number stored, and the rest from the next place on
pub second_next : (l numbers : List ℕ) (i at : ℕ) {k j next on v : ℕ} → k ≡ suc j → next ≡ suc i → on ≡ suc (suc at) → v ≡ get_or numbers at 0
    → sets (set l i v) next (every_second j numbers on) ≡ sets l i (every_second k numbers at)
unfolding every_second
second_next l numbers i at ek en eo ev = rw (ek, en, eo, ev)

pub second_end : (l numbers : List ℕ) (i at : ℕ) {k : ℕ} → k ≡ 0 → sets l i (every_second k numbers at) ≡ l
unfolding every_second
second_end l numbers i at ek = rw ek

-- the list 0, len is the whole of a slice of this length, and the empty list that of an empty one
pub whole_numbers : (len : ℕ) → 0 < len → map_of (0 ∷ len ∷ []) ≡ whole_map len
unfolding every_second range_count pick
whole_numbers len some = rw (ne_eqb len 0 (λ e. omega arith))

pub none_numbers : map_of [] ≡ whole_map 0
unfolding every_second range_count pick
none_numbers = refl
