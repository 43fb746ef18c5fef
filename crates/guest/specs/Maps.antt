-- Memory maps: up to 16 ranges of a slice, which are its memory. What lies between them is a hole.
use Rattle.std.specs.Prelude.{Bool, true, false, ◌&&◌, ◌||◌, List, [], ◌∷◌, ℕ, zero, suc, ◌+◌, ◌-◌, ◌/◌, ◌%◌, min, leb, ltb, eqb, length, get_or, replicate, Option, Some, None}
use Rattle.answers.specs.Pick.{pick}
use Rattle.fields.specs.Ranges.{lies_within}
use Rattle.guest.specs.declared.Map.{Map}
use Rattle.guest.specs.declared.Extent.{Extent}

-- a range: its start and its size
abbrev pub Range : Type 0
Range = ℕ × ℕ

abbrev pub most_ranges : ℕ
most_ranges = 16

-- k ranges from range i on, of a list of starts and one of sizes
unfoldable pub ranges_from : ℕ → List ℕ → List ℕ → ℕ → List Range
ranges_from zero starts sizes i = []
ranges_from (suc k) starts sizes i = (get_or starts i 0, get_or sizes i 0) ∷ ranges_from k starts sizes (suc i)

-- the ranges of a map; a count above 16 counts as 16
abbrev pub ranges_of : Map → List Range
ranges_of map = ranges_from (min map.count most_ranges) map.starts map.sizes 0

-- the range of a map at an index; past the sixteenth it is empty, at 0
abbrev pub range_at : Map → ℕ → Extent
range_at map i = record { at = record { 0 = get_or map.starts i 0 }; size = get_or map.sizes i 0 }

-- do n bytes at an address lie in a range?
unfoldable pub in_range : ℕ → ℕ → ℕ → ℕ → Bool
in_range start size address n = leb start address && lies_within size (address - start) n

-- do they lie in one of the ranges?
unfoldable pub in_ranges : List Range → ℕ → ℕ → Bool
in_ranges [] address n = false
in_ranges (r ∷ rs) address n = in_range r.0 r.1 address n || in_ranges rs address n

-- a range that starts at a floor or above it, is not empty, and lies within a slice of this length
unfoldable pub good_range : ℕ → ℕ → ℕ → ℕ → Bool
good_range len floor start size = leb floor start && (ltb 0 size && lies_within len start size)

-- ranges from a floor on that rise and do not touch: each starts past the end of the one before it
unfoldable pub good_ranges : ℕ → ℕ → List Range → Bool
good_ranges len floor [] = true
good_ranges len floor (r ∷ rs) = good_range len floor r.0 r.1 && good_ranges len (suc (r.0 + r.1)) rs

-- a good map of a slice of this length
unfoldable pub good_map : ℕ → Map → Bool
good_map len map = leb map.count most_ranges && good_ranges len 0 (ranges_of map)

-- the floor of a range, past the end of the range before it, if there is one
unfoldable pub floor_of : Option ℕ → ℕ
floor_of None = 0
floor_of (Some end) = suc end

-- the map that is the whole of a slice of this length; of an empty slice it has no range
abbrev pub whole_map : ℕ → Map
whole_map len = record { count = pick (eqb len 0) 0 1; starts = replicate 16 0; sizes = len ∷ replicate 15 0 }

-- are two lists of ranges the same?
unfoldable pub same_ranges : List Range → List Range → Bool
same_ranges [] [] = true
same_ranges [] (s ∷ ss) = false
same_ranges (r ∷ rs) [] = false
same_ranges (r ∷ rs) (s ∷ ss) = eqb r.0 s.0 && (eqb r.1 s.1 && same_ranges rs ss)

-- are two maps the same, by their ranges?
unfoldable pub same_map : Map → Map → Bool
same_map a b = eqb a.count b.count && same_ranges (ranges_of a) (ranges_of b)

-- ---- a map as a list of numbers: start, size, start, size ..

-- k numbers of a list, every second one from a place on; past the end they are 0
unfoldable pub every_second : ℕ → List ℕ → ℕ → List ℕ
every_second zero numbers at = []
every_second (suc k) numbers at = get_or numbers at 0 ∷ every_second k numbers (suc (suc at))

-- how many ranges a list of so many numbers has: an odd length, and one above 32, make a count that no good map has
unfoldable pub range_count : ℕ → ℕ
range_count n = pick (eqb (n % 2) 0) (min (n / 2) (suc most_ranges)) (suc most_ranges)

abbrev pub map_of : List ℕ → Map
map_of numbers =
    record {
      count = range_count (length numbers);
      starts = every_second most_ranges numbers 0;
      sizes = every_second most_ranges numbers 1;
    }
