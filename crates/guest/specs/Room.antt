-- Guest memory and its room: the one definition of what lies in guest memory.
use Rattle.std.specs.Prelude.{◌≡◌, Bool, true, ◌&&◌, List, [], ◌∷◌, ◌++◌, ℕ, ◌≤◌, eqb, length}
use Rattle.answers.specs.Pick.{pick}
use Rattle.fields.specs.Ranges.{lies_within}
use Rattle.guest.specs.Maps.{Range, ranges_of, in_ranges, whole_map, same_map}
use Rattle.guest.specs.declared.Map.{Map}
use Rattle.guest.specs.declared.Memory.{Memory}

-- do n bytes at an address lie in guest memory, within its slice and in one of its ranges? The sum is the whole number
unfoldable pub room : Memory → ℕ → ℕ → Bool
room m address n = lies_within m.size address n && in_ranges (ranges_of m.map) address n

-- the same for a piece that may be empty: 0 bytes have room at every address
unfoldable pub room_for : Memory → ℕ → ℕ → Bool
room_for m address n = pick (eqb n 0) true (room m address n)

-- are two memories the same, by size and range by range?
unfoldable pub same_memory : Memory → Memory → Bool
same_memory m m' = eqb m.size m'.size && same_map m.map m'.map

-- every room of the one memory is room of the other
pub record Grows (m m' : Memory) : Type 0 where
  pub rooms : (address n : ℕ) → room m address n ≡ true → room m' address n ≡ true

-- memory made larger: the slice lengthened, a range added anywhere, the last range lengthened, and these one after the other
pub data Larger : Memory → Memory → Type 0 where
  slice_longer : {m m' : Memory} → m.size ≤ m'.size → m'.map ≡ m.map → Larger m m'
  range_added : {m m' : Memory} (xs ys : List Range) (r : Range) → m.size ≤ m'.size → ranges_of m.map ≡ xs ++ ys → ranges_of m'.map ≡ xs ++ (r ∷ ys)
      → Larger m m'
  last_longer : {m m' : Memory} (xs : List Range) (start size size' : ℕ) → size ≤ size' → m.size ≤ m'.size → ranges_of m.map ≡ xs ++ ((start, size) ∷ [])
      → ranges_of m'.map ≡ xs ++ ((start, size') ∷ []) → Larger m m'
  in_turn : {m m' m'' : Memory} → Larger m m' → Larger m' m'' → Larger m m''

-- the memory that a slice is with a map
abbrev pub memory_of : List ℕ → Map → Memory
memory_of guest map = record { size = length guest; map = map }

-- the whole of a slice of this length
abbrev pub whole_of : ℕ → Memory
whole_of size = record { size = size; map = whole_map size }
