-- Two slices that hold the same bytes in a range of places.
use Rattle.std.specs.Prelude.{◌≡◌, List, ℕ, ◌+◌, ◌≤◌, ◌<◌, get_or}

-- n bytes from a place on are the same; a byte past the end is 0
pub record Agree (s t : List ℕ) (at n : ℕ) : Type 0 where
  pub same : (k : ℕ) → at ≤ k → k < at + n → get_or s k 0 ≡ get_or t k 0
