-- Sums as whole numbers: they never wrap.
use Rattle.std.specs.Prelude.{Bool, ℕ, ◌+◌, ◌≤◌, ◌<◌, min, max, leb}

-- do n bytes from a place lie within a length?
unfoldable pub lies_within : ℕ → ℕ → ℕ → Bool
lies_within len at n = leb (at + n) len

-- the greatest number of 64 bits
abbrev pub top64 : ℕ
top64 = 0xFFFFFFFFFFFFFFFF

-- is a sum below 2^64?
abbrev pub fits64 : ℕ → ℕ → Bool
fits64 a b = lies_within top64 a b

-- do the n addresses from a on and the m from b on have none in common? The later start is at or past the earlier end
unfoldable pub apart : ℕ → ℕ → ℕ → ℕ → Bool
apart a n b m = leb (min (a + n) (b + m)) (max a b)

-- x is one of the n addresses from a on
pub record Among (x a n : ℕ) : Type 0 where
  pub from : a ≤ x
  pub below : x < a + n
