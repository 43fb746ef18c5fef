-- The one limit.
use Rattle.std.specs.Prelude.{ℕ, Bool, ◌&&◌, leb}

-- the greatest capacity, the closing zero counted, and the length of each of the two buffers
abbrev pub limit : ℕ
limit = 16384

-- a capacity that a line can have: 1 to the limit
unfoldable pub allowed : ℕ → Bool
allowed capacity = leb 1 capacity && leb capacity limit
