-- How long an image and guest memory may be.
use Rattle.std.specs.Prelude.{Bool, ℕ, leb}

-- the longest image and the longest guest memory, 2^40 bytes
abbrev pub longest : ℕ
longest = 0x10000000000

unfoldable pub allowed : ℕ → Bool
allowed len = leb len longest
