-- Rounding up to 4.
use Rattle.std.specs.Prelude.{ℕ, ◌+◌, ◌*◌, ◌/◌}

-- the least multiple of 4 that is not below n
abbrev pub rounded_up : ℕ → ℕ
rounded_up n = (n + 3) / 4 * 4
