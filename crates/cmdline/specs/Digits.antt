-- Numbers as digits.
use Rattle.std.specs.Prelude.{ℕ, zero, suc, ◌+◌, ◌-◌, ◌*◌, ◌/◌, ◌%◌, List, [], ◌∷◌, ltb}
use Rattle.answers.specs.Pick.{pick}

-- a digit: 0 to 9, then a to f
unfoldable pub digit : ℕ → ℕ
digit n = pick (ltb n 10) (48 + n) (87 + n)

-- the digits of n before those that are there already, at most as many as the first number says
unfoldable pub digits_before : ℕ → ℕ → ℕ → List ℕ → List ℕ
digits_before zero base n later = later
digits_before (suc most) base n later =
    pick (ltb n base) (digit n ∷ later) (digits_before most base (n / base) (digit (n % base) ∷ later))

-- the digits of a number below base ^ 20, the greatest place first: every number of 64 bits in base 10 and 16
abbrev pub digits : ℕ → ℕ → List ℕ
digits base n = digits_before 20 base n []

abbrev pub decimal : ℕ → List ℕ
decimal n = digits 10 n

abbrev pub hexadecimal : ℕ → List ℕ
hexadecimal n = digits 16 n

-- ---- read back

-- the value of a digit
unfoldable pub value_of : ℕ → ℕ
value_of d = pick (ltb d 58) (d - 48) (d - 87)

-- the number that digits make after those that made n
unfoldable pub read_on : ℕ → ℕ → List ℕ → ℕ
read_on base n [] = n
read_on base n (d ∷ ds) = read_on base (n * base + value_of d) ds
