-- Laws of ranges.
use Prim.Native.Nat.{ℕ, ◌+◌, ◌-◌, ◌≤◌, ◌<◌}
use mathlib.Core.Path.{◌≡◌, sym, ◌∙◌, refl}
use mathlib.Core.Bool.{true, false}
use native.Mathlib.Omega.{arith}
use native.Mathlib.Decide.{dec_le}
use borrow.Author.Tests.{le-leb, lt-leb, leb-true, leb-false}
use lib.Dec.{leb}
use Rattle.fields.specs.Ranges.{lies_within}

-- the test is on the sum
pub within_test : (len at n : ℕ) → lies_within len at n ≡ leb (at + n) len
unfolding lies_within
within_test len at n = refl

-- what it says of the sum
pub within_sum : (len at n : ℕ) → lies_within len at n ≡ true → at + n ≤ len
unfolding lies_within
within_sum len at n e = leb-true (at + n) len e

pub sum_within : (len at n : ℕ) → at + n ≤ len → lies_within len at n ≡ true
unfolding lies_within
sum_within len at n h = le-leb (at + n) len h

pub sum_beyond : (len at n : ℕ) → len < at + n → lies_within len at n ≡ false
unfolding lies_within
sum_beyond len at n h = lt-leb (at + n) len h

pub beyond_sum : (len at n : ℕ) → lies_within len at n ≡ false → len < at + n
unfolding lies_within
beyond_sum len at n e = leb-false (at + n) len e

-- what lies within a length lies within a greater one
pub within_grows : (len len' at n : ℕ) → len ≤ len' → lies_within len at n ≡ true → lies_within len' at n ≡ true
within_grows len len' at n h e = let sum = within_sum len at n e in sum_within len' at n (omega arith)

-- asked by a difference, as code must, or by the sum: the same test
pub by_difference : (len at n : ℕ) → at ≤ len → leb n (len - at) ≡ lies_within len at n
by_difference len at n h = split (dec_le (at + n) len)
  where
    split : Dec (at + n ≤ len) → leb n (len - at) ≡ lies_within len at n
    split (yes p) = le-leb n (len - at) (omega arith) ∙ sym (sum_within len at n p)
    split (no q) = lt-leb n (len - at) (omega arith) ∙ sym (sum_beyond len at n (omega arith))
