-- The rows of the memory map that the guest is given: `width` numbers each, of which the first three are address, size and
-- type. Type 1 is memory that the kernel may use.
use Rattle.std.specs.Prelude.{ℕ, zero, suc, ◌+◌, ◌*◌, ◌/◌, Bool, true, false, ◌&&◌, ◌||◌, List, [], eqb, length, get_or, Option, Some, None}
use Rattle.answers.specs.Pick.{pick}
use Rattle.guest.specs.Maps.{in_range}
use Rattle.guest.specs.declared.Extent.{Extent}
use Rattle.boot.specs.declared.MapRows.{MapRows}

-- rows that are given: their width and their numbers, or 0 and none if there are no rows
abbrev pub width_in : Option MapRows → ℕ
width_in None = 0
width_in (Some r) = r.width

abbrev pub numbers_in : Option MapRows → List ℕ
numbers_in None = []
numbers_in (Some r) = r.numbers.now

-- is row i of type 1, and do n bytes at an address lie in it?
unfoldable pub in_row : ℕ → List ℕ → ℕ → ℕ → ℕ → Bool
in_row width rows i address n =
    eqb (get_or rows (i * width + 2) 0) 1 && in_range (get_or rows (i * width) 0) (get_or rows (i * width + 1) 0) address n

-- do they lie in one of k rows from row i on?
unfoldable pub in_one_of : ℕ → ℕ → List ℕ → ℕ → ℕ → ℕ → Bool
in_one_of zero width rows i address n = false
in_one_of (suc k) width rows i address n = in_row width rows i address n || in_one_of k width rows (suc i) address n

-- do they lie in one row of type 1? No bytes lie anywhere; and rows of width 0 are none at all, which are not checked
unfoldable pub in_rows : ℕ → List ℕ → ℕ → ℕ → Bool
in_rows width rows address n = pick (eqb width 0) true (pick (eqb n 0) true (in_one_of (length rows / width) width rows 0 address n))

abbrev pub listed : ℕ → List ℕ → Extent → Bool
listed width rows e = in_rows width rows e.at.0 e.size
