-- The search within bounds, as private functions are specified: past what is placed, from multiple to multiple.
use Rattle.guest.specs.declared.GuestAddress.{GuestAddress}
use Rattle.std.specs.Prelude.{ℕ, ◌+◌, ◌%◌, ◌≤◌, ◌≡◌, Bool, true, List, [], ◌∷◌, ltb, Some, None, Option}
use Rattle.answers.specs.Pick.{pick}
use Rattle.fields.specs.Ranges.{apart}
use Rattle.guest.specs.Maps.{Range}
use Rattle.placing.specs.Placing.{apart_from, Below, Above}
use Rattle.placing.specs.declared.Wanted.{Wanted}
use Rattle.placing.specs.declared.Wanted.TheVariants.{Lowest, Highest}

-- the first of these ranges that n bytes at an address meet
unfoldable pub met_of : List Range → ℕ → ℕ → Option Range
met_of [] a n = None
met_of (q ∷ qs) a n = pick (apart q.0 q.1 a n) (met_of qs a n) (Some q)

-- n bytes fit at an address, as far as bounds, multiples of a step and these ranges go
pub record FitsIn (qs : List Range) (low high step n a : ℕ) : Type 0 where
  pub above : low ≤ a
  pub below : a + n ≤ high
  pub multiple : a % step ≡ 0
  pub is_apart : apart_from qs a n ≡ true

-- which comes first: the lower address if the lowest is wanted, else the higher one
unfoldable pub Order : Wanted → ℕ → ℕ → Type 0
Order Lowest = Below
Order Highest = Above

unfoldable pub is_before : Wanted → ℕ → ℕ → Bool
is_before Lowest a b = ltb a b
is_before Highest a b = ltb b a

-- the first of two addresses, each of which may be None
unfoldable pub first_of : Wanted → Option GuestAddress → Option GuestAddress → Option GuestAddress
first_of wanted r None = r
first_of wanted None (Some b) = Some b
first_of wanted (Some a) (Some b) = pick (is_before wanted b.0 a.0) (Some b) (Some a)
