-- An address that may be given.
use Rattle.std.specs.Prelude.{Bool, true, false, ℕ, Some, None, Option}
use Rattle.guest.specs.declared.GuestAddress.{GuestAddress}

-- what is given, counted: nothing counts as 0
unfoldable pub amount_of : Option GuestAddress → ℕ
amount_of None = 0
amount_of (Some a) = a.0

unfoldable pub is_given : Option GuestAddress → Bool
is_given None = false
is_given (Some a) = true

-- what is given, else another address
unfoldable pub given_or : Option GuestAddress → GuestAddress → GuestAddress
given_or None other = other
given_or (Some a) other = a
