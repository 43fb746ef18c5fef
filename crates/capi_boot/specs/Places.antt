-- What the entry points of first fit and last fit answer and leave.
use Rattle.guest.specs.declared.GuestAddress.{GuestAddress}
use Rattle.std.specs.Prelude.{ℕ, ◌≡◌, List, [], ◌∷◌, eqb, length, Some, None, Option}
use Rattle.std.proofs.lemmas.List.Edits.{sets}
use Rattle.answers.specs.Catalogue.{number_of}
use Rattle.answers.specs.declared.Refusal.TheVariants.{NoRoom}
use Rattle.capi.specs.Values.{number_where, left_where}

-- the number of what was found, and the address
unfoldable pub found_number : Option GuestAddress → ℕ
found_number (Some a) = 0
found_number None = number_of NoRoom

unfoldable pub found_values : Option GuestAddress → List ℕ
found_values (Some a) = a.0 ∷ []
found_values None = []

-- what is told of it, in a list of one element; with another nothing is stored
pub record PlaceTells (found : Option GuestAddress) (out : List ℕ) (r : ℕ) (left : List ℕ) : Type 0 where
  pub answer : r ≡ number_where (eqb (length out) 1) (found_number found)
  pub told : left ≡ left_where (eqb (length out) 1) (sets out 0 (found_values found)) out

-- what is told is the address that is the first, or the last, that fits
pub record PlaceCall (Best : Option GuestAddress → Type 0) (out : List ℕ) (r : ℕ) (left : List ℕ) : Type 0 where
  pub found : Option GuestAddress
  pub best : Best found
  pub tells : PlaceTells found out r left
