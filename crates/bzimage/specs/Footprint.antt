-- The bytes of an image that the plan of a load looks at: the setup header.
use Rattle.std.specs.Prelude.{◌≡◌, List, ℕ, length}
use Rattle.fields.specs.Agreement.{Agree}
use Rattle.bzimage.specs.SetupHeader.{header_start, header_size}

-- two images of one length that hold the same bytes there
pub record SameFootprint (s t : List ℕ) : Type 0 where
  pub lengths : length s ≡ length t
  pub header : Agree s t header_start header_size
