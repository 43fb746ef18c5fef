-- The bytes of an image that the plan of a load looks at: the header.
use Rattle.std.specs.Prelude.{◌≡◌, List, ℕ, length}
use Rattle.fields.specs.Agreement.{Agree}
use Rattle.arm64.specs.Image.{header_size}

-- how many bytes from the first on are looked at
abbrev pub looked_at : ℕ
looked_at = header_size

-- two images of one length that hold the same bytes there
pub record SameFootprint (s t : List ℕ) : Type 0 where
  pub lengths : length s ≡ length t
  pub header : Agree s t 0 looked_at
