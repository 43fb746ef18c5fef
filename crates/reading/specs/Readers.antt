-- What a reader is, and what it gives.
use Rattle.std.specs.Prelude.{ℕ, ◌≡◌, List}
use Rattle.std.specs.Borrow.{Bor}
use Rattle.guest.specs.declared.ImagePlace.{ImagePlace}
use Rattle.reading.specs.declared.Reader.{Reader}
use Rattle.reading.specs.declared.Taken.{Taken}
use Rattle.reading.specs.Places.{NumberAt, place_past}

-- a reader of an image at a place
abbrev pub reader_at : Bor (List ℕ) → ImagePlace → Reader
reader_at image at = record { image = image; at = at }

-- what is taken: the number at the reader's place, and the reader past it
pub record Takes (reader : Reader) (width : ℕ) (t : Taken) : Type 0 where
  pub number : NumberAt reader.image.now reader.at.0 width t.value
  pub past : t.rest ≡ reader_at reader.image (place_past reader.at width)
