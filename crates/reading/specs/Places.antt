-- What stands at a place, and the place after it, which never passes the greatest number of 64 bits.
use Rattle.std.specs.Prelude.{ℕ, ◌+◌, min, List}
use Rattle.fields.specs.Numbers.{ReadAs}
use Rattle.fields.specs.Ranges.{top64}
use Rattle.guest.specs.declared.ImagePlace.{ImagePlace}

-- the bytes of a number: a width above 8 counts as 8
abbrev pub width_of : ℕ → ℕ
width_of width = min width 8

-- the number of this width at a place
abbrev pub NumberAt : List ℕ → ℕ → ℕ → ℕ → Type 0
NumberAt image at width r = ReadAs (width_of width) image at r

-- the place past it; where the sum is not a number of 64 bits, the greatest one, which lies past every image
abbrev pub place_past : ImagePlace → ℕ → ImagePlace
place_past at width = record { 0 = min (at.0 + width_of width) top64 }
