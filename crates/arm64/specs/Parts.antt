-- The one part of a load: the whole file, from its first byte on, if its address is a number of 64 bits.
use Rattle.std.specs.Prelude.{ℕ, List, length}
use Rattle.answers.specs.Pick.{pick}
use Rattle.fields.specs.Ranges.{fits64}
use Rattle.guest.specs.Parts.{no_part}
use Rattle.guest.specs.declared.Part.{Part}
use Rattle.arm64.specs.Image.{text_offset, start_of}

abbrev pub whole_file : List ℕ → ℕ → Part
whole_file image base = record { address = record { 0 = start_of image base }; place = record { 0 = 0 }; size = length image }

unfoldable pub part_of : List ℕ → ℕ → Part
part_of image base = pick (fits64 base (text_offset image)) (whole_file image base) no_part
