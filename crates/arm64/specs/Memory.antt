-- The memory that the kernel needs, as its header says, if its address is a number of 64 bits.
use Rattle.std.specs.Prelude.{ℕ, List}
use Rattle.answers.specs.Pick.{pick}
use Rattle.fields.specs.Ranges.{fits64}
use Rattle.guest.specs.Extents.{no_extent}
use Rattle.guest.specs.declared.Extent.{Extent}
use Rattle.arm64.specs.Image.{text_offset, image_size, start_of}

-- from the load address on
abbrev pub image_memory : List ℕ → ℕ → Extent
image_memory image base = record { at = record { 0 = start_of image base }; size = image_size image }

unfoldable pub memory_of : List ℕ → ℕ → Extent
memory_of image base = pick (fits64 base (text_offset image)) (image_memory image base) no_extent
