-- Ranges of guest memory.
use Rattle.guest.specs.declared.Extent.{Extent}

-- a range of no bytes, at 0
abbrev pub no_extent : Extent
no_extent = record { at = record { 0 = 0 }; size = 0 }
