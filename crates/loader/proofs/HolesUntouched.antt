-- "No byte in a hole changes", of a line put into guest memory, whatever the line, the map and the address, accepted or refused.
use Rattle.answers.specs.Tests.{Check}
use Prim.Native.Nat.{ℕ}
use mathlib.Core.Path.{◌≡◌}
use mathlib.Core.Bool.{false}
use mathlib.Core.List.{List}
use lib.ListN.{get_or}
use Rattle.cmdline.specs.Text.{Text}
use Rattle.guest.specs.Maps.{ranges_of, in_ranges}
use Rattle.guest.specs.Room.{memory_of}
use Rattle.guest.specs.declared.Map.{Map}
use Rattle.guest.proofs.LoadingLaws.{hole_untouched}
use Rattle.loader.specs.Lines.{plan_of, LineLoads}
use Rattle.loader.proofs.LongerGuest.{plan_inside}

pub holes_untouched : (t : Text) (address : ℕ) (map : Map) (guest after : List ℕ) {r : Check} → LineLoads t address map guest r after
    → (a : ℕ) → in_ranges (ranges_of map) a 1 ≡ false → get_or after a 0 ≡ get_or guest a 0
holes_untouched t address map guest after loads =
    hole_untouched (plan_of t (memory_of guest map) address) guest after loads map (plan_inside t (memory_of guest map) address)
