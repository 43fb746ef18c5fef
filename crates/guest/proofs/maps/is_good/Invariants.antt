-- `maps::is_good`: what is left of the ranges decides as the whole does.
use Rattle.std.proofs.Common.{◌-◌, ◌≡◌}
use Rattle.guest.specs.Maps.{ranges_from, good_ranges, floor_of}
use Rattle.guest.proofs.maps.is_good.Given as goal

abbrev pub invariant-loop-i : goal.invariant-loop-i
invariant-loop-i l =
    good_ranges l.len (floor_of l.end) (ranges_from (l.i-end - l.i) l.map.starts l.map.sizes l.i) ≡ good_ranges l.len 0 (ranges_from l.i-end l.map.starts l.map.sizes 0)
