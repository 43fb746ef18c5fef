-- `maps::every_second`: what is still to be stored, from i on, makes of the array what all sixteen make of it.
use Rattle.std.proofs.Common.{◌+◌, ◌*◌, ◌-◌, ◌≡◌}
use Rattle.std.proofs.lemmas.List.Edits.{sets}
use Rattle.guest.specs.Maps.{every_second, most_ranges}
use Rattle.guest.proofs.maps.every_second.Given as goal

abbrev pub invariant-loop-i : goal.invariant-loop-i
invariant-loop-i l = sets l.slot-items l.i (every_second (most_ranges - l.i) l.numbers (l.from + 2 * l.i)) ≡ every_second most_ranges l.numbers l.from
