-- `search::first_in`: none below the multiple that is tried fits.
use Rattle.std.proofs.Common.{◌-◌}
use Rattle.placing.specs.Placing.{ranges_in}
use Rattle.placing.proofs.SearchLaws.{Rising}
use Rattle.placing.proofs.search.first_in.Given as goal

abbrev pub invariant-loop-a : goal.invariant-loop-a
invariant-loop-a l = Rising (ranges_in l.placed) l.low l.high l.step l.n l.from

abbrev pub decreases-loop-a : goal.decreases-loop-a
decreases-loop-a l = l.high - l.from
