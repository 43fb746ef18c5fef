-- `search::last_in`: none above the multiple that is tried fits.
use Rattle.placing.specs.Placing.{ranges_in}
use Rattle.placing.proofs.SearchLaws.{Falling}
use Rattle.placing.proofs.search.last_in.Given as goal

abbrev pub invariant-loop-a : goal.invariant-loop-a
invariant-loop-a l = Falling (ranges_in l.placed) l.low l.high l.step l.n l.a

abbrev pub decreases-loop-a : goal.decreases-loop-a
decreases-loop-a l = l.a
