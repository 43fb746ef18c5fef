-- `fit`: the first address in the ranges so far.
use Rattle.placing.specs.Placing.{ranges_in, First}
use Rattle.placing.specs.Search.{Order}
use Rattle.placing.proofs.FitLaws.{FitsAmong}
use Rattle.placing.proofs.fit.Given as goal

abbrev pub invariant-loop-i : goal.invariant-loop-i
invariant-loop-i l = First (Order l.wanted) (FitsAmong (ranges_in l.placed) l.low l.top l.step l.n l.memory.map.starts l.memory.map.sizes l.i) l.best
