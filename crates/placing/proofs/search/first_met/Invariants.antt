-- `search::first_met`: the first that is met of the rest of the list is the first of the whole.
use Rattle.std.proofs.Common.{◌≡◌}
use Rattle.std.specs.Slice.Iter.{chunks_exact_rest, chunks_exact_size}
use Rattle.placing.specs.Placing.{ranges_in}
use Rattle.placing.specs.Search.{met_of}
use Rattle.placing.proofs.search.first_met.Given as goal

abbrev pub invariant-loop-range : goal.invariant-loop-range
invariant-loop-range l = record {
  can : (goal.iterator-loop-range).can_next l.range-iterator;
  finite : (goal.iterator-loop-range).is_finite l.range-iterator;
  pairs : chunks_exact_size l.range-iterator ≡ 2;
  met : met_of (ranges_in l.placed) l.a l.n ≡ met_of (ranges_in (chunks_exact_rest l.range-iterator)) l.a l.n;
}
