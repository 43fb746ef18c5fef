-- `bytes::all_printable`: the parts before are printable, so the rest decides.
use Rattle.std.proofs.Common.{◌≡◌}
use Rattle.std.specs.Slice.Iter.{chunks_rest, chunks_size}
use Rattle.slugs.specs.Bytes.{printable, all_bytes}
use Rattle.slugs.proofs.bytes.all_printable.Given as goal

abbrev pub invariant-loop-part : goal.invariant-loop-part
invariant-loop-part l = record {
  can : (goal.iterator-loop-part).can_next l.part-iterator;
  finite : (goal.iterator-loop-part).is_finite l.part-iterator;
  size : chunks_size l.part-iterator ≡ 64;
  rest : all_bytes printable l.s ≡ all_bytes printable (chunks_rest l.part-iterator);
}
