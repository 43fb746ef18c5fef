-- `search::first_met`: the first that is met of the rest of the list is the first of the whole.
use Rattle.std.proofs.Common.{◌∙◌, sym, arith}
use Rattle.std.specs.Slice.Iter.{chunks_exact_rest}
use Rattle.placing.proofs.SearchLaws.{chunk_meets, chunk_apart, chunks_end}
use Rattle.placing.proofs.search.first_met.Goals as goal

pub returns-then-not-are_apart : goal.returns-then-not-are_apart
returns-then-not-are_apart c =
    let args = c.args in
    let turn = c.loop-range in
    let step = c.in-Some.ensures.steps.1 in
    sym (turn.invariant.met
    ∙ chunk_meets (chunks_exact_rest turn.range-iterator) args.a args.n c.in-Some.range.now (chunks_exact_rest c.next.new.self) step.0 (step.1 ∙ turn.invariant.pairs)
    (sym c.are_apart.ensures ∙ c.if-not-are_apart.true))

pub loop-range-preserved : goal.loop-range-preserved
loop-range-preserved c =
    let args = c.args in
    let turn = c.loop-range in
    let steps = c.in-Some.ensures.steps in
    let pairs = steps.0 ∙ turn.invariant.pairs in
    record {
      can = omega arith;
      finite = tt;
      pairs = pairs;
      met =
          turn.invariant.met
          ∙ chunk_apart (chunks_exact_rest turn.range-iterator) args.a args.n c.in-Some.range.now (chunks_exact_rest c.next.new.self) steps.1.0 (steps.1.1 ∙ turn.invariant.pairs)
          (sym c.are_apart.ensures ∙ c.if-not-are_apart.false);
    }

pub returns : goal.returns
returns c =
    let turn = c.loop-range in
    let step = c.in-None.ensures.steps.1 in
    sym (turn.invariant.met ∙ chunks_end (chunks_exact_rest turn.range-iterator) c.args.a c.args.n (omega (arith, step.0, turn.invariant.pairs)))
