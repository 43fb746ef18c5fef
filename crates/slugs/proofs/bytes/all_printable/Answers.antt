-- `bytes::all_printable`: the parts before are printable, so the rest decides.
use Rattle.std.proofs.Common.{◌∙◌, Bool, ◌&&◌, ap, sym, arith}
use Rattle.std.specs.Slice.Iter.{chunks_rest}
use Rattle.slugs.specs.Bytes.{printable, all_bytes}
use Rattle.slugs.proofs.BytesLaws.{every_part, every_none}
use Rattle.slugs.proofs.bytes.all_printable.Goals as goal

pub returns-then-not-part_is_printable : goal.returns-then-not-part_is_printable
returns-then-not-part_is_printable c =
    let after = chunks_rest c.next.new.self in
    let step = c.in-Some.ensures.steps.1 in
    sym
    (c.loop-part.invariant.rest ∙ ap (all_bytes printable) step.0 ∙ every_part printable c.in-Some.part.now after
    ∙ ap (λ (r : Bool). r && all_bytes printable after) (sym c.part_is_printable.ensures ∙ c.if-not-part_is_printable.true))

pub loop-part-preserved : goal.loop-part-preserved
loop-part-preserved c =
    let after = chunks_rest c.next.new.self in
    let steps = c.in-Some.ensures.steps in
    let size = steps.0 ∙ c.loop-part.invariant.size in
    record {
      can = omega arith;
      finite = tt;
      size = size;
      rest =
          c.loop-part.invariant.rest ∙ ap (all_bytes printable) steps.1.0 ∙ every_part printable c.in-Some.part.now after
          ∙ ap (λ (r : Bool). r && all_bytes printable after) (sym c.part_is_printable.ensures ∙ c.if-not-part_is_printable.false);
    }

pub returns : goal.returns
returns c =
    let step = c.in-None.ensures.steps.1 in
    sym (c.loop-part.invariant.rest ∙ every_none printable (chunks_rest c.loop-part.part-iterator) step.0)
