-- `copying::copy_some`: what is to come, at part i, leads to what the whole portion says.
use borrow.Author.Rules.{rules}
use mathlib.Core.Path.{◌≡◌, ◌∙◌, refl}
use native.Mathlib.Omega.{arith}
use native.Mathlib.Numerals.{add-one}
use Rattle.guest.proofs.PartsLaws.{goes_start, goes_end, turn_on, turn_stop}
use Rattle.loads.specs.Steps.{tested_part}
use Rattle.loads.proofs.FormatsLaws.{parts_stand, part_copied, portion_counted, short_sum}
use Rattle.loads.proofs.copying.copy_some.Goals as goal

pub loop-i-init : goal.loop-i-init
loop-i-init c =
    let args = c.args in (
      refl,
      omega arith,
      goes_start args.image.now (tested_part args.image.now args.memory.now args.options) c.count-n.result args.at args.done args.budget
          args.guest.now,
    )

pub overflow_sub-copied : goal.overflow_sub-copied
overflow_sub-copied c = let passed = c.min-passed.ensures in omega arith

pub overflow_add-result : goal.overflow_add-result
overflow_add-result c =
    record {
      fits =
          short_sum c.min-passed.result c.copy_part-copied.result.count c.copy_part-copied.result.size _ c.if-k-copied.true (search rules);
    }

pub returns-then-k-copied : goal.returns-then-k-copied
returns-then-k-copied c =
    let args = c.args in
    let image = args.image.now in
    let part = tested_part image args.memory.now args.options in
    let at_turn = c.loop-i in
    let n = c.count-n.result in
    portion_counted image args.memory.now args.options args.at args.done args.budget c.count-n.ensures
    (turn_stop image part n args.at args.done args.budget args.guest.now at_turn.i at_turn.q at_turn.left at_turn.guest at_turn.invariant.2
    (omega arith) (parts_stand image args.memory.now args.options at_turn.i).in_image
    (part_copied image args.memory.now args.options at_turn.i c.part-part.ensures c.copy_part-copied.ensures) c.min-passed.ensures c.if-k-copied.true refl)

pub overflow_sub-left : goal.overflow_sub-left
overflow_sub-left c = let count = c.copy_part-copied.ensures.counted in omega arith

pub overflow_sub-q : goal.overflow_sub-q
overflow_sub-q c = let passed = c.min-passed.ensures in omega arith

pub loop-i-preserved : goal.loop-i-preserved
loop-i-preserved c =
    let args = c.args in
    let image = args.image.now in
    let part = tested_part image args.memory.now args.options in
    let at_turn = c.loop-i in
    let n = c.count-n.result in (
      c.copy_part-copied.auto.guest ∙ at_turn.invariant.0,
      omega arith,
      turn_on image part n args.at args.done args.budget args.guest.now at_turn.i at_turn.q at_turn.left at_turn.guest at_turn.invariant.2
          (omega arith) (parts_stand image args.memory.now args.options at_turn.i).in_image
          (part_copied image args.memory.now args.options at_turn.i c.part-part.ensures c.copy_part-copied.ensures) c.min-passed.ensures c.if-k-copied.false
          (add-one at_turn.i),
    )

pub overflow_sub-result : goal.overflow_sub-result
overflow_sub-result c = let within = c.loop-i.invariant.2.within in omega arith

pub returns : goal.returns
returns c =
    let args = c.args in
    let image = args.image.now in
    let at-end = c.loop-i in
    let most = c.max.ensures in
    let last : c.max.result ≡ at-end.i = omega arith in
    rw last
    (portion_counted image args.memory.now args.options args.at args.done args.budget c.count-n.ensures
    (goes_end image (tested_part image args.memory.now args.options) c.count-n.result args.at args.done args.budget args.guest.now
    at-end.i at-end.q at-end.left at-end.guest at-end.invariant.2 (omega arith)))
