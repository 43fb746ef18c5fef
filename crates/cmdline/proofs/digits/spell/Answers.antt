-- `digits::spell`: the digits that are still to come, before those in the array, are those of the number.
use Prim.Native.Nat.{◌-◌}
use mathlib.Core.Path.{◌∙◌}
use native.Mathlib.Nat.{mod-lt}
use native.Mathlib.Omega.{arith}
use lib.ListN.{length-set}
use Rattle.cmdline.specs.Digits.{digits}
use Rattle.cmdline.proofs.DigitsLaws.{digits_last, digits_turn, down, two_left}
use Rattle.slugs.proofs.ListLaws.{gone}
use Rattle.cmdline.proofs.digits.spell.Goals as goal

pub loop-x-init : goal.loop-x-init
loop-x-init c = (omega arith, omega arith, c.requires.0, c.requires.3, rw (gone c.args.d.now 20 (omega arith)))

pub digit-requires : goal.digit-requires
digit-requires c = omega (arith, mod-lt c.loop-x.x {m = c.args.base} (omega arith))

pub loop-x-preserved : goal.loop-x-preserved
loop-x-preserved c =
    let args = c.args in
    let at_turn = c.loop-x in
    let left = two_left args.base at_turn.x at_turn.i at_turn.invariant.0 c.loop-x-test.true at_turn.invariant.3 in (
      omega arith,
      omega arith,
      length-set at_turn.d (at_turn.i - 1) c.digit.result ∙ at_turn.invariant.2,
      down args.base at_turn.x at_turn.i (omega arith) at_turn.invariant.0 at_turn.invariant.3,
      digits_turn at_turn.d args.base at_turn.x at_turn.i c.digit.result (digits args.base args.n)
          c.digit.ensures at_turn.invariant.0 (omega arith) c.loop-x-test.true at_turn.invariant.4,
    )

pub returns : goal.returns
returns c =
    let args = c.args in
    let at-end = c.loop-x in (
      omega arith,
      length-set at-end.d (at-end.i - 1) c.digit-2.result ∙ at-end.invariant.2,
      digits_last at-end.d args.base at-end.x at-end.i c.digit-2.result (digits args.base args.n)
          c.digit-2.ensures at-end.invariant.0 (omega arith) c.loop-x-test.false at-end.invariant.4,
    )
