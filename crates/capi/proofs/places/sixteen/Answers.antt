-- `places::sixteen`: what is still to be taken, from i on, makes of the array what all sixteen make of it.
use Prim.Native.Nat.{◌+◌}
use mathlib.Core.Path.{sym, ◌∙◌}
use native.Mathlib.Omega.{arith}
use Rattle.capi.proofs.NumbersLaws.{numbers_all, numbers_next, numbers_end}
use Rattle.capi.proofs.places.sixteen.Goals as goal

pub loop-i-init : goal.loop-i-init
loop-i-init c = numbers_all c.args.numbers.now c.args.from (omega arith)

pub loop-i-preserved : goal.loop-i-preserved
loop-i-preserved c =
    let args = c.args in
    let turn = c.loop-i in
    numbers_next turn.slot-items args.numbers.now turn.i (args.from + turn.i) (omega arith) (omega arith) (omega arith) c.number_at.ensures ∙ turn.invariant

pub returns : goal.returns
returns c =
    let args = c.args in
    let end = c.loop-i in
    sym (numbers_end end.slot-items args.numbers.now end.i (args.from + end.i) (omega arith)) ∙ end.invariant
