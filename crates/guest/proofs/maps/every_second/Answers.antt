-- `maps::every_second`: what is still to be stored, from i on, makes of the array what all sixteen make of it.
use Rattle.std.proofs.Common.{◌+◌, ◌*◌, sym, ◌∙◌, arith}
use native.Mathlib.Nat.{add-zero}
use Rattle.guest.proofs.MapListLaws.{second_all, second_next, second_end}
use Rattle.guest.proofs.maps.every_second.Goals as goal

pub loop-i-init : goal.loop-i-init
loop-i-init c = rw (add-zero c.args.from) (second_all c.args.numbers.now c.args.from)

pub loop-i-preserved : goal.loop-i-preserved
loop-i-preserved c =
    let args = c.args in
    let turn = c.loop-i in
    second_next turn.slot-items args.numbers.now turn.i (args.from + 2 * turn.i) (omega arith) (omega arith) (omega arith) c.number_at.ensures ∙ turn.invariant

pub returns : goal.returns
returns c =
    let args = c.args in
    let last = c.loop-i in
    sym (second_end last.slot-items args.numbers.now last.i (args.from + 2 * last.i) (omega arith)) ∙ last.invariant
