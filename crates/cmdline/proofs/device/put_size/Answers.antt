-- `device::put_size`: the first unit that divides decides.
use Rattle.std.proofs.Common.{refl, arith}
use Rattle.slugs.proofs.StoredLaws.{stored_as, then}
use Rattle.cmdline.proofs.DeviceLaws.{none_yet, none_more, size_unit, size_bare}
use Rattle.cmdline.proofs.device.put_size.Goals as goal

pub loop-unit-init : goal.loop-unit-init
loop-unit-init c = (refl, none_yet c.args.size)

pub returns-then-size-unit-eq0 : goal.returns-then-size-unit-eq0
returns-then-size-unit-eq0 c =
    let turn = c.loop-unit in
    stored_as (size_unit c.args.size turn.unit-index c.loop-unit-test.true turn.invariant.1 c.if-size-unit-eq0.true)
    (then (rw turn.invariant.0 at c.put_decimal-end.ensures) c.put.ensures)

pub loop-unit-preserved : goal.loop-unit-preserved
loop-unit-preserved c =
    let turn = c.loop-unit in
    (turn.invariant.0, none_more c.args.size turn.unit-index (omega arith) c.loop-unit-test.true turn.invariant.1 c.if-size-unit-eq0.false)

pub returns : goal.returns
returns c =
    let end = c.loop-unit in
    stored_as (size_bare c.args.size end.unit-index c.loop-unit-test.false end.invariant.1) (rw end.invariant.0 at c.put_decimal.ensures)
