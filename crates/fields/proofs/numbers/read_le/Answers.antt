-- `numbers::read_le`: v is the number of the bytes from i on.
use Rattle.std.proofs.Common.{◌-◌, min, arith}
use Rattle.fields.proofs.NumbersLaws.{read_none, read_next, fits_next}
use Rattle.fields.proofs.numbers.read_le.Goals as goal

pub loop-i-init : goal.loop-i-init
loop-i-init c = (omega arith, read_none _ _ _ (omega arith))

pub overflow_mul-v : goal.overflow_mul-v
overflow_mul-v c =
    let turn = c.loop-i in
    omega (arith, fits_next (min c.args.width 8 - turn.i) 0 (omega arith) turn.invariant.1.small (omega arith))

pub overflow_add-v : goal.overflow_add-v
overflow_add-v c =
    let turn = c.loop-i in
    record { fits = fits_next (min c.args.width 8 - turn.i) _ (omega arith) turn.invariant.1.small c.byte_at.ensures.small }

pub loop-i-preserved : goal.loop-i-preserved
loop-i-preserved c = (omega arith, read_next (omega arith) (omega arith) c.loop-i.invariant.1 c.byte_at.ensures)
