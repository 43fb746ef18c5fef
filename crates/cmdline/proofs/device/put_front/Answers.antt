-- `device::put_front`: one part after the other.
use Rattle.slugs.proofs.StoredLaws.{stored_as, then}
use Rattle.cmdline.proofs.DeviceLaws.{front_parts}
use Rattle.cmdline.proofs.device.put_front.Goals as goal

pub returns : goal.returns
returns c =
    let args = c.args in
    let upto = then (then (then c.put-at.ensures c.put_size-at.ensures) c.put-at-2.ensures) c.put_number-at.ensures in
    stored_as (front_parts args.size args.baseaddr args.irq) (then (then upto c.put-at-3.ensures) (rw c.from.ensures at c.put_decimal.ensures))
