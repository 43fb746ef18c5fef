-- `device::text`: the front and then the ID, both short.
use native.Mathlib.Omega.{arith}
use lib.ListN.{length-append}
use Rattle.slugs.proofs.StoredLaws.{stored_within, then}
use Rattle.cmdline.proofs.DeviceFits.{front_few}
use Rattle.cmdline.proofs.device.text.Goals as goal

pub put_id-requires : goal.put_id-requires
put_id-requires c = stored_within c.put_front-at.ensures

pub returns : goal.returns
returns c =
    let args = c.args in
    let fits = c.ranges in
    let few = front_few args.size args.baseaddr args.irq fits.size.fits fits.baseaddr.fits fits.irq.fits in
    let end = c.put_id.ensures.1 in
    (then c.put_front-at.ensures c.put_id.ensures.0, simp length-append (omega arith))
