-- `copying::copy_image`: the part comes back with the image's bytes at its front, which is their pouring at the address.
use native.Mathlib.Omega.{arith}
use Rattle.guest.proofs.PartLaws.{image_poured}
use Rattle.guest.proofs.copying.copy_image.Goals as goal

pub returns : goal.returns
returns c =
    let args = c.args in
    let addr = c.clipped-addr.ensures in
    let from = c.clipped-from.ensures in
    let count = c.clipped in
    image_poured args.address.0 args.place.0 args.n args.guest.now args.image.now addr from (omega arith) c.copy.ensures
