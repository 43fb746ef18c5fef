-- `header::header_with`: zeros, the image copied over them from the header's start on, and the address in its field.
use Rattle.bzimage.proofs.HeaderLaws.{header_made}
use Rattle.bzimage.proofs.header.header_with.Goals as goal

pub returns : goal.returns
returns c =
    let args = c.args in
    header_made args.image.now args.load.0 c.place-first.ensures c.min-from.ensures c.copy.ensures c.place.ensures c.put_le.ensures
