-- `buffers::put`: the part that begins at the place comes back with the bytes at its front.
use Rattle.slugs.proofs.StoredLaws.{stored_part}
use Rattle.slugs.proofs.buffers.put.Goals as goal

pub returns : goal.returns
returns c =
    let args = c.args in
    stored_part args.d.now args.s.now args.at c.min-from.ensures c.copy.ensures c.min-count.ensures
