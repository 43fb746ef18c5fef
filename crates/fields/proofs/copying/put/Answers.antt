-- `copying::put`: the rest of dst from the place on gets what fits.
use Rattle.fields.proofs.CopyingLaws.{put_rest}
use Rattle.fields.proofs.copying.put.Goals as goal

pub returns : goal.returns
returns c =
    let args = c.args in
    put_rest args.src.now args.dst.now c.copy.new.dst c.min-from.result args.at c.min-from.ensures c.copy.ensures
