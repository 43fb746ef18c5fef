-- `writing::clipped`: the first bytes, as many as there are or as the limit has.
use Rattle.cmdline.proofs.WritingLaws.{clipped_take}
use Rattle.cmdline.proofs.writing.clipped.Goals as goal

pub returns : goal.returns
returns c = clipped_take c.args.s.now c.min.ensures
