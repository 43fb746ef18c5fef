-- `sizes::within`: the test of a range is the test of its sum.
use Rattle.std.proofs.Common.{◌∙◌}
use Rattle.fields.proofs.RangesLaws.{within_test}
use Rattle.cmdline.proofs.sizes.within.Goals as goal

pub returns : goal.returns
returns c = let args = c.args in c.within.ensures ∙ within_test args.capacity args.size args.n
