-- `ranges::within`: the test by a difference is the test by the sum.
use mathlib.Core.Path.{sym}
use native.Mathlib.Omega.{arith}
use Rattle.fields.proofs.RangesLaws.{sum_beyond, by_difference}
use Rattle.fields.proofs.ranges.within.Goals as goal

pub returns-then-len-at : goal.returns-then-len-at
returns-then-len-at c = let args = c.args in sym (sum_beyond args.len args.at args.n (omega arith))

pub returns : goal.returns
returns c = let args = c.args in by_difference args.len args.at args.n c.if-len-at.false
