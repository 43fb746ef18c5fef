-- `numbers::is_within`: below 256 to the width; that power passes 64 bits if the width is 8.
use Rattle.std.proofs.Common.{arith}
use Rattle.fields.specs.Numbers.{fits}
use Rattle.fields.proofs.NumbersLaws.{past_fits}
use Rattle.fields.proofs.numbers.is_within.Goals as goal

pub returns-in-Some : goal.returns-in-Some
unfolding fits
returns-in-Some c = cc (c.in-Some.ensures.1)

pub returns-in-None : goal.returns-in-None
returns-in-None c = past_fits _ _ c.bytes_of.ensures c.in-None.ensures (omega arith)
