-- `values::contains_double_quotes`: nothing is strictly inside one byte or none.
use Rattle.std.proofs.Common.{arith}
use Rattle.slugs.proofs.ValuesLaws.{inner_short}
use Rattle.slugs.proofs.values.contains_double_quotes.Goals as goal

pub returns-in_default : goal.returns-in_default
returns-in_default c = inner_short c.args.s.now (omega arith)
