-- `digits::digit`: the test is the definition's own.
use borrow.Author.Tests.{lt-ltb, le-ltb}
use Rattle.answers.specs.Pick.{pick}
use Rattle.cmdline.specs.Digits.{digit}
use Rattle.cmdline.proofs.digits.digit.Goals as goal

pub returns-then-n-lt10 : goal.returns-then-n-lt10
unfolding digit pick
returns-then-n-lt10 c = rw (lt-ltb c.args.n 10 c.if-n-lt10.true)

pub returns-else-n-lt10 : goal.returns-else-n-lt10
unfolding digit pick
returns-else-n-lt10 c = rw (le-ltb c.args.n 10 c.if-n-lt10.false)
