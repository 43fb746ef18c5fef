-- `lists::check`: the tests of the values before this one hold, so the rest decides.
use Rattle.std.proofs.Common.{◌≡◌, drop}
use Rattle.answers.specs.Tests.{pass, asked_all}
use Rattle.slugs.specs.Lists.{list_tests}
use Rattle.slugs.proofs.lists.check.Given as goal

abbrev pub invariant-loop-end : goal.invariant-loop-end
invariant-loop-end l = asked_all pass (list_tests l.at (drop l.end-index l.ends) l.values) ≡ asked_all pass (list_tests 0 l.ends l.values)
