-- `splitting::splits`: a tag at a place is a tag at the start of the rest.
use Rattle.std.proofs.Common.{◌∙◌}
use Rattle.slugs.proofs.SplittingLaws.{tag_here}
use Rattle.slugs.proofs.splitting.splits.Goals as goal

pub returns-then-even : goal.returns-then-even
returns-then-even c = rw c.if-even.true (c.is_tag.ensures ∙ tag_here c.args.s.now c.args.at)
