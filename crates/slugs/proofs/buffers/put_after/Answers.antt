-- `buffers::put_after`: where there is text, the space and then s.
use Rattle.slugs.proofs.StoredLaws.{after_none, after_some, then}
use Rattle.slugs.proofs.buffers.put_after.Goals as goal

pub returns-then-n-eq0 : goal.returns-then-n-eq0
returns-then-n-eq0 c =
    after_none c.args.n c.if-n-eq0.true c.put.ensures

pub returns : goal.returns
returns c =
    after_some c.args.n c.if-n-eq0.false (then c.put-at.ensures c.put-2.ensures)
