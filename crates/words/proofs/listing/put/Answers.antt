-- `listing::put`: a store past the end changes nothing.
use mathlib.Core.Path.{sym}
use lib.Seq.{set_out}
use Rattle.words.proofs.listing.put.Goals as goal

pub returns-else-at-list : goal.returns-else-at-list
returns-else-at-list c = let args = c.args in sym (set_out args.list.now args.at args.v c.if-at-list.false)
