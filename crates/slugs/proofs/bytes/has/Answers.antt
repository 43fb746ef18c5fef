-- `bytes::has`: the library's test of each byte is the definition's.
use Rattle.std.proofs.Common.{◌∙◌}
use Rattle.slugs.proofs.BytesLaws.{has_any}
use Rattle.slugs.proofs.bytes.has.Goals as goal

pub returns : goal.returns
returns c = c.contains.ensures.value ∙ has_any c.args.byte c.args.s.now
