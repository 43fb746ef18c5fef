-- `writing::write`: one part after the other.
use Rattle.std.proofs.Common.{ap, ◌++◌, ◌∷◌, []}
use Rattle.slugs.proofs.StoredLaws.{stored_as, then}
use Rattle.cmdline.proofs.WritingLaws.{whole_parts}
use Rattle.cmdline.proofs.writing.write.Goals as goal

pub returns : goal.returns
returns c =
    stored_as (ap (λ text. text ++ (0 ∷ [])) (whole_parts c.args.boot.now c.args.init.now))
    (then (then (then c.put-at.ensures (stored_as c.separator.ensures c.put-at-2.ensures)) c.put-at-3.ensures) c.put.ensures)
