-- `splitting::after`: clipped to the text, what lies past a place is the same.
use Rattle.std.proofs.Common.{◌∙◌, ap, arith, drop, take, length, ◌-◌}
use Rattle.slugs.proofs.SplittingLaws.{past}
use Rattle.slugs.proofs.splitting.after.Goals as goal

pub returns : goal.returns
returns c =
    let s = c.args.s.now in
    let from = c.min.result in
    past (take (length s - from) (drop from s)) 4 (omega arith) ∙ ap (drop 4) (past s c.args.at c.min.ensures)
