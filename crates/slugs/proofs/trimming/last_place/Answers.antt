-- `trimming::last_place`: the bytes after the place that the library finds are blank.
use Rattle.std.proofs.Common.{rules, arith}
use Rattle.slugs.proofs.TrimmingLaws.{end_none, end_place}
use Rattle.slugs.proofs.trimming.last_place.Goals as goal

pub returns-in-Some : goal.returns-in-Some
returns-in-Some c =
    let s = c.args.s.now in
    (search rules, end_place s c.in-Some.last (search rules) (search rules) (search rules))

pub returns-in-None : goal.returns-in-None
returns-in-None c = (omega arith, end_none c.args.s.now (search rules))
