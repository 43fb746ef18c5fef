-- `trimming::first_place`: the place that the library finds is where trimming begins.
use Rattle.std.proofs.Common.{rules, tests}
use Rattle.std.specs.Prelude.{not}
use Rattle.std.proofs.lemmas.Iterator.{YieldsList-from_slice}
use Rattle.std.proofs.lemmas.Iterator.Search.{position_from_yields_List}
use Rattle.slugs.specs.Bytes.{blank}
use Rattle.slugs.proofs.TrimmingLaws.{start_at}
use Rattle.slugs.proofs.trimming.first_place.Goals as goal

pub returns : goal.returns
returns c =
    let s = c.args.s.now in
    let found =
    position_from_yields_List (λ b. not (blank b)) _ _ c.position.result c.position.ensures.ran (YieldsList-from_slice s cc) (λ x b q k. search (rules, tests)) in
    start_at s found (search rules)
