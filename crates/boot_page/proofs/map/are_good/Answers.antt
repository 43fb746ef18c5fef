-- `map::are_good`: the test of every row.
use Rattle.std.proofs.Common.{◌∙◌, rules, refl, arith}
use Rattle.std.proofs.lemmas.Iterator.{YieldsList-from_range}
use Rattle.std.proofs.lemmas.Iterator.Search.{all_from_yields_List}
use Rattle.fields.proofs.EveryLaws.{range_every}
use Rattle.boot_page.specs.Map.{count_of, row_is_good, map_is_good}
use Rattle.boot_page.proofs.map.are_good.Goals as goal

pub returns : goal.returns
unfolding map_is_good
returns c =
    let rows = c.args.rows.now in
    let test = row_is_good rows in
    let n = count_of rows in
    all_from_yields_List test _ _ _ c.all.ensures.ran (YieldsList-from_range 0 n n refl (omega arith)) (λ x b q k. search rules) ∙ range_every test n
