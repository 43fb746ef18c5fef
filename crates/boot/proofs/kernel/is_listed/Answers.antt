-- `kernel::is_listed`: the test of every part.
use Rattle.std.proofs.Common.{◌∙◌, ap, rules, refl, arith}
use Rattle.std.proofs.lemmas.Iterator.{YieldsList-from_range}
use Rattle.std.proofs.lemmas.Iterator.Search.{all_from_yields_List}
use Rattle.fields.specs.Every.{every}
use Rattle.fields.proofs.EveryLaws.{range_every}
use Rattle.boot.specs.Kernel.{listed_at, kernel_listed}
use Rattle.boot.specs.Rows.{width_in, numbers_in}
use Rattle.boot.proofs.kernel.is_listed.Goals as goal

pub returns : goal.returns
unfolding kernel_listed
returns c =
    let args = c.args in
    let test = listed_at (width_in args.rows) (numbers_in args.rows) args.image.now args.options in
    let n = c.count.result in
    all_from_yields_List test _ _ _ c.all.ensures.ran (YieldsList-from_range 0 n n refl (omega arith)) (λ x b q k. search rules)
    ∙ range_every test n ∙ ap (every test) c.count.ensures
