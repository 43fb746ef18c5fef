-- `kernel::is_apart`: the test of every part.
use Rattle.std.proofs.Common.{◌∙◌, ap, rules, refl, arith}
use Rattle.std.proofs.lemmas.Iterator.{YieldsList-from_range}
use Rattle.std.proofs.lemmas.Iterator.Search.{all_from_yields_List}
use Rattle.fields.specs.Every.{every}
use Rattle.fields.proofs.EveryLaws.{range_every}
use Rattle.boot.specs.Kernel.{apart_at, kernel_apart}
use Rattle.boot.proofs.kernel.is_apart.Goals as goal

pub returns : goal.returns
unfolding kernel_apart
returns c =
    let args = c.args in
    let test = apart_at args.image.now args.options args.range in
    let n = c.count.result in
    all_from_yields_List test _ _ _ c.all.ensures.ran (YieldsList-from_range 0 n n refl (omega arith)) (λ x b q k. search rules)
    ∙ range_every test n ∙ ap (every test) c.count.ensures
