-- `kernel::has_room`: the test of every part.
use Rattle.std.proofs.Common.{◌∙◌, ap, rules, refl, arith}
use Rattle.std.proofs.lemmas.Iterator.{YieldsList-from_range}
use Rattle.std.proofs.lemmas.Iterator.Search.{all_from_yields_List}
use Rattle.fields.specs.Every.{every}
use Rattle.fields.proofs.EveryLaws.{range_every}
use Rattle.boot.specs.Kernel.{room_at, kernel_room}
use Rattle.boot.proofs.kernel.has_room.Goals as goal

pub returns : goal.returns
unfolding kernel_room
returns c =
    let args = c.args in
    let test = room_at args.memory.now args.image.now args.options in
    let n = c.count.result in
    all_from_yields_List test _ _ _ c.all.ensures.ran (YieldsList-from_range 0 n n refl (omega arith)) (λ x b q k. search rules)
    ∙ range_every test n ∙ ap (every test) c.count.ensures
