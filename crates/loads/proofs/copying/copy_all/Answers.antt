-- `copying::copy_all`: what is left to write, from part i on, makes of memory what the whole makes of it as it was.
use Prim.Native.Nat.{◌+◌, ◌-◌}
use mathlib.Core.Path.{sym, ◌∙◌, ap}
use mathlib.Core.List.{List}
use native.Mathlib.Omega.{arith}
use native.Mathlib.Nat.{sub-zero}
use Rattle.guest.specs.Stream.{Poke, pour}
use Rattle.loads.specs.Layout.{part_in}
use Rattle.loads.proofs.FormatsLaws.{layout_fits, layout_parts, part_poured, parts_next, parts_end}
use Rattle.loads.proofs.copying.copy_all.Goals as goal

pub loop-i-init : goal.loop-i-init
loop-i-init c = rw sub-zero

pub part_in-part-requires : goal.part_in-part-requires
part_in-part-requires c =
    let args = c.args in
    layout_fits args.image.now args.options c.requires c.count-n.ensures c.read_layout-layout.ensures c.loop-i.i (omega arith)

pub loop-i-preserved : goal.loop-i-preserved
loop-i-preserved c =
    let image = c.args.image.now in
    let at_turn = c.loop-i in
    let n = c.count-n.result in
    let part = part_in image c.read_layout-layout.result in
    rw (part_poured image at_turn.guest c.part_in-part.ensures c.copy_image.ensures)
    (sym (parts_next image part at_turn.i at_turn.guest (n - (at_turn.i + 1)) (at_turn.i + 1) (omega arith) (omega arith)) ∙ at_turn.invariant)

pub returns : goal.returns
returns c =
    let args = c.args in
    let image = args.image.now in
    let at-end = c.loop-i in
    sym (parts_end image (part_in image c.read_layout-layout.result) at-end.i at-end.guest (omega arith)) ∙ at-end.invariant
    ∙ ap (λ (ps : List Poke). pour ps args.guest.now) (layout_parts image args.options c.requires c.count-n.ensures c.read_layout-layout.ensures)
