-- `map::is_good`: the test of every earlier row, the nearest first.
use Rattle.std.proofs.Common.{◌∙◌, sym, arith, refl}
use Rattle.fields.proofs.EveryLaws.{every_none}
use Rattle.boot_page.specs.Map.{rows_apart}
use Rattle.boot_page.proofs.MapLaws.{row_by, row_met, row_left}
use Rattle.boot_page.proofs.map.is_good.Goals as goal

pub loop-j-init : goal.loop-j-init
loop-j-init c = (omega arith, refl)

pub returns-then-not-are_apart : goal.returns-then-not-are_apart
returns-then-not-are_apart c =
    let turn = c.loop-j in
    sym (row_met c.args.rows.now c.args.i turn.j c.loop-j-test.true turn.invariant.1 (sym c.are_apart.ensures ∙ c.if-not-are_apart.true))

pub loop-j-preserved : goal.loop-j-preserved
loop-j-preserved c =
    let turn = c.loop-j in
    (omega arith, row_left c.args.rows.now c.args.i turn.j c.loop-j-test.true turn.invariant.1 (sym c.are_apart.ensures ∙ c.if-not-are_apart.false))

pub returns : goal.returns
returns c =
    let rows = c.args.rows.now in
    let i = c.args.i in
    let test = rows_apart rows i in
    row_by rows i c.if-size-eq0.false (sym c.sum_fits.ensures ∙ c.if-not-sum_fits.false)
    (sym (every_none test (omega arith)) ∙ sym c.loop-j.invariant.1)
