-- `rows::put_rows`: the numbers from i on, written from p on, make of s what all make of it as it was.
use Prim.Native.Nat.{◌+◌, min}
use mathlib.Core.Path.{sym, ap, ◌∙◌}
use native.Mathlib.Omega.{arith}
use native.Mathlib.Numerals.{add-one}
use Rattle.fields.specs.Rows.{field_width}
use Rattle.fields.proofs.RowsLaws.{rows_put_end, rows_put_next}
use Rattle.fields.proofs.rows.put_rows.Goals as goal

pub loop-i-preserved : goal.loop-i-preserved
loop-i-preserved c =
    let args = c.args in
    let turn = c.loop-i in
    let put = c.put_le in
    let next = c.sum_up_to-p.ensures ∙ ap (min (turn.p + c.field_width-width.result)) (sym turn.invariant.1) in (
      omega arith,
      put.auto.s ∙ turn.invariant.1,
      rw add-one
          (rows_put_next (field_width args.widths.now) args.numbers.now turn.i turn.s turn.p (omega arith) c.field_width-width.ensures put.ensures next
          ∙ turn.invariant.2),
    )

pub returns : goal.returns
returns c =
    let args = c.args in
    let last = c.loop-i in
    sym (rows_put_end (field_width args.widths.now) args.numbers.now last.i last.s last.p (omega arith)) ∙ last.invariant.2
