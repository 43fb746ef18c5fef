-- `rows::read_rows`: the numbers still to be read, from i on and at p, make of the list what all make of it as it was.
use Prim.Native.Nat.{◌-◌}
use mathlib.Core.Path.{sym, ◌∙◌}
use native.Mathlib.Omega.{arith}
use native.Mathlib.Numerals.{add-one}
use lib.ListN.{length, length-set}
use Rattle.fields.specs.Rows.{field_width, rows_numbers}
use Rattle.fields.proofs.CopyingLaws.{sets_whole}
use Rattle.fields.proofs.RowsLaws.{width_small, numbers_count, rows_read_end, rows_read_next}
use Rattle.fields.proofs.rows.read_rows.Goals as goal

pub loop-i-preserved : goal.loop-i-preserved
loop-i-preserved c =
    let args = c.args in
    let turn = c.loop-i in
    let wide = c.field_width-width.ensures in
    let small = width_small args.widths.now turn.i in (
      omega arith,
      simp length-set turn.invariant.1,
      rw add-one
          (rows_read_next (field_width args.widths.now) turn.numbers args.s.now turn.p turn.i (omega arith) wide (omega arith)
          c.read_le.ensures.value c.sum_up_to-p.ensures
          ∙ turn.invariant.2),
    )

pub returns : goal.returns
returns c =
    let args = c.args in
    let last = c.loop-i in
    let n = length args.numbers.now in
    sym (rows_read_end (field_width args.widths.now) last.numbers args.s.now last.p last.i (n - last.i) (omega arith))
    ∙ last.invariant.2
    ∙ sets_whole (rows_numbers (field_width args.widths.now) n args.s.now args.at 0) args.numbers.now
    (sym (numbers_count (field_width args.widths.now) n args.s.now args.at 0))
