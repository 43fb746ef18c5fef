-- `rekusoyen_line_insert`: the tests of the line, then the insertion in place is told.
use native.Mathlib.Omega.{arith}
use Rattle.cmdline.specs.Insertion.{insert}
use Rattle.capi_lines.specs.Lines.{text_in, the_boot}
use Rattle.capi_lines.proofs.LinesLaws.{call_refused, header_sized, pair_called}
use Rattle.capi_lines.proofs.rekusoyen_line_insert.Goals as goal

pub slice_bounds-insert-end : goal.slice_bounds-insert-end
slice_bounds-insert-end c = omega (arith, (header_sized c.args.line.now c.read_header.ensures c.in-Ok.is).size)

pub returns-in-Err : goal.returns-in-Err
returns-in-Err c =
    let args = c.args in
    call_refused args.line.now c.read_header.ensures the_boot (insert (text_in args.line.now) args.key.now args.value.now) c.in-Err.is c.from.ensures

pub returns-in-Ok : goal.returns-in-Ok
returns-in-Ok c =
    let args = c.args in
    pair_called args.line.now c.read_header.ensures c.in-Ok.is args.key.now args.value.now c.insert-appended.ensures c.tell.ensures
