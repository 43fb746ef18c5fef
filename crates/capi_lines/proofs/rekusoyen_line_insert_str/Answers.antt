-- `rekusoyen_line_insert_str`: the tests of the line, then the insertion in place is told.
use native.Mathlib.Omega.{arith}
use Rattle.cmdline.specs.Insertion.{insert_str}
use Rattle.capi_lines.specs.Lines.{text_in, the_boot}
use Rattle.capi_lines.proofs.LinesLaws.{call_refused, header_sized, str_called}
use Rattle.capi_lines.proofs.rekusoyen_line_insert_str.Goals as goal

pub slice_bounds-insert_str-end : goal.slice_bounds-insert_str-end
slice_bounds-insert_str-end c = omega (arith, (header_sized c.args.line.now c.read_header.ensures c.in-Ok.is).size)

pub returns-in-Err : goal.returns-in-Err
returns-in-Err c =
    let args = c.args in
    call_refused args.line.now c.read_header.ensures the_boot (insert_str (text_in args.line.now) args.slug.now) c.in-Err.is c.from.ensures

pub returns-in-Ok : goal.returns-in-Ok
returns-in-Ok c =
    let args = c.args in
    str_called args.line.now c.read_header.ensures c.in-Ok.is args.slug.now c.insert_str-appended.ensures c.tell.ensures
