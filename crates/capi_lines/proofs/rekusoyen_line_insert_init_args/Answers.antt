-- `rekusoyen_line_insert_init_args`: the tests of the line, then the insertion in place is told.
use native.Mathlib.Omega.{arith}
use Rattle.cmdline.specs.Insertion.{insert_init_args}
use Rattle.capi_lines.specs.Lines.{text_in, the_init}
use Rattle.capi_lines.proofs.LinesLaws.{call_refused, header_sized, init_called}
use Rattle.capi_lines.proofs.rekusoyen_line_insert_init_args.Goals as goal

pub slice_bounds-insert_init_args-end : goal.slice_bounds-insert_init_args-end
slice_bounds-insert_init_args-end c = omega (arith, (header_sized c.args.line.now c.read_header.ensures c.in-Ok.is).size)

pub returns-in-Err : goal.returns-in-Err
returns-in-Err c =
    let args = c.args in
    call_refused args.line.now c.read_header.ensures the_init (insert_init_args (text_in args.line.now) args.slug.now) c.in-Err.is c.from.ensures

pub returns-in-Ok : goal.returns-in-Ok
returns-in-Ok c =
    let args = c.args in
    init_called args.line.now c.read_header.ensures c.in-Ok.is args.slug.now c.insert_init_args-appended.ensures c.tell.ensures
