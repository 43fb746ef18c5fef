-- `rekusoyen_raw_line_as_cstring`: the size of the list, the tests of the line, and then what writing says is told.
use Rattle.capi_lines.proofs.LinesLaws.{write_unsized, write_refused, write_told}
use Rattle.capi_lines.proofs.rekusoyen_raw_line_as_cstring.Goals as goal

pub returns-then-count-ne1 : goal.returns-then-count-ne1
returns-then-count-ne1 c = let args = c.args in write_unsized args.line.now args.out.now args.count.now c.if-count-ne1.true c.from.ensures

pub returns-in-Err : goal.returns-in-Err
returns-in-Err c =
    let args = c.args in
    write_refused args.line.now args.out.now args.count.now c.if-count-ne1.false c.read_header.ensures c.in-Err.is c.from-in-Err.ensures

pub returns-in-Ok : goal.returns-in-Ok
returns-in-Ok c =
    let args = c.args in
    write_told args.line.now args.out.now args.count.now c.if-count-ne1.false c.read_header.ensures c.in-Ok.is c.text_at-boot.ensures c.text_at-init.ensures
    c.as_cstring-written.ensures c.tell_written.ensures
