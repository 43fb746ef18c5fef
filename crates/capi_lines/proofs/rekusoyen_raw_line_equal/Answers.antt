-- `rekusoyen_raw_line_equal`: the size of the list, the tests of the two lines, and then whether they are equal is told.
use Rattle.std.proofs.Common.{◌∙◌}
use Rattle.capi_lines.proofs.LinesLaws.{equal_unsized, equal_first, equal_second, equal_told, flag}
use Rattle.capi_lines.proofs.rekusoyen_raw_line_equal.Goals as goal

pub returns-then-out-ne1 : goal.returns-then-out-ne1
returns-then-out-ne1 c = let args = c.args in equal_unsized args.a.now args.b.now args.out.now c.if-out-ne1.true c.from.ensures

pub returns-in-Err : goal.returns-in-Err
returns-in-Err c =
    let args = c.args in
    equal_first args.a.now args.b.now args.out.now c.if-out-ne1.false c.read_header.ensures c.in-Err.is c.from-in-Err.ensures

pub returns-in-Err-read_header : goal.returns-in-Err-read_header
returns-in-Err-read_header c =
    let args = c.args in
    equal_second args.a.now args.b.now args.out.now c.if-out-ne1.false c.read_header.ensures c.in-Ok.is c.read_header-in-Ok.ensures
    c.in-Err-read_header.is c.from-in-Err-read_header.ensures

pub returns-in-Ok-read_header : goal.returns-in-Ok-read_header
returns-in-Ok-read_header c =
    let args = c.args in
    equal_told args.a.now args.b.now args.out.now c.if-out-ne1.false c.read_header.ensures c.in-Ok.is c.read_header-in-Ok.ensures
    c.in-Ok-read_header.is c.text_at-boot.ensures c.text_at-init.ensures c.text_at-boot2.ensures c.text_at-init2.ensures c.same_line-same.ensures
    (c.from-in-Ok-read_header.ensures ∙ flag c.same_line-same.result)
