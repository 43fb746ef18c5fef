-- `rekusoyen_line_load`: the tests of the line, then what loading it answers.
use Rattle.guest.specs.Maps.{map_of}
use Rattle.capi_lines.proofs.LinesLaws.{load_refused, load_told}
use Rattle.capi_lines.proofs.rekusoyen_line_load.Goals as goal

pub returns-in-Err : goal.returns-in-Err
returns-in-Err c =
    let args = c.args in
    load_refused args.line.now args.address (map_of args.map.now) args.guest.now c.read_header.ensures c.in-Err.is
    c.from.ensures

pub returns-in-Ok : goal.returns-in-Ok
returns-in-Ok c =
    let args = c.args in
    load_told args.line.now args.address (map_of args.map.now) args.guest.now c.read_header.ensures c.in-Ok.is
    c.text_at-boot.ensures c.text_at-init.ensures c.from_numbers.ensures c.load_texts-answer.ensures c.check_number.ensures
