-- `rekusoyen_line_plan`: the tests of the line, then what loading it would answer.
use Rattle.capi.specs.Loads.{memory_by}
use Rattle.capi_lines.proofs.LinesLaws.{plan_refused, plan_told}
use Rattle.capi_lines.proofs.rekusoyen_line_plan.Goals as goal

pub returns-in-Err : goal.returns-in-Err
returns-in-Err c =
    let args = c.args in
    plan_refused args.line.now (memory_by args.memory_size args.map.now) args.address c.read_header.ensures c.in-Err.is c.from.ensures

pub returns-in-Ok : goal.returns-in-Ok
returns-in-Ok c =
    let args = c.args in
    plan_told args.line.now (memory_by args.memory_size args.map.now) args.address c.read_header.ensures c.in-Ok.is c.text_at-boot.ensures c.text_at-init.ensures
    c.memory_by-memory.ensures c.plan_texts-answer.ensures c.check_number.ensures
