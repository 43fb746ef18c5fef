-- `steps::step`: the tests of the call, then by how far the load is.
use mathlib.Core.Path.{ap, ◌∙◌}
use lib.ListN.{length}
use Rattle.answers.specs.Tests.{asked_all, pass}
use Rattle.guest.specs.Room.{memory_of}
use Rattle.guest.specs.declared.Memory.{Memory}
use Rattle.loads.specs.Calls.{step_tests}
use Rattle.loads.proofs.StepsLaws.{call_refused, call_opens, stays_answered}
use Rattle.loads.proofs.steps.step.Goals as goal

pub returns-in-Err : goal.returns-in-Err
returns-in-Err c =
    let args = c.args in
    call_refused args.image.now (memory_of args.guest.now args.map) args.budget args.guest.now args.state
    (c.ask.ensures ∙ ap (λ (m : Memory). asked_all pass (step_tests args.state.progress (length args.image.now) m args.budget)) c.of-memory.ensures)
    c.in-Err.is c.stay.ensures

pub returns-in-Done : goal.returns-in-Done
returns-in-Done c =
    let args = c.args in
    call_opens args.image.now (memory_of args.guest.now args.map) args.budget args.guest.now args.state
    (c.ask.ensures ∙ ap (λ (m : Memory). asked_all pass (step_tests args.state.progress (length args.image.now) m args.budget)) c.of-memory.ensures)
    c.in_default.is c.in-Done.is
    (stays_answered args.image.now (memory_of args.guest.now args.map) args.budget args.guest.now args.state c.stay-in-Done.ensures)
