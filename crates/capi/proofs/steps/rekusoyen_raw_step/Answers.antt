-- `rekusoyen_raw_step`: a refused call leaves everything.
use mathlib.Core.Path.{refl}
use Rattle.capi.specs.States.{state_in, step_gate}
use Rattle.capi.proofs.StatesLaws.{and_err, call_refused}
use Rattle.guest.specs.Maps.{map_of}
use Rattle.capi.proofs.steps.rekusoyen_raw_step.Goals as goal

pub returns-in-Err : goal.returns-in-Err
returns-in-Err c =
    let args = c.args in
    call_refused args.image.now (map_of args.map.now) args.budget args.guest.now args.state.now args.step.now refl
    (and_err (step_gate args.state.now args.step.now) (state_in args.state.now) c.read.ensures c.in-Err.is) c.from.ensures
