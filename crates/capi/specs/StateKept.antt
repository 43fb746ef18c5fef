-- Lists that hold a state: what the entry points of a load in steps write, and take.
use Rattle.std.specs.Prelude.{ℕ, ◌≡◌, List, length}
use Rattle.std.proofs.lemmas.List.Edits.{sets}
use Rattle.answers.specs.Tests.{AllHold}
use Rattle.guest.specs.declared.Map.{Map}
use Rattle.loads.specs.Steps.{StepSays}
use Rattle.loads.specs.declared.steps.State.{State}
use Rattle.loads.specs.declared.steps.Stepped.{Stepped}
use Rattle.capi.specs.States.{state_size, state_in, state_tests, reply_number, told_numbers}

-- a list that is taken, and the state that it holds
pub record Saves (st : State) (numbers : List ℕ) : Type 0 where
  pub size : length numbers ≡ state_size
  pub good : AllHold (state_tests numbers)
  pub held : state_in numbers ≡ st

-- a call that is a step of a state, by the contract of `loads::steps::step`: it answers and reports what that step does, and leaves a list that holds the
-- state after it
pub record StepsFrom (st : State) (image : List ℕ) (map : Map) (budget : ℕ) (guest out : List ℕ) (r : ℕ) (guest-left left out-left : List ℕ) : Type 0 where
  pub stepped : Stepped
  pub says : StepSays image st budget map guest stepped guest-left
  pub answer : r ≡ reply_number stepped.reply
  pub told : out-left ≡ sets out 0 (told_numbers stepped.copied stepped.reply)
  pub kept : Saves stepped.state left
