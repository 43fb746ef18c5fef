-- A load taken in steps, each with a budget of bytes: what a step says and writes is `take` and `drop` on the parts of the load.
use Rattle.std.specs.Prelude.{Bool, List, [], ℕ, length, Ok, Err, is_ok}
use Rattle.answers.specs.Pick.{pick}
use Rattle.answers.specs.Tests.{asked_all, Check, pass}
use Rattle.answers.specs.declared.Refusal.TheVariants.{NoBudget}
use Rattle.guest.specs.Answers.{Answer}
use Rattle.guest.specs.Loading.{Plan, Loads}
use Rattle.guest.specs.Parts.{kept_part, portion_of}
use Rattle.guest.specs.Room.{memory_of}
use Rattle.guest.specs.declared.Map.{Map}
use Rattle.guest.specs.declared.Memory.{Memory}
use Rattle.guest.specs.declared.Part.{Part}
use Rattle.guest.specs.declared.Portion.{Portion}
use Rattle.loads.specs.Calls.{fresh_progress, begun_with, moved_to, step_tests}
use Rattle.loads.specs.Formats.{answer_of, count_of, part_of}
use Rattle.loads.specs.declared.Options.{Options}
use Rattle.loads.specs.declared.Stage.{Stage}
use Rattle.loads.specs.declared.Stage.TheVariants.{Fresh, Copying, Done}
use Rattle.loads.specs.declared.steps.Reply.{Reply}
use Rattle.loads.specs.declared.steps.Reply.TheVariants.{More, Answers, Refused}
use Rattle.loads.specs.declared.steps.State.{State}
use Rattle.loads.specs.declared.steps.Stepped.{Stepped}

-- a part as a step sees it: the image may be another one by now, so it is tested again
abbrev pub tested_part : List ℕ → Memory → Options → ℕ → Part
tested_part image m o i = kept_part (length image) m (part_of image o i)

-- a load that is not started; its answer does not count
abbrev pub fresh_state : Options → State
fresh_state o = record { progress = fresh_progress; answer = Err NoBudget; options = o }

-- the state of a load that starts
abbrev pub started_state : List ℕ → Memory → Options → State
started_state image m o =
    record {
      progress = begun_with (is_ok (answer_of image m o)) (length image) m;
      answer = answer_of image m o;
      options = o;
    }

-- ---- what a step does

-- a call that copies nothing
abbrev pub unchanged : State → Reply → Stepped
unchanged st reply = record { state = st; copied = 0; reply = reply }

abbrev pub stays : State → Reply → Plan Stepped
stays st reply = record { answer = unchanged st reply; stream = [] }

-- what is replied after a portion: the answer, if nothing is left
unfoldable pub reply_after : Bool → Answer → Reply
reply_after all a = pick all (Answers a) More

-- what is returned after it
abbrev pub stepped_to : State → Portion → Stepped
stepped_to st p =
    record {
      state = record { progress = moved_to st.progress p; answer = st.answer; options = st.options };
      copied = p.copied;
      reply = reply_after p.all st.answer;
    }

-- the next portion
abbrev pub next_portion : List ℕ → Memory → State → ℕ → Plan Stepped
next_portion image m st budget =
    let p = portion_of (count_of image st.options) image (tested_part image m st.options) st.progress.at st.progress.done budget in
    record { answer = stepped_to st p.answer; stream = p.stream }

-- the first step: all is tested before anything is copied, and a refused load copies nothing
unfoldable pub first_step : List ℕ → Memory → Options → ℕ → Plan Stepped
first_step image m o budget =
    pick (is_ok (answer_of image m o)) (next_portion image m (started_state image m o) budget)
    (stays (started_state image m o) (Answers (answer_of image m o)))

-- a step, by how far the load is
abbrev pub by_stage : Stage → List ℕ → Memory → State → ℕ → Plan Stepped
by_stage Fresh image m st budget = first_step image m st.options budget
by_stage Copying image m st budget = next_portion image m st budget
by_stage Done image m st budget = stays st (Answers st.answer)

-- a call after its tests: one that is refused is no step
abbrev pub if_open : Check → State → Plan Stepped → Plan Stepped
if_open (Ok _) st plan = plan
if_open (Err r) st plan = stays st (Refused r)

unfoldable pub step_plan : List ℕ → Memory → State → ℕ → Plan Stepped
step_plan image m st budget =
    if_open (asked_all pass (step_tests st.progress (length image) m budget)) st (by_stage st.progress.stage image m st budget)

-- a step of a load into guest memory with a map that held `before`: it returns r and leaves `after`
abbrev pub StepSays : List ℕ → State → ℕ → Map → List ℕ → Stepped → List ℕ → Type 0
StepSays image st budget map before r after = Loads (step_plan image (memory_of before map) st budget) before r after
