-- Laws of a load in steps: a call that is refused, a step after the answer, what any step keeps to, and a step as the code takes it.
use Rattle.std.specs.Prelude.{Ok, Err, is_ok}
use Prim.Native.Nat.{ℕ, ◌-◌, ◌≤◌, ◌<◌}
use mathlib.Core.Path.{◌≡◌, sym, ◌∙◌, refl, ap, subst⁻¹}
use mathlib.Core.Bool.{Bool, true, false, not, ◌&&◌}
use mathlib.Core.List.{List}
use native.Mathlib.Omega.{arith}
use borrow.Author.Tests.{lt-ltb, eq-eqb}
use lib.Dec.{eqb}
use lib.ListN.{length, drop, length-take, length-drop}
use Rattle.answers.specs.Pick.{pick}
use Rattle.answers.specs.Tests.{asked_all, AllHold, Check, pass}
use Rattle.answers.specs.declared.Refusal.{Refusal}
use Rattle.answers.proofs.BoolLaws.{right_holds}
use Rattle.answers.proofs.PickLaws.{pick_with, failed}
use Rattle.answers.proofs.TestsLaws.{all_open, hold_append}
use Rattle.guest.specs.Answers.{Answer}
use Rattle.guest.specs.Lent.{lent_tests}
use Rattle.guest.specs.Loading.{Plan, Loads}
use Rattle.guest.specs.Parts.{parts_from}
use Rattle.guest.specs.Room.{same_memory, memory_of}
use Rattle.guest.specs.Stream.{Inside, none, pour}
use Rattle.guest.specs.declared.Map.{Map}
use Rattle.guest.specs.declared.Memory.{Memory}
use Rattle.guest.proofs.PartsLaws.{parts_inside}
use Rattle.guest.proofs.RoomLaws.{memory_self}
use Rattle.guest.proofs.StreamLaws.{inside_take, inside_drop}
use Rattle.loads.specs.Calls.{begun_with, is_fresh, as_first, budget_tests, step_tests}
use Rattle.loads.specs.Formats.{answer_of, count_of}
use Rattle.loads.specs.Portions.{Bounded}
use Rattle.loads.specs.Steps.{tested_part, started_state, unchanged, stays, next_portion, first_step, by_stage, if_open, step_plan, StepSays}
use Rattle.loads.specs.declared.Options.{Options}
use Rattle.loads.specs.declared.Progress.{Progress}
use Rattle.loads.specs.declared.Stage.{Stage}
use Rattle.loads.specs.declared.Stage.TheVariants.{Fresh, Copying, Done}
use Rattle.loads.specs.declared.steps.Reply.{Reply}
use Rattle.loads.specs.declared.steps.Reply.TheVariants as reply
use Rattle.loads.specs.declared.steps.State.{State}
use Rattle.loads.specs.declared.steps.Stepped.{Stepped}
use Rattle.loads.proofs.FormatsLaws.{parts_stand}

picked_false : {A : Type 0} (b : Bool) (x y : A) → b ≡ false → pick b x y ≡ y
unfolding pick
picked_false b x y e = rw e

-- ---- the tests of a call

-- a first call, and one with the lengths and the map of the first step
pub fresh_first : (g : Progress) (len : ℕ) (m : Memory) → g.stage ≡ Fresh → as_first g len m ≡ true
unfolding as_first is_fresh
fresh_first g len m e = rw e

pub later_first : (g : Progress) (len : ℕ) (m : Memory) → g.image_len ≡ len → g.memory ≡ m → as_first g len m ≡ true
unfolding as_first
later_first g len m el em =
    right_holds (is_fresh g.stage) (eqb g.image_len len && same_memory g.memory m) (rw (eq-eqb g.image_len len el, em, memory_self m))

module _ (image : List ℕ) (m : Memory) (st : State) (b : ℕ) where
  pub step_open : AllHold (lent_tests (length image) m) → 0 < b → as_first st.progress (length image) m ≡ true
      → step_plan image m st b ≡ by_stage st.progress.stage image m st b
  unfolding step_plan
  step_open lent positive first =
      ap (λ g. if_open g st (by_stage st.progress.stage image m st b))
      (all_open (step_tests st.progress (length image) m b)
      (hold_append (lent_tests (length image) m) (budget_tests st.progress (length image) m b) lent (lt-ltb 0 b positive, (first, tt))))

  -- 60, 77, 63, 64, the first that fails: the state, memory and the answer are as they were
  pub step_refused : {r : Refusal} → asked_all pass (step_tests st.progress (length image) m b) ≡ Err r → step_plan image m st b ≡ stays st (reply.Refused r)
  unfolding step_plan
  step_refused e = ap (λ g. if_open g st (by_stage st.progress.stage image m st b)) e

  -- after the answer every other step repeats it and copies nothing, whatever the image holds by now
  pub step_repeats : AllHold (lent_tests (length image) m) → 0 < b → as_first st.progress (length image) m ≡ true → st.progress.stage ≡ Done
      → step_plan image m st b ≡ stays st (reply.Answers st.answer)
  step_repeats lent positive first done = step_open lent positive first ∙ ap (λ s. by_stage s image m st b) done

-- the first step, by whether the load loads
module _ (image : List ℕ) (m : Memory) (o : Options) (b : ℕ) where
  first_refused : is_ok (answer_of image m o) ≡ false → first_step image m o b ≡ stays (started_state image m o) (reply.Answers (answer_of image m o))
  unfolding first_step
  first_refused e = picked_false _ (next_portion image m (started_state image m o) b) (stays (started_state image m o) (reply.Answers (answer_of image m o))) e

-- ---- "a step still ends within its budget": what any step keeps to, from any state and with any image

pub record PlanBounded (m : Memory) (budget : ℕ) (plan : Plan Stepped) : Type 0 where
  pub inside : Inside m plan.stream
  pub few : length plan.stream ≤ budget
  pub reported : plan.answer.copied ≡ length plan.stream

stays_bounded : (m : Memory) (b : ℕ) (st : State) (r : Reply) → PlanBounded m b (stays st r)
stays_bounded m b st r = record { inside = none; few = omega arith; reported = refl }

module _ (image : List ℕ) (m : Memory) where
  goes_bounded : (st : State) (b : ℕ) → PlanBounded m b (next_portion image m st b)
  goes_bounded st b =
      let n = count_of image st.options - st.progress.at in
      let parts = parts_from n image (tested_part image m st.options) st.progress.at in
      let few = length-take b (drop st.progress.done parts) in
      let left = length-drop st.progress.done parts in
      record {
        inside =
            inside_take b (inside_drop st.progress.done (parts_inside image m (tested_part image m st.options) (parts_stand image m st.options) n st.progress.at));
        few = omega arith;
        reported = omega arith;
      }

  stage_bounded : (stage : Stage) (st : State) (b : ℕ) → PlanBounded m b (by_stage stage image m st b)
  unfolding first_step
  stage_bounded Fresh st b =
      pick_with (PlanBounded m b) (is_ok (answer_of image m st.options)) (λ _. goes_bounded (started_state image m st.options) b)
      (λ _. stays_bounded m b (started_state image m st.options) (reply.Answers (answer_of image m st.options)))
  stage_bounded Copying st b = goes_bounded st b
  stage_bounded Done st b = stays_bounded m b st (reply.Answers st.answer)

  pub plan_bounded : (st : State) (b : ℕ) → PlanBounded m b (step_plan image m st b)
  unfolding step_plan
  plan_bounded st b = by (asked_all pass (step_tests st.progress (length image) m b))
    where
      by : (g : Check) → PlanBounded m b (if_open g st (by_stage st.progress.stage image m st b))
      by (Ok _) = stage_bounded st.progress.stage st b
      by (Err r) = stays_bounded m b st (reply.Refused r)

pub any_step : (image : List ℕ) (st : State) (b : ℕ) (map : Map) (before after : List ℕ) {r : Stepped} → StepSays image st b map before r after
    → Bounded (memory_of before map) b before r after
any_step image st b map before after says =
    let m = memory_of before map in
    let bounded = plan_bounded image m st b in
    record {
      stream = (step_plan image m st b).stream;
      inside = bounded.inside;
      few = bounded.few;
      reported = ap (λ (x : Stepped). x.copied) says.answer ∙ bounded.reported;
      memory = says.memory;
    }

-- ---- a step, as the code takes it

module _ (image : List ℕ) (m : Memory) (budget : ℕ) (guest : List ℕ) where
  -- the first step: the whole load's answer, and where the load is
  module _ (o : Options) {answer : Answer} {loads : Bool} {progress : Progress} (ea : answer ≡ answer_of image m o) (el : loads ≡ is_ok answer)
      (eg : progress ≡ begun_with loads (length image) m) where
    abbrev started : State
    started = record { progress = progress; answer = answer; options = o }

    loads_is : loads ≡ is_ok (answer_of image m o)
    loads_is = el ∙ ap is_ok ea

    pub first_stays : not loads ≡ true → {r : Stepped} → r ≡ unchanged started (reply.Answers answer) → Loads (first_step image m o budget) guest r guest
    unfolding pour
    first_stays refuses {r} er =
        subst⁻¹ (λ p. Loads p guest r guest) (first_refused image m o budget (sym loads_is ∙ failed refl refuses))
        (record { answer = er ∙ rw (eg, loads_is, ea); memory = refl })

  -- a call after its tests
  pub call_refused : (st : State) {gate : Check} {refusal : Refusal} {r : Stepped} → gate ≡ asked_all pass (step_tests st.progress (length image) m budget)
      → gate ≡ Err refusal → r ≡ unchanged st (reply.Refused refusal) → Loads (step_plan image m st budget) guest r guest
  unfolding step_plan pour
  call_refused st ask shut er = rw (sym ask ∙ shut) (record { answer = er; memory = refl })

  pub call_opens : (st : State) {gate : Check} {stage : Stage} {r : Stepped} {after : List ℕ}
      → gate ≡ asked_all pass (step_tests st.progress (length image) m budget) → gate ≡ pass → st.progress.stage ≡ stage
      → Loads (by_stage stage image m st budget) guest r after → Loads (step_plan image m st budget) guest r after
  unfolding step_plan
  call_opens st {r = r} {after = after} ask opened es loads =
      rw (sym ask ∙ opened) (subst⁻¹ (λ s. Loads (by_stage s image m st budget) guest r after) es loads)

  -- after the answer
  pub stays_answered : (st : State) {r : Stepped} → r ≡ unchanged st (reply.Answers st.answer) → Loads (stays st (reply.Answers st.answer)) guest r guest
  unfolding pour
  stays_answered st er = record { answer = er; memory = refl }
