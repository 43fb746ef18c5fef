-- The state of a load that an entry point writes is the state that the next one reads: calls through the entry points, one after the other, are the steps
-- of `loads`.
use Rattle.std.specs.Prelude.{Ok, Err, is_ok}
use Prim.Native.Nat.{ℕ, ◌+◌}
use mathlib.Core.Path.{◌≡◌, refl, sym, ap, subst, ◌∙◌}
use mathlib.Core.Bool.{true}
use mathlib.Core.List.{List, [], ◌∷◌, ◌++◌}
use native.Mathlib.Omega.{arith}
use lib.Dec.{leb, eqb}
use lib.ListN.{length, get_or}
use borrow.Author.Tests.{eq-eqb}
use Rattle.answers.specs.Pick.{pick}
use Rattle.answers.specs.Tests.{asked_all, AllHold, Check, pass}
use Rattle.answers.specs.declared.Refusal.TheVariants.{BadList, NoRoom}
use Rattle.answers.proofs.PickLaws.{pick_with}
use Rattle.answers.proofs.TestsLaws.{all_open, hold_append}
use Rattle.guest.specs.Answers.{pvh_code, pvh_address, pvh_place, pvh_size, Answer}
use Rattle.guest.specs.Loading.{Plan}
use Rattle.guest.specs.Maps.{map_of}
use Rattle.guest.specs.Room.{memory_of}
use Rattle.guest.specs.declared.Portion.{Portion}
use Rattle.guest.specs.declared.PvhBootCapability.{PvhBootCapability}
use Rattle.guest.specs.declared.PvhBootCapability.TheVariants.{PvhEntryPresent, PvhEntryNotPresent, PvhEntryIgnored}
use Rattle.loads.specs.Calls.{begun_with, moved_to, step_tests}
use Rattle.loads.specs.Formats.{answer_of}
use Rattle.loads.specs.Steps.{fresh_state, started_state, unchanged, reply_after, stepped_to, first_step, by_stage, if_open, step_plan}
use Rattle.loads.specs.declared.Format.{Format}
use Rattle.loads.specs.declared.Format.TheVariants.{Elf, BzImage, Arm64}
use Rattle.loads.specs.declared.Options.{Options}
use Rattle.loads.specs.declared.Stage.{Stage}
use Rattle.loads.specs.declared.Stage.TheVariants.{Fresh, Copying, Done}
use Rattle.loads.specs.declared.steps.Reply.{Reply}
use Rattle.loads.specs.declared.steps.Reply.TheVariants as reply
use Rattle.loads.specs.declared.steps.State.{State}
use Rattle.loads.specs.declared.steps.Stepped.{Stepped}
use Rattle.capi.specs.Options.{format_code, format_of, format_tests}
use Rattle.capi.specs.Refusals.{is_known}
use Rattle.capi.specs.Saved.{kept_tests}
use Rattle.capi.specs.States.{answer_numbers, pvh_of, answer_from, answer_in, state_size, kept_of, tail_of, with_state, state_from, state_in, state_tests, BeginCall, step_gate, plan_in, state_after, StepCall}
use Rattle.capi.specs.StateKept.{Saves, StepsFrom}
use Rattle.capi.specs.declared.progress.Kept.{Kept}
use Rattle.capi.proofs.SavedLaws as kept
use Rattle.capi.proofs.SavedLaws.{Sixteen, map_sixteen, kept_sixteen}
use Rattle.capi.proofs.RefusalsLaws.{refusal_back, refusal_known, zero_known, not_zero}

-- ---- each part read back

pvh_back : (p : PvhBootCapability) → pvh_of (pvh_code p) (pvh_address p) (pvh_place p) (pvh_size p) ≡ p
unfolding pvh_of pvh_code pvh_address pvh_place pvh_size pick
pvh_back (PvhEntryPresent note) = refl
pvh_back PvhEntryNotPresent = refl
pvh_back PvhEntryIgnored = refl

answer_length : (a : Answer) → length (answer_numbers a) ≡ 7
unfolding answer_numbers
answer_length (Ok result) = refl
answer_length (Err r) = refl

-- the answer that seven numbers are
abbrev answer_at : List ℕ → Answer
answer_at l = answer_from (get_or l 0 0) (get_or l 1 0) (get_or l 2 0) (pvh_of (get_or l 3 0) (get_or l 4 0) (get_or l 5 0) (get_or l 6 0))

answer_back : (a : Answer) → answer_at (answer_numbers a) ≡ a
unfolding answer_numbers answer_from pick
answer_back (Ok result) =
    ap
    (λ (p : PvhBootCapability). Ok (record { kernel_load = result.kernel_load; kernel_end = result.kernel_end; pvh_boot_cap = p }))
    (pvh_back result.pvh_boot_cap)
answer_back (Err r) = rw (not_zero r) (ap Err (refusal_back r))

-- ---- each number passes its test

pvh_passes : (p : PvhBootCapability) → leb (pvh_code p) 2 ≡ true
unfolding pvh_code
pvh_passes (PvhEntryPresent note) = refl
pvh_passes PvhEntryNotPresent = refl
pvh_passes PvhEntryIgnored = refl

code_passes : (a : Answer) → leb (get_or (answer_numbers a) 3 0) 2 ≡ true
unfolding answer_numbers
code_passes (Ok result) = pvh_passes result.pvh_boot_cap
code_passes (Err r) = refl

number_passes : (a : Answer) → is_known (get_or (answer_numbers a) 0 0) ≡ true
unfolding answer_numbers
number_passes (Ok result) = zero_known
number_passes (Err r) = refusal_known r

format_back : (f : Format) → format_of (format_code f) ≡ f
unfolding format_of format_code pick
format_back Elf = refl
format_back BzImage = refl
format_back Arm64 = refl

format_passes : (f : Format) → AllHold (format_tests (format_code f))
unfolding format_code
format_passes Elf = (refl, (refl, tt))
format_passes BzImage = (refl, (refl, tt))
format_passes Arm64 = (refl, (refl, tt))

-- ---- a state written

module _ (st : State) (numbers : List ℕ) (size : length numbers ≡ state_size) (full : Sixteen st.progress.memory) where
  fits : length numbers ≡ 42 + length (tail_of st)
  fits = let seven = answer_length st.answer in omega arith

  abbrev row : List ℕ
  row = kept.row (kept_of st) (tail_of st) numbers fits full

  row_tail : (at n : ℕ) → at ≡ 42 + n → get_or row at 0 ≡ get_or (tail_of st) n 0
  row_tail = kept.row_told (kept_of st) (tail_of st) numbers fits full

  answer_in_lem : answer_in row ≡ st.answer
  answer_in_lem =
      rw (
        row_tail 43 1 refl,
        row_tail 44 2 refl,
        row_tail 45 3 refl,
        row_tail 46 4 refl,
        row_tail 47 5 refl,
        row_tail 48 6 refl,
        row_tail 49 7 refl,
        answer_back st.answer,
      )

  state_back : state_in row ≡ st
  state_back =
      ap (λ (k : Kept). state_from k (get_or row 42 0) (answer_in row)) (kept.row_back (kept_of st) (tail_of st) numbers fits full)
      ∙ ap (λ (a : Answer). state_from (kept_of st) (get_or row 42 0) a) answer_in_lem
      ∙ ap (λ (n : ℕ). state_from (kept_of st) n st.answer) (row_tail 42 0 refl)
      ∙ ap
      (λ (f : Format). record { progress = st.progress; answer = st.answer; options = record { format = f; kernel_offset = st.options.kernel_offset; highmem_start = st.options.highmem_start } })
      (format_back st.options.format)

  state_good : AllHold (state_tests row)
  state_good =
      hold_append (kept_tests row) (format_tests (get_or row 42 0) ++ ((leb (get_or row 46 0) 2, BadList) ∷ (is_known (get_or row 43 0), BadList) ∷ []))
      (kept.row_good (kept_of st) (tail_of st) numbers fits full)
      (hold_append (format_tests (get_or row 42 0)) ((leb (get_or row 46 0) 2, BadList) ∷ (is_known (get_or row 43 0), BadList) ∷ [])
      (rw (row_tail 42 0 refl) (format_passes st.options.format))
      (rw (row_tail 46 4 refl) (code_passes st.answer), (rw (row_tail 43 1 refl) (number_passes st.answer), tt)))

  written : Saves st (with_state st numbers)
  written =
      subst (Saves st) (sym (kept.row_written (kept_of st) (tail_of st) numbers fits full))
      (record { size = kept.row_length (kept_of st) (tail_of st) numbers fits full ∙ size; good = state_good; held = state_back })

-- ---- a state after a step, whatever is replied

module _ (numbers : List ℕ) (is : Saves (state_in numbers) numbers) (image guest map : List ℕ) where
  -- the list holds the state that a step goes to
  abbrev Kept_after : Stepped → Type 0
  Kept_after w = Saves w.state (state_after w.reply w.state numbers)

  -- after a portion
  went_kept : (st : State) (p : Portion) → Sixteen st.progress.memory → Kept_after (stepped_to st p)
  unfolding reply_after moved_to
  went_kept st p full =
      pick_with (λ (x : Reply). Saves (stepped_to st p).state (state_after x (stepped_to st p).state numbers)) p.all
      (λ _. written (stepped_to st p).state numbers is.size full) (λ _. written (stepped_to st p).state numbers is.size full)

  answered_kept : (st : State) (a : Answer) → Sixteen st.progress.memory → Kept_after (unchanged st (reply.Answers a))
  answered_kept st a full = written st numbers is.size full

  stage_kept : (stage : Stage) (b : ℕ) → Kept_after (by_stage stage image (memory_of guest (map_of map)) (state_in numbers) b).answer
  unfolding first_step begun_with
  stage_kept Fresh b =
      let started = started_state image (memory_of guest (map_of map)) (state_in numbers).options in
      pick_with (λ (x : Plan Stepped). Kept_after x.answer) (is_ok (answer_of image (memory_of guest (map_of map)) (state_in numbers).options))
      (λ _. went_kept started _ (map_sixteen guest map)) (λ _. answered_kept started started.answer (map_sixteen guest map))
  stage_kept Copying b = went_kept (state_in numbers) _ (kept_sixteen numbers)
  stage_kept Done b = answered_kept (state_in numbers) (state_in numbers).answer (kept_sixteen numbers)

  plan_kept : (b : ℕ) → Kept_after (plan_in image numbers b (map_of map) guest).answer
  unfolding step_plan
  plan_kept b = by (asked_all pass (step_tests (state_in numbers).progress (length image) (memory_of guest (map_of map)) b))
    where
      by : (g : Check)
          → Kept_after (if_open g (state_in numbers) (by_stage (state_in numbers).progress.stage image (memory_of guest (map_of map)) (state_in numbers) b)).answer
      by (Ok _) = stage_kept (state_in numbers).progress.stage b
      by (Err r) = is

-- ---- the entry points

-- what `rekusoyen_raw_begin` writes holds the new load
pub begin_kept : (o : Options) (numbers : List ℕ) {r : ℕ} {left : List ℕ} → length numbers ≡ state_size → BeginCall pass o numbers r left → Saves (fresh_state o) left
begin_kept o numbers size begins =
    subst (Saves (fresh_state o)) (sym begins.state) (written (fresh_state o) numbers size (record { starts = refl; sizes = refl }))

-- a call over a list that holds a state passes the tests of its lists
pub call_open : {st : State} (numbers out : List ℕ) → Saves st numbers → length out ≡ 9 → step_gate numbers out ≡ pass
unfolding step_gate
call_open numbers out is nine =
    all_open ((eqb (length numbers) state_size, NoRoom) ∷ (eqb (length out) 9, NoRoom) ∷ state_tests numbers)
    (eq-eqb (length numbers) state_size is.size, (eq-eqb (length out) 9 nine, is.good))

-- a call of `rekusoyen_raw_step` over a list that holds a state is a step of that state, and leaves a list that holds the state after it
pub step_kept : {st : State} (image map guest numbers out : List ℕ) (budget : ℕ) {r : ℕ} {guest-left left out-left : List ℕ} → Saves st numbers → length out ≡ 9
    → StepCall (step_gate numbers out) image (map_of map) budget guest numbers out r guest-left left out-left
    → StepsFrom st image (map_of map) budget guest out r guest-left left out-left
step_kept image map guest numbers out budget {r} {guest-left} {left} {out-left} is nine said =
    let plan = plan_in image numbers budget (map_of map) guest in
    let calls : StepCall pass image (map_of map) budget guest numbers out r guest-left left out-left =
    subst (λ (g : Check). StepCall g image (map_of map) budget guest numbers out r guest-left left out-left) (call_open numbers out is nine) said in
    let same : Saves (state_in numbers) numbers = record { size = is.size; good = is.good; held = refl } in
    let from : StepsFrom (state_in numbers) image (map_of map) budget guest out r guest-left left out-left =
    record {
      stepped = plan.answer;
      says = record { answer = refl; memory = calls.memory };
      answer = calls.answer;
      told = calls.told;
      kept = subst (Saves plan.answer.state) (sym calls.state) (plan_kept numbers same image guest map budget);
    } in
    subst (λ (x : State). StepsFrom x image (map_of map) budget guest out r guest-left left out-left) is.held from
