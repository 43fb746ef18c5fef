-- A load in steps through the entry points: its state in a list of numbers, and what the entry points answer and leave.
use Rattle.guest.specs.Answers.{Answer}
use Rattle.std.specs.Prelude.{ℕ, ◌≡◌, List, [], ◌∷◌, ◌++◌, eqb, leb, length, get_or, Ok, Err}
use Rattle.std.proofs.lemmas.List.Edits.{sets}
use Rattle.answers.specs.Pick.{pick}
use Rattle.answers.specs.Catalogue.{number_of}
use Rattle.answers.specs.Tests.{Test, asked_all, Check, pass}
use Rattle.answers.specs.declared.Refusal.TheVariants.{NoRoom, BadList}
use Rattle.guest.specs.Loading.{Plan}
use Rattle.guest.specs.Room.{memory_of}
use Rattle.guest.specs.Stream.{pour}
use Rattle.guest.specs.declared.Map.{Map}
use Rattle.guest.specs.declared.PvhBootCapability.{PvhBootCapability}
use Rattle.guest.specs.declared.PvhBootCapability.TheVariants.{PvhEntryPresent, PvhEntryNotPresent, PvhEntryIgnored}
use Rattle.loads.specs.Steps.{fresh_state, step_plan}
use Rattle.loads.specs.declared.Options.{Options}
use Rattle.loads.specs.declared.steps.Reply.{Reply}
use Rattle.loads.specs.declared.steps.Reply.TheVariants as reply
use Rattle.loads.specs.declared.steps.State.{State}
use Rattle.loads.specs.declared.steps.Stepped.{Stepped}
use Rattle.capi.specs.Options.{format_code, format_of, format_tests}
use Rattle.capi.specs.Refusals.{refusal_of, is_known}
use Rattle.capi.specs.Saved.{answer_place, with_kept, kept_in, kept_tests}
use Rattle.capi.specs.Values.{kernel_numbers, number_behind, left_behind}
use Rattle.capi.specs.declared.progress.Kept.{Kept}

-- ---- an answer in numbers

-- its number, and the values of an accepted load; 0 with a refusal
unfoldable pub answer_numbers : Answer → List ℕ
answer_numbers (Ok result) = 0 ∷ kernel_numbers result
answer_numbers (Err r) = number_of r ∷ 0 ∷ 0 ∷ 0 ∷ 0 ∷ 0 ∷ 0 ∷ []

unfoldable pub pvh_of : ℕ → ℕ → ℕ → ℕ → PvhBootCapability
pvh_of code address place size =
    pick (eqb code 2) (PvhEntryPresent (record { entry = record { 0 = address }; place = record { 0 = place }; size = size }))
    (pick (eqb code 1) PvhEntryNotPresent PvhEntryIgnored)

unfoldable pub answer_from : ℕ → ℕ → ℕ → PvhBootCapability → Answer
answer_from number load end said =
    pick (eqb number 0) (Ok (record { kernel_load = record { 0 = load }; kernel_end = record { 0 = end }; pvh_boot_cap = said })) (Err (refusal_of number))

abbrev pub answer_in : List ℕ → Answer
answer_in numbers =
    answer_from (get_or numbers 43 0) (get_or numbers 44 0) (get_or numbers 45 0)
    (pvh_of (get_or numbers 46 0) (get_or numbers 47 0) (get_or numbers 48 0) (get_or numbers 49 0))

-- ---- a state in numbers

abbrev pub state_size : ℕ
state_size = 50

abbrev pub kept_of : State → Kept
kept_of st = record { progress = st.progress; kernel_offset = st.options.kernel_offset; highmem_start = st.options.highmem_start }

-- the format, then the answer
abbrev pub tail_of : State → List ℕ
tail_of st = format_code st.options.format ∷ answer_numbers st.answer

-- a list with a state written into it, and the state that a list holds
abbrev pub with_state : State → List ℕ → List ℕ
with_state st numbers = sets (with_kept (kept_of st) numbers) answer_place (tail_of st)

abbrev pub state_from : Kept → ℕ → Answer → State
state_from k format a =
    record {
      progress = k.progress;
      answer = a;
      options = record { format = format_of format; kernel_offset = k.kernel_offset; highmem_start = k.highmem_start };
    }

abbrev pub state_in : List ℕ → State
state_in numbers = state_from (kept_in numbers) (get_or numbers 42 0) (answer_in numbers)

-- what no answer is written as: PVH, or an answer's number, that stands for none
abbrev pub answer_tests : List ℕ → List Test
answer_tests numbers = (leb (get_or numbers 46 0) 2, BadList) ∷ (is_known (get_or numbers 43 0), BadList) ∷ []

-- a list that no state is written as: a stage, an option, a format, PVH or an answer's number that stands for none
abbrev pub state_tests : List ℕ → List Test
state_tests numbers = kept_tests numbers ++ (format_tests (get_or numbers 42 0) ++ answer_tests numbers)

-- ---- starting

pub record BeginCall (gate : Check) (o : Options) (numbers : List ℕ) (r : ℕ) (left : List ℕ) : Type 0 where
  pub answer : r ≡ number_behind gate 0
  pub state : left ≡ left_behind gate (with_state (fresh_state o) numbers) numbers

-- ---- a step

-- the sizes of the lists, then whether the numbers are a state
unfoldable pub step_gate : List ℕ → List ℕ → Check
step_gate numbers out = asked_all pass ((eqb (length numbers) state_size, NoRoom) ∷ (eqb (length out) 9, NoRoom) ∷ state_tests numbers)

-- what the step does that the numbers' state takes
abbrev pub plan_in : List ℕ → List ℕ → ℕ → Map → List ℕ → Plan Stepped
plan_in image numbers budget map guest = step_plan image (memory_of guest map) (state_in numbers) budget

-- the number of a reply: 0 of a step, else the refusal's
abbrev pub reply_number : Reply → ℕ
reply_number reply.More = 0
reply_number (reply.Answers a) = 0
reply_number (reply.Refused r) = number_of r

-- what is reported of a step: the bytes copied, 1 if it answers, and the answer; 0 if there is none. A call that is refused reports nothing
abbrev pub told_numbers : ℕ → Reply → List ℕ
told_numbers copied reply.More = copied ∷ 0 ∷ 0 ∷ 0 ∷ 0 ∷ 0 ∷ 0 ∷ 0 ∷ 0 ∷ []
told_numbers copied (reply.Answers a) = copied ∷ 1 ∷ answer_numbers a
told_numbers copied (reply.Refused r) = []

-- the state's numbers after a step; a call that is refused leaves them as they were
abbrev pub state_after : Reply → State → List ℕ → List ℕ
state_after reply.More st numbers = with_state st numbers
state_after (reply.Answers a) st numbers = with_state st numbers
state_after (reply.Refused r) st numbers = numbers

-- what is reported of a step, and what it leaves in the lists
pub record StepTells (stepped : Stepped) (numbers out : List ℕ) (r : ℕ) (left out-left : List ℕ) : Type 0 where
  pub answer : r ≡ reply_number stepped.reply
  pub state : left ≡ state_after stepped.reply stepped.state numbers
  pub told : out-left ≡ sets out 0 (told_numbers stepped.copied stepped.reply)

pub record StepCall (gate : Check) (image : List ℕ) (map : Map) (budget : ℕ) (guest numbers out : List ℕ) (r : ℕ) (guest-left left out-left : List ℕ) : Type 0 where
  pub answer : r ≡ number_behind gate (reply_number (plan_in image numbers budget map guest).answer.reply)
  pub memory : guest-left ≡ left_behind gate (pour (plan_in image numbers budget map guest).stream guest) guest
  pub state :
      left
      ≡ left_behind gate
      (state_after (plan_in image numbers budget map guest).answer.reply (plan_in image numbers budget map guest).answer.state numbers)
      numbers
  pub told :
      out-left
      ≡ left_behind gate
      (sets out 0 (told_numbers (plan_in image numbers budget map guest).answer.copied (plan_in image numbers budget map guest).answer.reply))
      out
