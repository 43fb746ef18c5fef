-- Calls of `step` one after the other, over one image and one memory; and "load in portions".
use Rattle.guest.specs.Answers.{Answer}
use Rattle.std.specs.Prelude.{ℕ, suc, ◌+◌, ◌-◌, ◌/◌, ◌≤◌, ◌<◌, min, max, ◌≡◌, List, [], ◌∷◌, leb, length, take, drop, replicate, Err}
use Rattle.answers.specs.Tests.{asked_all, pass}
use Rattle.answers.specs.declared.Refusal.{Refusal}
use Rattle.guest.specs.Loading.{Plan}
use Rattle.guest.specs.Room.{memory_of}
use Rattle.guest.specs.Stream.{Poke, Inside, pour}
use Rattle.guest.specs.declared.Map.{Map}
use Rattle.guest.specs.declared.Memory.{Memory}
use Rattle.loads.specs.Calls.{step_tests}
use Rattle.loads.specs.Steps.{reply_after, StepSays}
use Rattle.loads.specs.declared.steps.State.{State}
use Rattle.loads.specs.declared.steps.Stepped.{Stepped}

-- budgets, added up
unfoldable pub total : List ℕ → ℕ
total [] = 0
total (b ∷ bs) = b + total bs

-- calls by their contract: the budgets of those that were steps, the last first; what guest memory holds after them, which held `first` before; the bytes
-- that were reported; and the state. A call that is refused may come with any image, map and budget
pub data Calls (image : List ℕ) (m : Memory) (from : State) (first : List ℕ) : List ℕ → List ℕ → ℕ → State → Type 0 where
  none : Calls image m from first [] first 0 from
  step : {bs guest : List ℕ} {n : ℕ} {st : State} (b : ℕ) → 0 < b → {map : Map} → memory_of guest map ≡ m → {r : Stepped} {after : List ℕ}
      → StepSays image st b map guest r after → Calls image m from first bs guest n st → Calls image m from first (b ∷ bs) after (n + r.copied) r.state
  no_step : {bs guest : List ℕ} {n : ℕ} {st : State} (image' : List ℕ) (map : Map) (b : ℕ) {refusal : Refusal}
      → asked_all pass (step_tests st.progress (length image') (memory_of guest map) b) ≡ Err refusal → {r : Stepped} {after : List ℕ}
      → StepSays image' st b map guest r after → Calls image m from first bs guest n st → Calls image m from first bs after (n + r.copied) r.state

-- the step that answers, of equal budgets b over t bytes: the first, or t divided by b rounded up if that is greater
abbrev pub answering_step : ℕ → ℕ → ℕ
answering_step t b = max 1 ((t + b - 1) / b)

-- what one more step says and leaves, after budgets that add up to t, of a load by this plan
pub record NextStep (plan : Plan Answer) (t b : ℕ) (guest : List ℕ) (r : Stepped) (after : List ℕ) : Type 0 where
  -- it copies exactly the smaller of its budget and what is still to be written, and reports it
  pub written : after ≡ pour (take b (drop t plan.stream)) guest
  pub reported : r.copied ≡ min b (length plan.stream - t)
  -- the answer comes in the first step at which the budgets given add up to all the bytes that the whole load writes, and is the whole load's
  pub reply : r.reply ≡ reply_after (leb (length plan.stream) (t + b)) plan.answer
  -- which the state keeps from its first step on
  pub kept : r.state.answer ≡ plan.answer

-- "load in portions", of a load by its plan: any calls from `from`, over one image and one memory, refused calls anywhere between, are the whole load
-- stopped after as many bytes as the budgets add up to
pub record InPortions (image : List ℕ) (m : Memory) (from : State) (plan : Plan Answer) : Type 0 where
  -- a stop between steps leaves the guest as the whole load stopped after that many bytes; so many bytes were reported
  pub guest : {first bs now : List ℕ} {n : ℕ} {st : State} → Calls image m from first bs now n st → now ≡ pour (take (total bs) plan.stream) first
  pub reported : {first bs now : List ℕ} {n : ℕ} {st : State} → Calls image m from first bs now n st → n ≡ min (total bs) (length plan.stream)
  -- what the next step says by its contract
  pub next : {first bs now : List ℕ} {n : ℕ} {st : State} → Calls image m from first bs now n st → (b : ℕ) → 0 < b → {map : Map} → memory_of now map ≡ m
      → {r : Stepped} {after : List ℕ} → StepSays image st b map now r after → NextStep plan (total bs) b now r after
  -- with equal budgets b and t bytes the answer comes in step 1, or t divided by b rounded up if greater
  pub equal : (b k : ℕ) → 0 < b → {first now : List ℕ} {n : ℕ} {st : State} → Calls image m from first (replicate k b) now n st → {map : Map}
      → memory_of now map ≡ m → {r : Stepped} {after : List ℕ} → StepSays image st b map now r after
      → r.reply ≡ reply_after (leb (answering_step (length plan.stream) b) (suc k)) plan.answer

-- a call of `step` writes a stream of bytes that lies in the ranges of memory and is no longer than its budget, and reports its length
pub record Bounded (m : Memory) (budget : ℕ) (before : List ℕ) (r : Stepped) (after : List ℕ) : Type 0 where
  pub stream : List Poke
  pub inside : Inside m stream
  pub few : length stream ≤ budget
  pub reported : r.copied ≡ length stream
  pub memory : after ≡ pour stream before
