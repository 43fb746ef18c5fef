-- A load: its plan, which is an answer and the stream that is written, and what the load says and leaves. A plan is made of the image,
-- the memory and the options, and never looks at what guest memory holds.
use Rattle.std.specs.Prelude.{◌≡◌, List, [], ℕ, Ok, Err}
use Rattle.answers.specs.Tests.{Test, asked_all, Check, pass}
use Rattle.answers.specs.declared.Refusal.{Refusal}
use Rattle.guest.specs.Stream.{Poke, pour}

pub record Plan (A : Type 0) : Type 0 where
  pub answer : A
  pub stream : List Poke

-- a load by a plan, of guest memory that held `before`: it answers r and leaves `after`
pub record Loads {A : Type 0} (plan : Plan A) (before : List ℕ) (r : A) (after : List ℕ) : Type 0 where
  pub answer : r ≡ plan.answer
  pub memory : after ≡ pour plan.stream before

-- the plan of a refusal: it is answered, and nothing is written
abbrev pub refused_plan : {A : Type 0} → (Refusal → A) → Refusal → Plan A
refused_plan refused r = record { answer = refused r; stream = [] }

-- a plan behind the outcome of tests: if they refused, the refusal
abbrev pub behind_gate : {A : Type 0} → (Refusal → A) → Check → Plan A → Plan A
behind_gate refused (Ok _) plan = plan
behind_gate refused (Err r) plan = refused_plan refused r

-- a plan behind a row of tests: where one fails, the refusal of the first that does
unfoldable pub behind_tests : {A : Type 0} → (Refusal → A) → List Test → Plan A → Plan A
behind_tests refused ts plan = behind_gate refused (asked_all pass ts) plan

-- an answer that refuses with one of these
pub record RefusedFor {A : Type 0} (refused : Refusal → A) (Lifts : Refusal → Type 0) (answer : A) : Type 0 where
  pub refusal : Refusal
  pub lifts : Lifts refusal
  pub is : answer ≡ refused refusal
