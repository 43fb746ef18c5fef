-- What an answer keeps when there is more room or more data: it is the same, or it was of a kind that may lift.
use Rattle.answers.specs.Tests.{Check}
use Rattle.std.specs.Prelude.{Err}
use Rattle.answers.specs.declared.Refusal.{Refusal}

-- before is a, after is b: the same, unless a may lift
pub data Keeps {A : Type 0} (Lifts : A → Type 0) : A → A → Type 0 where
  same : {a : A} → Keeps Lifts a a
  lifted : {a b : A} → Lifts a → Keeps Lifts a b

-- tests that refuse with a refusal of such a kind
pub data ShutBy (Lifts : Refusal → Type 0) : Check → Type 0 where
  shut_by : {refusal : Refusal} → Lifts refusal → ShutBy Lifts (Err refusal)
