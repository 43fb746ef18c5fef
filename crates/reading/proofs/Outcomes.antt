-- Each public function permits one outcome.
use Prim.Native.Nat.{ℕ}
use mathlib.Core.Path.{◌≡◌, refl}
use seplogic.Ra.Ura.{Ura}
use base.Logic.{SProp, ent, sep, fst∗, snd∗}
use prog.Memory.{Memory}
use prog.Routine.{Routine}
use types.Logic.{Logic}
use contract.Fact.{fact_use, fact_i}
use contract.Monad.{Fun, fact}
use Rattle.answers.specs.Outcome.{OneOutcome}
use Rattle.answers.proofs.Outcomes.{meet}
use Rattle.reading.specs.declared.Taken.{Taken}
use Rattle.reading.specs.declared.Reader.{Reader}
use Rattle.reading.specs.Outcome.{OneOutcomeOf}
use Rattle.reading.specs.Readers.{Takes}
use Rattle.reading.specs.contracts.Reader.new as new
use Rattle.reading.specs.contracts.Reader.take as take
use Rattle.reading.proofs.notes.read_note_header.Kinds as read_note_header_kinds
use Rattle.reading.proofs.notes.read_note_header.Reads as read_note_header_reads

pub read_note_header_one : OneOutcome 1 read_note_header_kinds.ps read_note_header_kinds.r read_note_header_reads.Post
read_note_header_one κs a z z' ws ws' p q = (meet p q, refl)

-- ---- over a reader

taken_one : (reader : Reader) (width : ℕ) {t t' : Taken} → Takes reader width t → Takes reader width t' → t ≡ t'
taken_one reader width p q = λ i. record { value = meet p.number.value q.number.value i; rest = meet p.past q.past i }

module _ {M : Type 1} {𝓤 : Ura M} (𝓛 : Logic 𝓤) (mem : Memory → SProp 𝓤) (run : Routine → Fun 𝓤) where
  -- where each outcome ensures a fact, the two facts show it
  from_facts : (P Q R : Type 0) → (P → Q → R) → ent 𝓤 (sep 𝓤 (fact 𝓤 P) (fact 𝓤 Q)) (fact 𝓤 R)
  from_facts P Q R f = fact_use 𝓤 P (fst∗ 𝓤 (fact 𝓤 P) (fact 𝓤 Q)) (λ p. fact_use 𝓤 Q (snd∗ 𝓤 (fact 𝓤 P) (fact 𝓤 Q)) (λ q. fact_i 𝓤 R _ (f p q)))

  pub new_one : OneOutcomeOf 𝓤 new.ended (new.clauses 𝓛 mem run)
  new_one κs a g z z' ws ws' = from_facts _ _ _ (λ p q. (meet p q, refl))

  pub take_one : OneOutcomeOf 𝓤 take.ended (take.clauses 𝓛 mem run)
  take_one κs a g z z' ws ws' = from_facts _ _ _ (λ p q. (taken_one a.0 a.1.0 p q, refl))
