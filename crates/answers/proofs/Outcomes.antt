-- Each public function permits one outcome; and what the same statement about any function rests on.
use mathlib.Core.Path.{◌≡◌, sym, ◌∙◌, refl, ap}
use native.Mathlib.Omega.{arith}
use Rattle.std.specs.Prelude.{ℕ, Result, Ok, Err}
use Rattle.answers.specs.Catalogue.{number_of, HasNumber}
use Rattle.answers.specs.Outcome.{OneOutcome}
use Rattle.answers.specs.declared.Refusal.{Refusal}
use Rattle.answers.specs.declared.UnknownNumber.{UnknownNumber}
use Rattle.answers.proofs.U32FromRefusal.from.Kinds as from_kinds
use Rattle.answers.proofs.U32FromRefusal.from.Reads as from_reads
use Rattle.answers.proofs.RefusalTryFromU32.try_from.Kinds as try_from_kinds
use Rattle.answers.proofs.RefusalTryFromU32.try_from.Reads as try_from_reads
use Rattle.answers.proofs.require.Kinds as require_kinds
use Rattle.answers.proofs.require.Reads as require_reads

-- two that equal a third
pub meet : {A : Type 0} {x y a : A} → x ≡ a → y ≡ a → x ≡ y
meet p q = p ∙ sym q

-- a tuple whose first part alone can differ
pub first : {A B : Type 0} {x y : A} {u : B} → x ≡ y → ◌≡◌ {A = A × B} (x, u) (y, u)
first {u = u} e = ap (λ a. (a, u)) e

pub require_one : OneOutcome 0 require_kinds.ps require_kinds.r require_reads.Post
require_one κs a z z' ws ws' p q = (meet p q, refl)

pub from_one : OneOutcome 0 from_kinds.ps from_kinds.r from_reads.Post
from_one κs a z z' ws ws' p q = (meet p q, refl)

-- no two refusals have one number
numbers_apart : (a b : Refusal) → number_of a ≡ number_of b → a ≡ b
numbers_apart a b e = grind arith

one_refusal : (n : ℕ) (x y : Result Refusal UnknownNumber) → HasNumber n x → HasNumber n y → x ≡ y
one_refusal n (Ok a) (Ok b) p q = ap (λ r. Ok r) (numbers_apart a b (meet p q))
one_refusal n (Ok a) (Err u) p q = absurd (q.1 a p)
one_refusal n (Err u) (Ok b) p q = absurd (p.1 b q)
one_refusal n (Err u) (Err v) p q = ap (λ k. Err (record { 0 = k })) (meet p.0 q.0)

pub try_from_one : OneOutcome 0 try_from_kinds.ps try_from_kinds.r try_from_reads.Post
try_from_one κs a z z' ws ws' p q = (one_refusal _ z z' p q, refl)
