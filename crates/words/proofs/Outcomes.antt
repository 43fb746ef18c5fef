-- Each public function permits one outcome.
use mathlib.Core.Path.{◌≡◌}
use Rattle.answers.specs.Outcome.{OneOutcome}
use Rattle.answers.proofs.Outcomes.{meet, first}
use Rattle.words.proofs.read.Kinds as read_kinds
use Rattle.words.proofs.read.Reads as read_reads

-- two tuples, part by part
both : {A B : Type 0} {x y : A} {u v : B} → x ≡ y → u ≡ v → ◌≡◌ {A = A × B} (x, u) (y, v)
both e f = rw (e, f)

-- a part that is not lent to be changed
over : {A B : Type 0} {u : A} {x y : B} → x ≡ y → ◌≡◌ {A = A × B} (u, x) (u, y)
over e = rw e

pub read_one : OneOutcome 4 read_kinds.ps read_kinds.r read_reads.Post
read_one κs a z z' ws ws' p q = (
  meet p.answer q.answer,
  over (both (meet p.written.starts_at q.written.starts_at)
      (both (meet p.written.ends_at q.written.ends_at) (first (meet p.written.splits_at q.written.splits_at)))),
)
