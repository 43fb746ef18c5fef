-- Each public function permits one outcome.
use mathlib.Core.Path.{◌≡◌, refl}
use Rattle.answers.specs.Outcome.{OneOutcome}
use Rattle.answers.proofs.Outcomes.{meet, first}
use Rattle.boot_page.proofs.plan.Kinds as plan_kinds
use Rattle.boot_page.proofs.plan.Reads as plan_reads
use Rattle.boot_page.proofs.build.Kinds as build_kinds
use Rattle.boot_page.proofs.build.Reads as build_reads
use Rattle.boot_page.proofs.read.Kinds as read_kinds
use Rattle.boot_page.proofs.read.Reads as read_reads
use Rattle.boot_page.proofs.map.are_good.Kinds as are_good_kinds
use Rattle.boot_page.proofs.map.are_good.Reads as are_good_reads

-- a part that is not lent to be changed
over : {A B : Type 0} {u : A} {x y : B} → x ≡ y → ◌≡◌ {A = A × B} (u, x) (u, y)
over e = rw e

pub plan_one : OneOutcome 1 plan_kinds.ps plan_kinds.r plan_reads.Post
plan_one κs a z z' ws ws' p q = (meet p q, refl)

pub build_one : OneOutcome 3 build_kinds.ps build_kinds.r build_reads.Post
build_one κs a z z' ws ws' p q = (meet p.answer q.answer, first (meet p.page q.page))

pub read_one : OneOutcome 2 read_kinds.ps read_kinds.r read_reads.Post
read_one κs a z z' ws ws' p q = (meet p.answer q.answer, over (first (meet p.rows q.rows)))

pub are_good_one : OneOutcome 1 are_good_kinds.ps are_good_kinds.r are_good_reads.Post
are_good_one κs a z z' ws ws' p q = (meet p q, refl)
