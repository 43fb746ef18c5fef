-- Each public function permits one outcome.
use mathlib.Core.Path.{refl}
use Rattle.answers.specs.Outcome.{OneOutcome}
use Rattle.answers.proofs.Outcomes.{meet, first}
use Rattle.loads.proofs.load.Kinds as load_kinds
use Rattle.loads.proofs.load.Reads as load_reads
use Rattle.loads.proofs.formats.kind_of.Kinds as kind_kinds
use Rattle.loads.proofs.formats.kind_of.Reads as kind_reads
use Rattle.loads.proofs.formats.plan.Kinds as plan_kinds
use Rattle.loads.proofs.formats.plan.Reads as plan_reads
use Rattle.loads.proofs.formats.count.Kinds as count_kinds
use Rattle.loads.proofs.formats.count.Reads as count_reads
use Rattle.loads.proofs.formats.part.Kinds as part_kinds
use Rattle.loads.proofs.formats.part.Reads as part_reads
use Rattle.loads.proofs.formats.memory.Kinds as memory_kinds
use Rattle.loads.proofs.formats.memory.Reads as memory_reads
use Rattle.loads.proofs.calls.ask.Kinds as ask_kinds
use Rattle.loads.proofs.calls.ask.Reads as ask_reads
use Rattle.loads.proofs.calls.begin.Kinds as calls_begin_kinds
use Rattle.loads.proofs.calls.begin.Reads as calls_begin_reads
use Rattle.loads.proofs.calls.moved.Kinds as moved_kinds
use Rattle.loads.proofs.calls.moved.Reads as moved_reads
use Rattle.loads.proofs.calls.fresh.Kinds as fresh_kinds
use Rattle.loads.proofs.calls.fresh.Reads as fresh_reads
use Rattle.loads.proofs.steps.begin.Kinds as begin_kinds
use Rattle.loads.proofs.steps.begin.Reads as begin_reads
use Rattle.loads.proofs.steps.step.Kinds as step_kinds
use Rattle.loads.proofs.steps.step.Reads as step_reads

pub load_one : OneOutcome 2 load_kinds.ps load_kinds.r load_reads.Post
load_one κs a z z' ws ws' p q = (meet p.answer q.answer, first (meet p.memory q.memory))

pub step_one : OneOutcome 2 step_kinds.ps step_kinds.r step_reads.Post
step_one κs a z z' ws ws' p q = (meet p.answer q.answer, first (meet p.memory q.memory))

pub kind_one : OneOutcome 1 kind_kinds.ps kind_kinds.r kind_reads.Post
kind_one κs a z z' ws ws' p q = (meet p q, refl)

pub plan_one : OneOutcome 2 plan_kinds.ps plan_kinds.r plan_reads.Post
plan_one κs a z z' ws ws' p q = (meet p q, refl)

pub count_one : OneOutcome 1 count_kinds.ps count_kinds.r count_reads.Post
count_one κs a z z' ws ws' p q = (meet p q, refl)

pub part_one : OneOutcome 1 part_kinds.ps part_kinds.r part_reads.Post
part_one κs a z z' ws ws' p q = (meet p q, refl)

pub memory_one : OneOutcome 1 memory_kinds.ps memory_kinds.r memory_reads.Post
memory_one κs a z z' ws ws' p q = (meet p q, refl)

pub ask_one : OneOutcome 1 ask_kinds.ps ask_kinds.r ask_reads.Post
ask_one κs a z z' ws ws' p q = (meet p q, refl)

pub calls_begin_one : OneOutcome 1 calls_begin_kinds.ps calls_begin_kinds.r calls_begin_reads.Post
calls_begin_one κs a z z' ws ws' p q = (meet p q, refl)

pub moved_one : OneOutcome 0 moved_kinds.ps moved_kinds.r moved_reads.Post
moved_one κs a z z' ws ws' p q = (meet p q, refl)

pub fresh_one : OneOutcome 0 fresh_kinds.ps fresh_kinds.r fresh_reads.Post
fresh_one κs a z z' ws ws' p q = (meet p q, refl)

pub begin_one : OneOutcome 0 begin_kinds.ps begin_kinds.r begin_reads.Post
begin_one κs a z z' ws ws' p q = (meet p q, refl)
