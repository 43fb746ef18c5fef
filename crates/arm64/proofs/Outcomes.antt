-- Each public function permits one outcome.
use mathlib.Core.Path.{refl}
use Rattle.answers.specs.Outcome.{OneOutcome}
use Rattle.answers.proofs.Outcomes.{meet}
use Rattle.arm64.proofs.parts.plan.Kinds as parts_plan_kinds
use Rattle.arm64.proofs.parts.plan.Reads as parts_plan_reads
use Rattle.arm64.proofs.parts.part.Kinds as parts_part_kinds
use Rattle.arm64.proofs.parts.part.Reads as parts_part_reads
use Rattle.arm64.proofs.parts.memory.Kinds as memory_kinds
use Rattle.arm64.proofs.parts.memory.Reads as memory_reads

pub parts_plan_one : OneOutcome 2 parts_plan_kinds.ps parts_plan_kinds.r parts_plan_reads.Post
parts_plan_one κs a z z' ws ws' p q = (meet p q, refl)

pub parts_part_one : OneOutcome 1 parts_part_kinds.ps parts_part_kinds.r parts_part_reads.Post
parts_part_one κs a z z' ws ws' p q = (meet p q, refl)

pub memory_one : OneOutcome 1 memory_kinds.ps memory_kinds.r memory_reads.Post
memory_one κs a z z' ws ws' p q = (meet p q, refl)
