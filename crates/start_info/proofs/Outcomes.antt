-- Each public function permits one outcome.
use mathlib.Core.Path.{refl}
use Rattle.answers.specs.Outcome.{OneOutcome}
use Rattle.answers.proofs.Outcomes.{meet, first}
use Rattle.start_info.proofs.plan.Kinds as plan_kinds
use Rattle.start_info.proofs.plan.Reads as plan_reads
use Rattle.start_info.proofs.size.Kinds as size_kinds
use Rattle.start_info.proofs.size.Reads as size_reads
use Rattle.start_info.proofs.write.Kinds as write_kinds
use Rattle.start_info.proofs.write.Reads as write_reads
use Rattle.start_info.proofs.check.Kinds as check_kinds
use Rattle.start_info.proofs.check.Reads as check_reads
use Rattle.start_info.proofs.read_block.Kinds as read_block_kinds
use Rattle.start_info.proofs.read_block.Reads as read_block_reads
use Rattle.start_info.proofs.read_modules.Kinds as read_modules_kinds
use Rattle.start_info.proofs.read_modules.Reads as read_modules_reads
use Rattle.start_info.proofs.read_ranges.Kinds as read_ranges_kinds
use Rattle.start_info.proofs.read_ranges.Reads as read_ranges_reads

pub plan_one : OneOutcome 3 plan_kinds.ps plan_kinds.r plan_reads.Post
plan_one κs a z z' ws ws' p q = (meet p q, refl)

pub size_one : OneOutcome 2 size_kinds.ps size_kinds.r size_reads.Post
size_one κs a z z' ws ws' p q = (meet p q, refl)

pub write_one : OneOutcome 3 write_kinds.ps write_kinds.r write_reads.Post
write_one κs a z z' ws ws' p q = (meet p.answer q.answer, first (meet p.memory q.memory))

pub check_one : OneOutcome 1 check_kinds.ps check_kinds.r check_reads.Post
check_one κs a z z' ws ws' p q = (meet p q, refl)

pub read_block_one : OneOutcome 2 read_block_kinds.ps read_block_kinds.r read_block_reads.Post
read_block_one κs a z z' ws ws' p q = (meet p.answer q.answer, first (meet p.numbers q.numbers))

pub read_modules_one : OneOutcome 2 read_modules_kinds.ps read_modules_kinds.r read_modules_reads.Post
read_modules_one κs a z z' ws ws' p q = (refl, first (meet p q))

pub read_ranges_one : OneOutcome 2 read_ranges_kinds.ps read_ranges_kinds.r read_ranges_reads.Post
read_ranges_one κs a z z' ws ws' p q = (refl, first (meet p q))
