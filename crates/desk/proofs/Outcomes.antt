-- Each public function permits one outcome.
use mathlib.Core.Path.{refl}
use Rattle.answers.specs.Outcome.{OneOutcome}
use Rattle.answers.proofs.Outcomes.{meet, first}
use Rattle.desk.proofs.work.Kinds as work_kinds
use Rattle.desk.proofs.work.Reads as work_reads
use Rattle.desk.proofs.do_job.Kinds as do_job_kinds
use Rattle.desk.proofs.do_job.Reads as do_job_reads

pub work_one : OneOutcome 2 work_kinds.ps work_kinds.r work_reads.Post
work_one κs a z z' ws ws' p q = (meet p.said q.said, first (meet p.memory q.memory))

pub do_job_one : OneOutcome 1 do_job_kinds.ps do_job_kinds.r do_job_reads.Post
do_job_one κs a z z' ws ws' p q = (meet p q, refl)
