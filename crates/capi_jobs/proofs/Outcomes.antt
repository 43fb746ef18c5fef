-- Each function permits one outcome.
use Rattle.answers.specs.Outcome.{OneOutcome}
use Rattle.answers.proofs.Outcomes.{meet, first}
use Rattle.capi.proofs.Outcomes.{over}
use Rattle.capi_jobs.proofs.rekusoyen_job.Kinds as job_kinds
use Rattle.capi_jobs.proofs.rekusoyen_job.Reads as job_reads

pub job_one : OneOutcome 2 job_kinds.ps job_kinds.r job_reads.Post
job_one κs a z z' ws ws' p q = (meet p.answer q.answer, over (first (meet p.bytes q.bytes)))
