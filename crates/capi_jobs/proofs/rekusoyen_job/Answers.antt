-- `rekusoyen_job`: the size is checked first; then the job is done, and its text copied.
use Rattle.std.proofs.Common.{rules}
use Rattle.capi_jobs.proofs.JobsLaws.{job_unsized, job_sized}
use Rattle.capi_jobs.proofs.rekusoyen_job.Goals as goal

pub returns-then-text-ne80 : goal.returns-then-text-ne80
returns-then-text-ne80 c =
    let args = c.args in
    job_unsized args.job.now args.text.now c.if-text-ne80.true c.from.ensures

pub returns : goal.returns
returns c =
    let args = c.args in
    job_sized args.job.now args.text.now c.if-text-ne80.false c.do_job.ensures (search rules)
