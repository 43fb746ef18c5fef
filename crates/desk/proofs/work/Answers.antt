-- `work`: a job that is not good leaves everything; else memory is cleared and the bodies are loaded.
use Rattle.std.proofs.Common.{rules, ◌≡◌}
use Rattle.std.specs.Prelude.{Err}
use Rattle.desk.proofs.WorkLaws.{job_refused, job_done}
use Rattle.desk.proofs.work.Goals as goal

pub returns-in_err-check : goal.returns-in_err-check
returns-in_err-check c =
    let args = c.args in
    let same : c.from_residual.result ≡ Err c.in_err-check.field-0.0 = search rules in
    rw same (job_refused args.job.now args.guest.now c.check.ensures c.in_err-check.was)

pub returns : goal.returns
returns c =
    let args = c.args in
    job_done args.job.now args.guest.now c.check.ensures c.in_ok-check.was (search rules) c.load_bodies.ensures
