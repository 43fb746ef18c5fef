-- `do_job`: the answer of the job over 16,384 zeros, as its text.
use Prim.Native.Nat.{ℕ}
use mathlib.Core.Path.{ap, ◌∙◌}
use lib.ListN.{length-replicate}
use Rattle.desk.specs.Work.{guest_size, image_format}
use Rattle.desk.specs.declared.table.Row.{Row}
use Rattle.desk.proofs.PrintingLaws.{job_output}
use Rattle.desk.proofs.do_job.Goals as goal

pub returns : goal.returns
returns c =
    let work = c.work-answer in
    job_output c.args.job.now (length-replicate {A = ℕ} guest_size 0)
    (c.format_of.ensures ∙ ap (λ (row : Row). image_format row.kind) c.rows.ensures.0) work.ensures.said c.tell.ensures
