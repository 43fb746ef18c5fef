-- `table::body`: clipped to the job, a place and a size give the same bytes.
use Rattle.desk.proofs.TableLaws.{body_part}
use Rattle.desk.proofs.table.body.Goals as goal

pub returns : goal.returns
returns c = body_part c.args.job.now c.args.row.place.0 c.args.row.size c.min-from.ensures c.min.ensures
