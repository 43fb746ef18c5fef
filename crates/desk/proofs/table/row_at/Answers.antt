-- `table::row_at`: three numbers, one after the other.
use Rattle.desk.proofs.TableLaws.{row_read}
use Rattle.desk.proofs.table.row_at.Goals as goal

pub returns : goal.returns
returns c = row_read c.args.job.now c.args.at.0 c.read_u32.ensures c.read_u32-2.ensures c.read_u32-3.ensures
