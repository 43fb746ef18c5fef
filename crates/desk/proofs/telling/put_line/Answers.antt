-- `telling::put_line`: one part after the other.
use Rattle.desk.proofs.PrintingLaws.{line_told}
use Rattle.desk.proofs.telling.put_line.Goals as goal

pub returns : goal.returns
returns c = line_told c.args.word.now c.args.n c.put-at.ensures c.put_decimal-at.ensures c.put.ensures
