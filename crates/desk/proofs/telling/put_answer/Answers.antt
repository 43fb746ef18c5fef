-- `telling::put_answer`: one line after the other.
use Rattle.desk.proofs.PrintingLaws.{kernel_stored}
use Rattle.desk.proofs.telling.put_answer.Goals as goal

pub returns-in-Ok : goal.returns-in-Ok
returns-in-Ok c =
    kernel_stored c.args.format c.in-Ok.kernel c.in-Ok.is c.put_line-at.ensures c.put_line-at-in-Ok.ensures
    c.put_pvh.ensures
