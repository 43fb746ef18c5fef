-- `telling::tell`: the text, stored in zeros.
use Rattle.desk.proofs.PrintingLaws.{text_held}
use Rattle.desk.proofs.telling.tell.Goals as goal

pub returns : goal.returns
returns c = text_held c.args.format c.args.answer c.put_answer-length.ensures
