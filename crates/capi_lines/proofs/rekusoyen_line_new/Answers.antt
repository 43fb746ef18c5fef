-- `rekusoyen_line_new`: a line of two empty texts is made.
use Rattle.capi_lines.proofs.LinesLaws.{new_made}
use Rattle.capi_lines.proofs.rekusoyen_line_new.Goals as goal

pub returns : goal.returns
returns c = let args = c.args in new_made args.line.now args.capacity c.make.ensures c.check_number.ensures
