-- `rekusoyen_line_try_from`: the two parts of the text; then the line is made.
use mathlib.Core.Path.{sym}
use lib.Seq.{length-take-le}
use Rattle.capi_lines.proofs.LinesLaws.{from_made}
use Rattle.capi_lines.proofs.rekusoyen_line_try_from.Goals as goal

pub slice_bounds-trimmed-end : goal.slice_bounds-trimmed-end
slice_bounds-trimmed-end c = sym (length-take-le _ _ c.split_at-at.ensures.1)

pub returns : goal.returns
returns c =
    let args = c.args in
    from_made args.line.now args.text.now args.capacity c.split_at-at.result c.trimmed-before.result.now c.trimmed-after.result.now c.after.result.now
    c.split_at-at.ensures.0 c.trimmed-before.ensures c.trimmed-after.ensures c.after.ensures c.make.ensures c.check_number.ensures
