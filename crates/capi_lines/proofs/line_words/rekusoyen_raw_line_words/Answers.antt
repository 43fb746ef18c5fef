-- `rekusoyen_raw_line_words`: the size is asked first; then what reading says is told.
use Rattle.capi_lines.proofs.LineWordsLaws.{words_unsized, words_sized}
use Rattle.capi_lines.proofs.line_words.rekusoyen_raw_line_words.Goals as goal

pub returns-then-out-ne1 : goal.returns-then-out-ne1
returns-then-out-ne1 c =
    let args = c.args in
    words_unsized args.text.now args.starts.now args.ends.now args.splits.now args.out.now c.if-out-ne1.true c.from.ensures

pub returns : goal.returns
returns c =
    let args = c.args in
    words_sized args.text.now args.starts.now args.ends.now args.splits.now args.out.now c.if-out-ne1.false c.read-told.ensures c.tell.ensures
