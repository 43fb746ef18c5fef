-- `read`: an unclosed quote first, then too few places, then all words are written.
use Prim.Native.Nat.{min}
use mathlib.Core.Path.{◌∙◌, ap}
use lib.ListN.{length}
use Rattle.words.proofs.TellingLaws.{unclosed_told, unclosed_written, few_told, few_written, words_told, words_written}
use Rattle.words.proofs.read.Goals as goal

pub returns-then-unclosed-line : goal.returns-then-unclosed-line
returns-then-unclosed-line c =
    let told = c.stop_at-unclosed.ensures in
    let line = c.args.line.now in
    record { answer = unclosed_told line _ told c.if-unclosed-line.true; written = unclosed_written line _ told c.if-unclosed-line.true }

pub returns-then-room-n : goal.returns-then-room-n
returns-then-room-n c =
    let told = c.stop_at-unclosed.ensures in
    let args = c.args in
    let line = args.line.now in
    let small = c.min-room.ensures ∙ ap (min (length args.starts.now)) c.min.ensures in
    record { answer = few_told line _ told c.if-unclosed-line.false c.count-n.ensures small c.if-room-n.true; written = few_written line _ told c.if-unclosed-line.false c.count-n.ensures small c.if-room-n.true }

pub returns : goal.returns
returns c =
    let told = c.stop_at-unclosed.ensures in
    let args = c.args in
    let line = args.line.now in
    let small = c.min-room.ensures ∙ ap (min (length args.starts.now)) c.min.ensures in
    record { answer = words_told line _ told c.if-unclosed-line.false c.count-n.ensures small c.if-room-n.false; written = words_written line _ told c.if-unclosed-line.false c.count-n.ensures small c.if-room-n.false c.write.ensures }
