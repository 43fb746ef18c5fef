-- `Cmdline::try_from`: the two parts are those of the text, and where they fit the capacity the buffers hold them.
use Rattle.std.proofs.Common.{rules, ◌≡◌, ◌∙◌, sym}
use Rattle.std.specs.Prelude.{Err}
use Rattle.cmdline.specs.Making.{try_from}
use Rattle.cmdline.proofs.MakingLaws.{made_not, made_all, from_gate, from_line}
use Rattle.cmdline.proofs.Cmdline.try_from.Goals as goal

pub returns-in_err-check : goal.returns-in_err-check
returns-in_err-check c =
    let args = c.args in
    let same : c.from_residual.result ≡ Err c.in_err-check.field-0.0 = search rules in
    let gate = from_gate args.raw.now args.capacity c.split_at-at.result c.split_at-at.ensures.0
    c.trimmed-before.result.now c.trimmed-after.result.now c.after.result.now c.trimmed-before.ensures c.trimmed-after.ensures c.after.ensures in
    same ∙ made_not (try_from args.raw.now args.capacity) (sym gate ∙ sym c.check.ensures ∙ c.in_err-check.was)

pub returns : goal.returns
returns c =
    let args = c.args in
    let gate = sym (from_gate args.raw.now args.capacity c.split_at-at.result c.split_at-at.ensures.0
    c.trimmed-before.result.now c.trimmed-after.result.now c.after.result.now c.trimmed-before.ensures c.trimmed-after.ensures c.after.ensures) ∙ sym c.check.ensures ∙ c.in_ok-check.was in
    made_all (try_from args.raw.now args.capacity) gate
    (rw c.blank-line.ensures
    (from_line args.raw.now args.capacity c.split_at-at.result c.split_at-at.ensures.0 c.trimmed-before.result.now c.trimmed-after.result.now
    c.after.result.now c.trimmed-before.ensures c.trimmed-after.ensures c.after.ensures gate (rw c.blank-line.ensures at c.put.ensures)
    (rw c.blank-line.ensures at c.put-2.ensures)))
