-- `writing::text_gate`: a zero byte in one of the parts is one in the whole text.
use Rattle.std.proofs.Common.{rules, ◌≡◌, ◌∙◌, sym, ap}
use Rattle.std.specs.Prelude.{Err, not}
use Rattle.answers.specs.Tests.{pass, asked}
use Rattle.answers.specs.declared.Refusal.TheVariants as refusal
use Rattle.slugs.specs.Bytes.{has}
use Rattle.cmdline.proofs.WritingLaws.{text_row}
use Rattle.cmdline.proofs.writing.text_gate.Goals as goal

pub returns-in_err-require : goal.returns-in_err-require
unfolding asked
returns-in_err-require c =
    let boot = c.args.boot.now in
    let init = c.args.init.now in
    let same : c.from_residual.result ≡ Err c.in_err-require.field-0.0 = search rules in
    let shut = sym c.in_err-require.was ∙ c.require.ensures ∙ ap (λ b. asked pass b refusal.NoBootArgsInserted) c.is_headed.ensures in
    same ∙ ap (λ g. asked (asked g (not (has 0 boot)) refusal.NullTerminator) (not (has 0 init)) refusal.NullTerminator) shut ∙ text_row boot init

pub returns-in_err-require-2 : goal.returns-in_err-require-2
unfolding asked
returns-in_err-require-2 c =
    let boot = c.args.boot.now in
    let init = c.args.init.now in
    let same : c.from_residual-in_err-require-2.result ≡ Err c.in_err-require-2.field-0.0 = search rules in
    let open-first = sym c.in_ok-require.was ∙ c.require.ensures ∙ ap (λ b. asked pass b refusal.NoBootArgsInserted) c.is_headed.ensures in
    let shut = sym c.in_err-require-2.was ∙ c.require-2.ensures ∙ ap (λ b. asked pass (not b) refusal.NullTerminator) c.has.ensures in
    same
    ∙ ap (λ g. asked g (not (has 0 init)) refusal.NullTerminator) (shut ∙ ap (λ g. asked g (not (has 0 boot)) refusal.NullTerminator) open-first)
    ∙ text_row boot init

pub returns : goal.returns
unfolding asked
returns c =
    let boot = c.args.boot.now in
    let init = c.args.init.now in
    let open-first = sym c.in_ok-require.was ∙ c.require.ensures ∙ ap (λ b. asked pass b refusal.NoBootArgsInserted) c.is_headed.ensures in
    let open-second = sym c.in_ok-require-2.was ∙ c.require-2.ensures ∙ ap (λ b. asked pass (not b) refusal.NullTerminator) c.has.ensures in
    c.require-3.ensures
    ∙ ap (λ b. asked pass (not b) refusal.NullTerminator) c.has-2.ensures
    ∙ ap (λ g. asked g (not (has 0 init)) refusal.NullTerminator) (open-second ∙ ap (λ g. asked g (not (has 0 boot)) refusal.NullTerminator) open-first)
    ∙ text_row boot init
