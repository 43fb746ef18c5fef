-- `writing::as_cstring`: the tests of the text and then of room; where every test holds the whole text and its zero are written.
use Rattle.std.proofs.Common.{rules, ◌≡◌, ◌∙◌, sym, ap, refl, length, leb}
use Rattle.std.specs.Prelude.{Err}
use Rattle.answers.specs.Tests.{asked}
use Rattle.answers.specs.declared.Refusal.TheVariants as refusal
use Rattle.cmdline.specs.Text.{size_of}
use Rattle.cmdline.proofs.WritingLaws.{writes_refused, writes_whole}
use Rattle.cmdline.proofs.writing.as_cstring.Goals as goal

pub returns-in_err-text_gate : goal.returns-in_err-text_gate
unfolding asked
returns-in_err-text_gate c =
    let boot = c.args.boot.now in
    let init = c.args.init.now in
    let out = c.args.out.now in
    let refused = c.in_err-text_gate.field-0.0 in
    let same : c.from_residual.result ≡ Err refused = search rules in
    let room = leb (size_of (length boot) (length init)) (length out) in
    rw same (writes_refused boot init out {room = room} c.text_gate.ensures refl refl refused (ap (λ g. asked g room refusal.NoRoom) c.in_err-text_gate.was))

pub returns-in_err-require : goal.returns-in_err-require
returns-in_err-require c =
    let refused = c.in_err-require.field-0.0 in
    let same : c.from_residual-in_err-require.result ≡ Err refused = search rules in
    rw same
    (writes_refused c.args.boot.now c.args.init.now c.args.out.now c.text_gate.ensures c.fits.ensures
    (c.require.ensures ∙ ap (λ g. asked g c.fits.result refusal.NoRoom) (sym c.in_ok-text_gate.was)) refused c.in_err-require.was)

pub returns : goal.returns
returns c =
    writes_whole c.args.boot.now c.args.init.now c.args.out.now c.text_gate.ensures c.fits.ensures
    (c.require.ensures ∙ ap (λ g. asked g c.fits.result refusal.NoRoom) (sym c.in_ok-text_gate.was)) c.in_ok-require.was c.write.ensures
