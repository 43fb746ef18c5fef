-- `putting::put`: the bytes are copied if all tests hold.
use mathlib.Core.Path.{◌∙◌, ap}
use lib.ListN.{length}
use Rattle.std.proofs.lemmas.Result.{err_from_is_err_and}
use Rattle.answers.specs.Tests.{asked_all, pass}
use Rattle.guest.specs.declared.Memory.{Memory}
use Rattle.boot.specs.Putting.{put_tests}
use Rattle.boot.proofs.PuttingLaws.{put_refused, put_done}
use Rattle.boot.proofs.putting.put.Goals as goal

pub returns-in_err-check : goal.returns-in_err-check
returns-in_err-check c =
    let args = c.args in
    let p = err_from_is_err_and c.from_residual.result c.from_residual.ensures.1 in
    rw (p.1, p.2)
    (put_refused args.address.0 args.bytes.now args.map args.guest.now
    (c.check.ensures ∙ ap (λ (m : Memory). asked_all pass (put_tests m args.address.0 (length args.bytes.now))) c.of.ensures) c.in_err-check.was)

pub returns : goal.returns
returns c =
    let args = c.args in
    put_done args.address.0 args.bytes.now args.map args.guest.now
    (c.check.ensures ∙ ap (λ (m : Memory). asked_all pass (put_tests m args.address.0 (length args.bytes.now))) c.of.ensures) c.in_ok-check.was
    c.copy_image.ensures
