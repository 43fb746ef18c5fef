-- `pvh::load`: by the plan's answer; if it boots, each piece is written by its own call.
use mathlib.Core.Path.{◌∙◌, ap}
use lib.ListN.{length}
use Rattle.std.proofs.lemmas.Result.{err_from_is_err_and}
use Rattle.guest.specs.declared.Memory.{Memory}
use Rattle.boot.specs.Pvh.{answer_of}
use Rattle.cmdline.specs.Writing.{bare}
use Rattle.boot.proofs.PvhLaws.{refused_boots, written_boots}
use Rattle.boot.proofs.pvh.load.Goals as goal

pub returns-in_err-booted : goal.returns-in_err-booted
returns-in_err-booted c =
    let args = c.args in
    let p = err_from_is_err_and c.from_residual.result c.from_residual.ensures.1 in
    rw (p.1, p.2)
    (refused_boots args.image.now args.options args.limit (bare args.boot.now args.init.now) args.to
    args.ramdisk.now args.rows.now args.map args.guest.now
    (c.plan.ensures ∙ ap (λ (m : Memory). answer_of m args.image.now args.options args.limit (bare args.boot.now args.init.now) args.to (length args.ramdisk.now) args.rows.now) c.of-memory.ensures) c.in_err-booted.was)

pub returns : goal.returns
returns c =
    let args = c.args in
    written_boots args.image.now args.options args.limit (bare args.boot.now args.init.now) args.to
    args.ramdisk.now args.rows.now args.map args.guest.now
    (c.plan.ensures ∙ ap (λ (m : Memory). answer_of m args.image.now args.options args.limit (bare args.boot.now args.init.now) args.to (length args.ramdisk.now) args.rows.now) c.of-memory.ensures) c.in_ok-booted.was c.load.ensures c.load_texts.ensures c.copy_image.ensures c.put_block.ensures
