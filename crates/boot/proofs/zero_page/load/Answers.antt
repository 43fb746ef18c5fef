-- `zero_page::load`: by the plan's answer; if it boots, each piece is written by its own call.
use mathlib.Core.Path.{◌∙◌, ap, refl}
use Rattle.std.proofs.lemmas.Result.{err_from_is_err_and}
use Rattle.guest.specs.declared.Memory.{Memory}
use native.Mathlib.Omega.{arith}
use lib.ListN.{length}
use Rattle.boot_page.specs.Building.{page_of}
use Rattle.boot_page.specs.Places.{page_size}
use Rattle.boot_page.proofs.PartsLaws.{page_length}
use Rattle.cmdline.specs.Writing.{bare}
use Rattle.boot.specs.ZeroPage.{setup_by, addresses_of, answer_of}
use Rattle.boot.proofs.ZeroPageLaws.{refused_boots, booted_small, booted_open, booted_fits, written_boots, page_put, open_part}
use Rattle.boot.proofs.zero_page.load.Goals as goal

pub overflow_cast-named : goal.overflow_cast-named
overflow_cast-named c =
    let args = c.args in
    let small = booted_small args.image.now args.options args.limit (bare args.boot.now args.init.now) args.to args.ramdisk.now args.rows.now args.map args.guest.now
    (c.plan.ensures ∙ ap (λ (m : Memory). answer_of m args.image.now args.options args.limit (bare args.boot.now args.init.now) args.to (length args.ramdisk.now) args.rows.now) c.of-memory.ensures) c.in_ok-booted.was in
    omega arith

pub slice_bounds-build-end : goal.slice_bounds-build-end
slice_bounds-build-end c =
    let args = c.args in
    let fits = booted_fits args.image.now args.options args.limit (bare args.boot.now args.init.now) args.to args.ramdisk.now args.rows.now args.map args.guest.now
    (c.plan.ensures ∙ ap (λ (m : Memory). answer_of m args.image.now args.options args.limit (bare args.boot.now args.init.now) args.to (length args.ramdisk.now) args.rows.now) c.of-memory.ensures) c.in_ok-booted.was in
    omega arith

pub build-requires : goal.build-requires
build-requires c =
    let args = c.args in
    let t = bare args.boot.now args.init.now in
    let fits = booted_fits args.image.now args.options args.limit t args.to args.ramdisk.now args.rows.now args.map args.guest.now
    (c.plan.ensures ∙ ap (λ (m : Memory). answer_of m args.image.now args.options args.limit (bare args.boot.now args.init.now) args.to (length args.ramdisk.now) args.rows.now) c.of-memory.ensures) c.in_ok-booted.was in
    open_part args.to.page c.copy_image.new.guest args.rows.now (omega arith)
    (booted_open args.image.now args.options args.limit t args.to args.ramdisk.now args.rows.now args.map args.guest.now
    (c.plan.ensures ∙ ap (λ (m : Memory). answer_of m args.image.now args.options args.limit (bare args.boot.now args.init.now) args.to (length args.ramdisk.now) args.rows.now) c.of-memory.ensures) c.in_ok-booted.was)

pub returns-in_err-booted : goal.returns-in_err-booted
returns-in_err-booted c =
    let args = c.args in
    let p = err_from_is_err_and c.from_residual.result c.from_residual.ensures.1 in
    rw (p.1, p.2)
    (refused_boots args.image.now args.options args.limit (bare args.boot.now args.init.now) args.to args.ramdisk.now args.rows.now args.map args.guest.now
    (c.plan.ensures ∙ ap (λ (m : Memory). answer_of m args.image.now args.options args.limit (bare args.boot.now args.init.now) args.to (length args.ramdisk.now) args.rows.now) c.of-memory.ensures) c.in_err-booted.was)

pub returns : goal.returns
returns c =
    let args = c.args in
    let t = bare args.boot.now args.init.now in
    let load = c.in_ok-booted.booted.kernel.kernel_load.0 in
    let named = addresses_of args.to (length args.ramdisk.now) in
    let header = setup_by args.options.format args.image.now load in
    let fits = booted_fits args.image.now args.options args.limit t args.to args.ramdisk.now args.rows.now args.map args.guest.now
    (c.plan.ensures ∙ ap (λ (m : Memory). answer_of m args.image.now args.options args.limit (bare args.boot.now args.init.now) args.to (length args.ramdisk.now) args.rows.now) c.of-memory.ensures) c.in_ok-booted.was in
    written_boots args.image.now args.options args.limit t args.to args.ramdisk.now args.rows.now args.map args.guest.now
    (c.plan.ensures ∙ ap (λ (m : Memory). answer_of m args.image.now args.options args.limit (bare args.boot.now args.init.now) args.to (length args.ramdisk.now) args.rows.now) c.of-memory.ensures) c.in_ok-booted.was refl c.load.ensures (rw c.from.ensures at c.load_texts.ensures) (rw c.from-2.ensures at c.copy_image.ensures)
    (page_put args.to.page page_size c.copy_image.new.guest (page_of header named args.rows.now) (omega arith) (page_length header named args.rows.now) c.build.ensures)
