-- `pvh::plan`: the kernel's own refusal, that of the checks, or the entry address.
use mathlib.Core.Path.{◌∙◌, ap}
use mathlib.Core.List.{[]}
use Rattle.guest.specs.Addresses.{amount_of}
use Rattle.std.proofs.lemmas.Result.{err_from_is_err_and}
use Rattle.guest.specs.declared.KernelLoaderResult.{KernelLoaderResult}
use Rattle.cmdline.specs.Writing.{bare}
use Rattle.boot.specs.Pvh.{tests, entry}
use Rattle.boot.proofs.PlanLaws.{answer_kernel, answer_refused, answer_accepted}
use Rattle.boot.proofs.pvh.plan.Goals as goal

pub returns-in_err-kernel : goal.returns-in_err-kernel
returns-in_err-kernel c =
    let args = c.args in
    let p = err_from_is_err_and c.from_residual.result c.from_residual.ensures.1 in
    rw (p.1, p.2)
    (answer_kernel (tests args.memory.now args.image.now args.options args.limit (bare args.boot.now args.init.now) args.to args.ramdisk_len args.rows.now) entry (λ (k : KernelLoaderResult). []) c.plan.ensures c.in_err-kernel.was)

pub returns-in_err-check : goal.returns-in_err-check
returns-in_err-check c =
    let args = c.args in
    let p = err_from_is_err_and c.from_residual-in_err-check.result c.from_residual-in_err-check.ensures.1 in
    rw (p.1, p.2)
    (answer_refused (tests args.memory.now args.image.now args.options args.limit (bare args.boot.now args.init.now) args.to args.ramdisk_len args.rows.now) entry (λ (k : KernelLoaderResult). []) c.plan.ensures c.in_ok-kernel.was c.check.ensures c.in_err-check.was)

pub returns : goal.returns
returns c =
    let args = c.args in
    answer_accepted (tests args.memory.now args.image.now args.options args.limit (bare args.boot.now args.init.now) args.to args.ramdisk_len args.rows.now) entry (λ (k : KernelLoaderResult). []) c.plan.ensures c.in_ok-kernel.was c.check.ensures c.in_ok-check.was (c.amount-at.ensures ∙ ap amount_of c.entry.ensures)
