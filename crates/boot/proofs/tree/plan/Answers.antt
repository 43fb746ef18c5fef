-- `tree::plan`: the kernel's own refusal, that of the checks, or the entry address.
use mathlib.Core.Path.{refl}
use mathlib.Core.List.{[]}
use Rattle.std.proofs.lemmas.Result.{err_from_is_err_and}
use Rattle.guest.specs.declared.KernelLoaderResult.{KernelLoaderResult}
use Rattle.boot.specs.Tree.{tests, entry}
use Rattle.boot.proofs.PlanLaws.{answer_kernel, answer_refused, answer_accepted}
use Rattle.boot.proofs.tree.plan.Goals as goal

pub returns-in_err-kernel : goal.returns-in_err-kernel
returns-in_err-kernel c =
    let args = c.args in
    let p = err_from_is_err_and c.from_residual.result c.from_residual.ensures.1 in
    rw (p.1, p.2)
    (answer_kernel (λ (k : KernelLoaderResult). tests args.memory.now args.image.now args.options args.limit args.text.now args.to args.ramdisk_len args.tree.now) entry (λ (k : KernelLoaderResult). []) c.plan.ensures c.in_err-kernel.was)

pub returns-in_err-check : goal.returns-in_err-check
returns-in_err-check c =
    let args = c.args in
    let p = err_from_is_err_and c.from_residual-in_err-check.result c.from_residual-in_err-check.ensures.1 in
    rw (p.1, p.2)
    (answer_refused (λ (k : KernelLoaderResult). tests args.memory.now args.image.now args.options args.limit args.text.now args.to args.ramdisk_len args.tree.now) entry (λ (k : KernelLoaderResult). []) c.plan.ensures c.in_ok-kernel.was c.check.ensures c.in_err-check.was)

pub returns : goal.returns
returns c =
    let args = c.args in
    answer_accepted (λ (k : KernelLoaderResult). tests args.memory.now args.image.now args.options args.limit args.text.now args.to args.ramdisk_len args.tree.now) entry (λ (k : KernelLoaderResult). []) c.plan.ensures c.in_ok-kernel.was c.check.ensures c.in_ok-check.was refl
