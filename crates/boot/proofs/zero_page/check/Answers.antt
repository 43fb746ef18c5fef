-- `zero_page::check`: each row of checks ends with `?`; the first that refuses answers.
use Rattle.std.proofs.lemmas.Result.{err_from_is_err_and}
use Rattle.boot.proofs.ZeroPageLaws.{entry_refuses, line_refused, page_refuses, ramdisk_refuses, limit_refuses, pieces_say}
use Rattle.boot.proofs.zero_page.check.Goals as goal

pub returns-in_err-check_entry : goal.returns-in_err-check_entry
returns-in_err-check_entry c =
    let args = c.args in
    let p = err_from_is_err_and c.from_residual.result c.from_residual.ensures.1 in
    rw (p.1, p.2)
    (entry_refuses args.memory.now args.image.now args.options args.limit args.boot.now args.init.now args.to args.ramdisk_len args.rows.now args.kernel
    c.check_entry.ensures c.in_err-check_entry.was)

pub returns-in_err-plan_texts : goal.returns-in_err-plan_texts
returns-in_err-plan_texts c =
    let args = c.args in
    let p = err_from_is_err_and c.from_residual-in_err-plan_texts.result c.from_residual-in_err-plan_texts.ensures.1 in
    rw (p.1, p.2)
    (line_refused args.memory.now args.image.now args.options args.limit args.boot.now args.init.now args.to args.ramdisk_len args.rows.now args.kernel
    c.check_entry.ensures c.in_ok-check_entry.was
    (rw c.from-line_at.ensures at c.plan_texts.ensures) c.in_err-plan_texts.was)

pub returns-in_err-plan : goal.returns-in_err-plan
returns-in_err-plan c =
    let args = c.args in
    let p = err_from_is_err_and c.from_residual-in_err-plan.result c.from_residual-in_err-plan.ensures.1 in
    rw (p.1, p.2)
    (page_refuses args.memory.now args.image.now args.options args.limit args.boot.now args.init.now args.to args.ramdisk_len args.rows.now args.kernel
    c.check_entry.ensures c.in_ok-check_entry.was
    (rw c.from-line_at.ensures at c.plan_texts.ensures) c.in_ok-plan_texts.was
    c.plan.ensures c.in_err-plan.was)

pub returns-in_err-check_ramdisk : goal.returns-in_err-check_ramdisk
returns-in_err-check_ramdisk c =
    let args = c.args in
    let p = err_from_is_err_and c.from_residual-in_err-check_ramdisk.result c.from_residual-in_err-check_ramdisk.ensures.1 in
    rw (p.1, p.2)
    (ramdisk_refuses args.memory.now args.image.now args.options args.limit args.boot.now args.init.now args.to args.ramdisk_len args.rows.now args.kernel
    c.check_entry.ensures c.in_ok-check_entry.was
    (rw c.from-line_at.ensures at c.plan_texts.ensures) c.in_ok-plan_texts.was
    c.plan.ensures c.in_ok-plan.was
    (rw c.from-ramdisk_at.ensures at c.check_ramdisk.ensures) c.in_err-check_ramdisk.was)

pub returns-in_err-check_line : goal.returns-in_err-check_line
returns-in_err-check_line c =
    let args = c.args in
    let p = err_from_is_err_and c.from_residual-in_err-check_line.result c.from_residual-in_err-check_line.ensures.1 in
    rw (p.1, p.2)
    (limit_refuses args.memory.now args.image.now args.options args.limit args.boot.now args.init.now args.to args.ramdisk_len args.rows.now args.kernel
    c.check_entry.ensures c.in_ok-check_entry.was
    (rw c.from-line_at.ensures at c.plan_texts.ensures) c.in_ok-plan_texts.was
    c.plan.ensures c.in_ok-plan.was
    (rw c.from-ramdisk_at.ensures at c.check_ramdisk.ensures) c.in_ok-check_ramdisk.was
    c.check_line.ensures.checked c.in_err-check_line.was)

pub returns : goal.returns
returns c =
    let args = c.args in
    pieces_say args.memory.now args.image.now args.options args.limit args.boot.now args.init.now args.to args.ramdisk_len args.rows.now args.kernel
    c.check_entry.ensures c.in_ok-check_entry.was
    (rw c.from-line_at.ensures at c.plan_texts.ensures) c.in_ok-plan_texts.was
    c.plan.ensures c.in_ok-plan.was
    (rw c.from-ramdisk_at.ensures at c.check_ramdisk.ensures) c.in_ok-check_ramdisk.was
    c.check_line.ensures.checked c.in_ok-check_line.was
    (rw (c.range.ensures, c.range-2.ensures, c.range-3.ensures, c.line_size-line_size.ensures, c.from-line_at.ensures, c.from-ramdisk_at.ensures, c.from.ensures) at c.check.ensures)
