-- `tree::check`: each row of checks ends with `?`; the first that refuses answers.
use Rattle.std.proofs.lemmas.Result.{err_from_is_err_and}
use Rattle.boot.proofs.TreeLaws.{own_refuses, limit_refuses, pieces_say}
use Rattle.boot.proofs.tree.check.Goals as goal

pub returns-in_err-check_own : goal.returns-in_err-check_own
returns-in_err-check_own c =
    let args = c.args in
    let p = err_from_is_err_and c.from_residual.result c.from_residual.ensures.1 in
    rw (p.1, p.2)
    (own_refuses args.memory.now args.image.now args.options args.limit args.text.now args.to args.ramdisk_len args.tree.now
    c.check_own.ensures c.in_err-check_own.was)

pub returns-in_err-check_line : goal.returns-in_err-check_line
returns-in_err-check_line c =
    let args = c.args in
    let p = err_from_is_err_and c.from_residual-in_err-check_line.result c.from_residual-in_err-check_line.ensures.1 in
    rw (p.1, p.2)
    (limit_refuses args.memory.now args.image.now args.options args.limit args.text.now args.to args.ramdisk_len args.tree.now
    c.check_own.ensures c.in_ok-check_own.was
    c.check_line.ensures.checked c.in_err-check_line.was)

pub returns : goal.returns
returns c =
    let args = c.args in
    pieces_say args.memory.now args.image.now args.options args.limit args.text.now args.to args.ramdisk_len args.tree.now
    c.check_own.ensures c.in_ok-check_own.was
    c.check_line.ensures.checked c.in_ok-check_line.was
    (rw (c.range.ensures, c.range-2.ensures, c.range-3.ensures) at c.check.ensures)
