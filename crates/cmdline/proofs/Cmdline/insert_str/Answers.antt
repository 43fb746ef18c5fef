-- `Cmdline::insert_str`: the boot buffer as the call in place leaves it.
use Rattle.std.proofs.Common.{rules, ◌≡◌, ◌∙◌, length}
use Rattle.std.specs.Prelude.{Err}
use Rattle.cmdline.specs.Limit.{limit}
use Rattle.cmdline.proofs.InPlaceLaws.{unchanged, str_replied, boot_refused, boot_accepted}
use Rattle.cmdline.proofs.Cmdline.insert_str.Goals as goal

pub returns-in_err-lengths-clause-reply : goal.returns-in_err-lengths-clause-reply
returns-in_err-lengths-clause-reply c =
    let args = c.args in
    let l = args.self.now in
    let boot-long : length l.boot ≡ limit = search rules in
    let init-long : length l.init ≡ limit = search rules in
    let same : c.from_residual.result ≡ Err c.in_err-lengths.field-0.0 = search rules in
    let w = rw (c.lengths-lengths.ensures, c.in_err-lengths.was) at c.insert_str.ensures in
    rw same (boot_refused l (unchanged w) (str_replied l boot-long init-long args.slug.now w))

pub returns-clause-reply : goal.returns-clause-reply
returns-clause-reply c =
    let args = c.args in
    let l = args.self.now in
    let boot-long : length l.boot ≡ limit = search rules in
    let init-long : length l.init ≡ limit = search rules in
    let w = rw (c.lengths-lengths.ensures, c.in_ok-lengths.was) at c.insert_str.ensures in
    let reply = boot_accepted l c.in_ok-lengths.field-0 (str_replied l boot-long init-long args.slug.now w) in
    (reply.0, (rw c.lengths-lengths.ensures at c.set_lengths.ensures) ∙ reply.1)
