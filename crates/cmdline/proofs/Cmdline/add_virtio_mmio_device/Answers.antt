-- `Cmdline::add_virtio_mmio_device`: the boot buffer as the call in place leaves it.
use Rattle.std.proofs.Common.{rules, ◌≡◌, ◌∙◌, length}
use Rattle.std.specs.Prelude.{Err}
use Rattle.cmdline.specs.Limit.{limit}
use Rattle.cmdline.proofs.InPlaceLaws.{unchanged, device_replied, boot_refused, boot_accepted}
use Rattle.cmdline.proofs.Cmdline.add_virtio_mmio_device.Goals as goal

pub returns-in_err-lengths-clause-reply : goal.returns-in_err-lengths-clause-reply
returns-in_err-lengths-clause-reply c =
    let args = c.args in
    let l = args.self.now in
    let boot-long : length l.boot ≡ limit = search rules in
    let init-long : length l.init ≡ limit = search rules in
    let same : c.from_residual.result ≡ Err c.in_err-lengths.field-0.0 = search rules in
    let w = rw (c.lengths-lengths.ensures, c.in_err-lengths.was) at c.add_virtio_mmio_device.ensures in
    rw same (boot_refused l (unchanged w) (device_replied l boot-long init-long args.size args.baseaddr.0 args.irq args.id w))

pub returns-clause-reply : goal.returns-clause-reply
returns-clause-reply c =
    let args = c.args in
    let l = args.self.now in
    let boot-long : length l.boot ≡ limit = search rules in
    let init-long : length l.init ≡ limit = search rules in
    let w = rw (c.lengths-lengths.ensures, c.in_ok-lengths.was) at c.add_virtio_mmio_device.ensures in
    let reply = boot_accepted l c.in_ok-lengths.field-0 (device_replied l boot-long init-long args.size args.baseaddr.0 args.irq args.id w) in
    (reply.0, (rw c.lengths-lengths.ensures at c.set_lengths.ensures) ∙ reply.1)
