-- `in_place::add_virtio_mmio_device`: a size of 0 is refused, else the text of the device is a slug.
use Rattle.std.proofs.Common.{rules, ◌≡◌, ◌∙◌, sym, min, arith}
use Rattle.std.specs.Prelude.{Err}
use Rattle.slugs.proofs.StoredLaws.{stored_text}
use Rattle.cmdline.specs.Limit.{limit}
use Rattle.cmdline.proofs.InPlaceLaws.{device_stops, device_appends}
use Rattle.cmdline.proofs.in_place.add_virtio_mmio_device.Goals as goal

pub returns-in_err-require : goal.returns-in_err-require
returns-in_err-require c =
    let args = c.args in
    let same : c.from_residual.result ≡ Err c.in_err-require.field-0.0 = search rules in
    rw same
    (device_stops (min args.lengths.boot_len limit) (min args.lengths.init_len limit) (min args.lengths.capacity limit) args.size args.baseaddr.0 args.irq args.id
    args.boot.now (min args.lengths.boot_len limit) (sym c.require.ensures ∙ c.in_err-require.was))

pub returns : goal.returns
returns c =
    let args = c.args in
    let text = c.text-n in
    device_appends (min args.lengths.boot_len limit) (min args.lengths.init_len limit) (min args.lengths.capacity limit) args.size args.baseaddr.0 args.irq args.id
    args.boot.now (min args.lengths.boot_len limit) (sym c.require.ensures ∙ c.in_ok-require.was)
    (stored_text (omega (arith, text.ensures.1)) text.ensures.0) c.insert_str.ensures
