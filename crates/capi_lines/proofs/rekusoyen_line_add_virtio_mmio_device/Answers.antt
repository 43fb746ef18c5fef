-- `rekusoyen_line_add_virtio_mmio_device`: the tests of the line, then the insertion in place is told.
use Rattle.std.proofs.Common.{◌∙◌}
use native.Mathlib.Omega.{arith}
use Rattle.cmdline.specs.Device.{add_device}
use Rattle.capi_lines.specs.Lines.{id_by, text_in, the_boot}
use Rattle.capi_lines.proofs.LinesLaws.{id_given, call_refused, header_sized, device_called}
use Rattle.capi_lines.proofs.rekusoyen_line_add_virtio_mmio_device.Goals as goal

pub slice_bounds-add_virtio_mmio_device-end : goal.slice_bounds-add_virtio_mmio_device-end
slice_bounds-add_virtio_mmio_device-end c = omega (arith, (header_sized c.args.line.now c.read_header.ensures c.in-Ok.is).size)

pub returns-in-Err : goal.returns-in-Err
returns-in-Err c =
    let args = c.args in
    call_refused args.line.now c.read_header.ensures the_boot (add_device (text_in args.line.now) args.size args.address args.irq (id_by args.has_id args.id)) c.in-Err.is c.from.ensures

pub returns-in-Ok : goal.returns-in-Ok
returns-in-Ok c =
    let args = c.args in
    device_called args.line.now c.read_header.ensures c.in-Ok.is args.size args.address args.irq (id_by args.has_id args.id) _ (c.then_some-device_id.ensures ∙ id_given args.has_id args.id) c.add_virtio_mmio_device-appended.ensures c.tell.ensures
