-- `device::put_size`: no unit before this one divides, and nothing is put yet.
use Rattle.std.proofs.Common.{◌≡◌}
use Rattle.cmdline.proofs.DeviceLaws.{NoneOf}
use Rattle.cmdline.proofs.device.put_size.Given as goal

abbrev pub invariant-loop-unit : goal.invariant-loop-unit
invariant-loop-unit l = (l.d ≡ l.fn.d) × NoneOf l.size l.unit-index
