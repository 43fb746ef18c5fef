-- `kinds::are_zero_at`: the reserved numbers before i are 0, and p is the place of the i-th.
use mathlib.Core.Path.{◌≡◌}
use mathlib.Core.Bool.{true}
use Rattle.fields.specs.Every.{every}
use Rattle.fields.specs.Rows.{field_width}
use Rattle.start_info.proofs.KindsLaws.{zero_at, standing, Place}
use Rattle.start_info.proofs.kinds.are_zero_at.Given as goal

abbrev pub invariant-loop-i : goal.invariant-loop-i
invariant-loop-i l = Place (field_width l.widths) l.n l.s l.initial.p l.p l.i × (every (zero_at (standing (field_width l.widths) l.n l.s l.initial.p)) l.i ≡ true)
