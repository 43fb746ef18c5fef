-- `copying::copy_all`: what is left to write, from part i on, makes of memory what the whole makes of it as it was.
use Prim.Native.Nat.{◌-◌}
use mathlib.Core.Path.{◌≡◌}
use Rattle.guest.specs.Parts.{parts_from}
use Rattle.guest.specs.Stream.{pour}
use Rattle.loads.specs.Layout.{part_in}
use Rattle.loads.proofs.copying.copy_all.Given as goal

abbrev pub invariant-loop-i : goal.invariant-loop-i
invariant-loop-i l =
    (pour (parts_from (l.n - l.i) l.image (part_in l.image l.layout) l.i) l.guest ≡ pour (parts_from l.n l.image (part_in l.image l.layout) 0) l.initial.guest)
