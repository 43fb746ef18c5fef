-- `copying::copy_some`: what is to come, at part i, leads to what the whole portion says.
use Prim.Native.Nat.{◌≤◌, max}
use mathlib.Core.Path.{◌≡◌}
use lib.ListN.{length}
use Rattle.guest.proofs.PartsLaws.{Goes}
use Rattle.loads.specs.Steps.{tested_part}
use Rattle.loads.proofs.copying.copy_some.Given as goal

abbrev pub invariant-loop-i : goal.invariant-loop-i
invariant-loop-i l =
    (length l.guest ≡ length l.initial.guest) × (l.i ≤ max l.at l.n) × Goes l.image (tested_part l.image l.memory l.options) l.n l.at l.done l.budget l.initial.guest l.i l.q l.left l.guest
