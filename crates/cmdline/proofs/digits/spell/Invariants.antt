-- `digits::spell`: the digits that are still to come, before those in the array, are those of the number.
use Prim.Native.Nat.{◌<◌, ◌^◌, ◌≤◌}
use mathlib.Core.Path.{◌≡◌}
use lib.ListN.{drop, length}
use Rattle.cmdline.specs.Digits.{digits, digits_before}
use Rattle.cmdline.proofs.digits.spell.Given as goal

abbrev pub invariant-loop-x : goal.invariant-loop-x
invariant-loop-x l = (1 ≤ l.i) × (l.i ≤ 20) × (length l.d ≡ 20) × (l.x < l.base ^ l.i) × (digits_before l.i l.base l.x (drop l.i l.d) ≡ digits l.base l.n)

abbrev pub decreases-loop-x : goal.decreases-loop-x
decreases-loop-x l = l.i
