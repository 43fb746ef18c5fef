-- `splitting::split_at`: nothing splits before i, so the place is i and what is left of the rest.
use Prim.Native.Nat.{◌+◌, ◌-◌, ◌≤◌}
use mathlib.Core.Bool.{true}
use mathlib.Core.Path.{◌≡◌}
use lib.ListN.{drop, length}
use Rattle.slugs.specs.Splitting.{split_from}
use Rattle.slugs.proofs.splitting.split_at.Given as goal

abbrev pub invariant-loop-i : goal.invariant-loop-i
invariant-loop-i l = (l.i ≤ length l.s) × (split_from true l.s ≡ l.i + split_from l.even (drop l.i l.s))

abbrev pub decreases-loop-i : goal.decreases-loop-i
decreases-loop-i l = length l.s - l.i
