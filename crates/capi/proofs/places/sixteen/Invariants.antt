-- `places::sixteen`: what is still to be taken, from i on, makes of the array what all sixteen make of it.
use Prim.Native.Nat.{◌+◌, ◌-◌}
use mathlib.Core.Path.{◌≡◌}
use lib.Seq.{sets}
use Rattle.capi.specs.Saved.{numbers_from}
use Rattle.capi.proofs.places.sixteen.Given as goal

abbrev pub invariant-loop-i : goal.invariant-loop-i
invariant-loop-i l = sets l.slot-items l.i (numbers_from (16 - l.i) l.numbers (l.from + l.i)) ≡ numbers_from 16 l.numbers l.from
