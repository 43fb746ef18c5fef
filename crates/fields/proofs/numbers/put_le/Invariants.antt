-- `numbers::put_le`: what is still to be written, from p on, makes of s what all bytes make of it as it was.
use Prim.Native.Nat.{◌+◌, ◌-◌, min}
use mathlib.Core.Path.{◌≡◌}
use lib.ListN.{length}
use lib.Seq.{sets}
use Rattle.fields.specs.Numbers.{le_bytes}
use Rattle.fields.proofs.numbers.put_le.Given as goal

abbrev pub invariant-loop-p : goal.invariant-loop-p
invariant-loop-p l =
    (l.end ≡ min (l.at + l.width) (length l.initial.s)) × (length l.s ≡ length l.initial.s) × (sets l.s l.p (le_bytes (l.at + l.width - l.p) l.rest) ≡ sets l.initial.s l.at (le_bytes l.width l.v))
