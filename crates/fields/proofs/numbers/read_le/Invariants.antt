-- `numbers::read_le`: v is the number of the bytes from i on.
use Rattle.std.proofs.Common.{◌≤◌, ◌-◌, ◌+◌, min}
use Rattle.fields.specs.Numbers.{ReadAs}
use Rattle.fields.proofs.numbers.read_le.Given as goal

abbrev pub invariant-loop-i : goal.invariant-loop-i
invariant-loop-i l = (l.i ≤ min l.width 8) × ReadAs (min l.width 8 - l.i) l.s (l.at + l.i) l.v
