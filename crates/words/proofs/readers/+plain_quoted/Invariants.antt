-- The cycle of calls {plain, quoted}. Each one's measure is the bytes left; within a loop, what is read from i on is what is read from the start.
use Rattle.std.proofs.Common.{◌-◌, ◌≡◌, length, drop, ◌≤◌}
use Rattle.words.specs.Readers.{plain_from, quoted_from}
use Rattle.words.proofs.readers.+plain_quoted.Given as goal

abbrev pub decreases-plain : goal.decreases-plain
decreases-plain l = length l.line.now.now - l.at

abbrev pub decreases-quoted : goal.decreases-quoted
decreases-quoted l = length l.line.now.now - l.at

abbrev pub invariant-plain-loop-i : goal.invariant-plain-loop-i
invariant-plain-loop-i l = (l.at ≤ l.i) × (plain_from l.byte (drop l.i l.s) l.i ≡ plain_from l.byte (drop l.at l.s) l.at)

abbrev pub decreases-plain-loop-i : goal.decreases-plain-loop-i
decreases-plain-loop-i l = l.n - l.i

abbrev pub invariant-quoted-loop-i : goal.invariant-quoted-loop-i
invariant-quoted-loop-i l = (l.at ≤ l.i) × (quoted_from l.byte (drop l.i l.s) l.i l.opened ≡ quoted_from l.byte (drop l.at l.s) l.at l.opened)

abbrev pub decreases-quoted-loop-i : goal.decreases-quoted-loop-i
decreases-quoted-loop-i l = l.n - l.i
