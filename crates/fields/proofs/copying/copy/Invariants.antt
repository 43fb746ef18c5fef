-- `copying::copy`: what is still to be stored, from i on, makes of dst what the whole makes of it as it was.
use Rattle.std.proofs.Common.{◌≡◌, ◌≤◌, ◌-◌, drop}
use Rattle.std.proofs.lemmas.List.Edits.{sets}
use Rattle.fields.proofs.copying.copy.Given as goal

abbrev pub invariant-loop-i : goal.invariant-loop-i
invariant-loop-i l = (l.i ≤ l.n) × (sets l.dst l.i (drop l.i l.src) ≡ sets l.initial.dst 0 l.src)

abbrev pub decreases-loop-i : goal.decreases-loop-i
decreases-loop-i l = l.n - l.i
