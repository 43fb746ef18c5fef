-- `writing::same_whole`: the bytes before i are the same, so the rest decides.
use Rattle.std.proofs.Common.{◌≡◌, drop}
use Rattle.cmdline.specs.Writing.{same_bytes, whole_line}
use Rattle.cmdline.proofs.writing.same_whole.Given as goal

abbrev pub invariant-loop-i : goal.invariant-loop-i
invariant-loop-i l =
    same_bytes (whole_line l.boot l.init) (whole_line l.boot2 l.init2) ≡ same_bytes (drop l.i (whole_line l.boot l.init)) (drop l.i (whole_line l.boot2 l.init2))
