-- `survey::survey`: what is left of the survey, from header i on, is the whole survey.
use Prim.Native.Nat.{◌-◌}
use mathlib.Core.Path.{◌≡◌}
use Rattle.guest.specs.Room.{room}
use Rattle.elf.specs.Survey.{survey_from}
use Rattle.elf.proofs.survey.survey.Given as goal

abbrev pub invariant-loop-i : goal.invariant-loop-i
invariant-loop-i l = survey_from (l.n - l.i) l.image (room l.memory) l.offset l.i l.result ≡ survey_from l.n l.image (room l.memory) l.offset 0 l.initial.result
