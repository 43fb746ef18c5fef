-- `survey::survey`: what is left of the survey, from header i on, is the whole survey.
use mathlib.Core.Path.{◌≡◌, ◌∙◌}
use native.Mathlib.Omega.{arith}
use Rattle.std.specs.Prelude.{Err}
use Rattle.std.proofs.Common.{rules}
use Rattle.guest.specs.Room.{room}
use Rattle.elf.proofs.SurveyLaws.{survey_turn, survey_end}
use Rattle.elf.proofs.survey.survey.Goals as goal

pub returns-in_err-effect : goal.returns-in_err-effect
returns-in_err-effect c =
    let args = c.args in
    let at_turn = c.loop-i in
    let refused : c.from_residual.result ≡ Err c.in_err-effect.field-0.0 = search rules in
    refused
    ∙ survey_turn args.image.now (room args.memory.now) args.offset at_turn.i at_turn.result (omega arith)
    c.read_header-h.ensures c.examine.ensures c.in_err-effect.was at_turn.invariant

pub loop-i-preserved : goal.loop-i-preserved
loop-i-preserved c =
    let args = c.args in
    let at_turn = c.loop-i in
    rw c.advance-result.ensures
    (survey_turn args.image.now (room args.memory.now) args.offset at_turn.i at_turn.result (omega arith)
    c.read_header-h.ensures c.examine.ensures c.in_ok-effect.was at_turn.invariant)

pub returns : goal.returns
returns c =
    let at-end = c.loop-i in
    survey_end c.args.image.now (room c.args.memory.now) c.args.offset at-end.i at-end.result (omega arith) ∙ at-end.invariant
