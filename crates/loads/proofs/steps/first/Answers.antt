-- `steps::first`: a load that is refused copies nothing.
use mathlib.Core.Path.{sym, ◌∙◌}
use Rattle.loads.proofs.StepsLaws.{first_stays}
use Rattle.loads.proofs.steps.first.Goals as goal

pub returns-then-not-is_ok : goal.returns-then-not-is_ok
returns-then-not-is_ok c =
    let args = c.args in
    first_stays args.image.now args.memory.now args.budget args.guest.now args.options c.plan-answer.ensures c.is_ok.ensures.value
    c.begin.ensures (rw (c.is_ok.ensures.value ∙ sym c.is_ok-2.ensures.value ∙ c.if-not-is_ok.true)) c.stay.ensures
