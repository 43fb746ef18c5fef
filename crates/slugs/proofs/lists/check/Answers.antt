-- `lists::check`: the tests of the values before this one hold, so the rest decides.
use Rattle.std.proofs.Common.{◌∙◌, ◌≡◌, ap, sym, refl, rules, Err}
use Rattle.answers.specs.Tests.{pass, asked_all}
use Rattle.slugs.specs.Values.{value_tests}
use Rattle.slugs.proofs.ListsLaws.{tests_on, tests_stop, tests_end}
use Rattle.slugs.proofs.lists.check.Goals as goal

pub loop-end-init : goal.loop-end-init
loop-end-init c = refl

pub returns-in_err-check : goal.returns-in_err-check
returns-in_err-check c =
    let failed = ap (λ s. asked_all pass (value_tests s)) (sym c.value_at.ensures) ∙ sym c.check.ensures ∙ c.in_err-check.was in
    let stop = sym (tests_stop c.args.ends.now c.args.values.now c.loop-end.at c.loop-end.end-index c.loop-end-test.true failed) ∙ c.loop-end.invariant in
    let same : c.from_residual.result ≡ Err c.in_err-check.field-0.0 = search rules in
    same ∙ stop

pub loop-end-preserved : goal.loop-end-preserved
loop-end-preserved c =
    let held = ap (λ s. asked_all pass (value_tests s)) (sym c.value_at.ensures) ∙ sym c.check.ensures ∙ c.in_ok-check.was in
    sym (tests_on c.args.ends.now c.args.values.now c.loop-end.at c.loop-end.end-index c.loop-end-test.true held) ∙ c.loop-end.invariant

pub returns : goal.returns
returns c =
    sym (tests_end c.args.ends.now c.args.values.now c.loop-end.at c.loop-end.end-index c.loop-end-test.false) ∙ c.loop-end.invariant
