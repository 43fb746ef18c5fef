-- `saved::read`: the sizes, what is kept, the format and the answer; a row that passed leaves the answer to the next.
use Prim.Native.Nat.{ℕ}
use mathlib.Core.Path.{◌≡◌, sym, ◌∙◌, ap}
use mathlib.Core.List.{List, ◌++◌}
use lib.ListN.{get_or}
use Rattle.std.specs.Prelude.{Ok, Err}
use Rattle.std.specs.Result.{result_and}
use Rattle.std.proofs.lemmas.Result.{err_from_is_err_and}
use Rattle.answers.specs.Tests.{Test, asked_all, pass, Check}
use Rattle.answers.specs.declared.Refusal.{Refusal}
use Rattle.answers.proofs.TestsLaws.{shut_stays}
use Rattle.capi.specs.Options.{format_tests}
use Rattle.capi.specs.Saved.{kept_tests, kept_in}
use Rattle.capi.specs.States.{step_gate, answer_tests, answer_in, state_in}
use Rattle.capi.proofs.StatesLaws.{and_ok, and_err}
use Rattle.capi.proofs.saved.read.Goals as goal

abbrev kept : List ℕ → Check
kept numbers = asked_all pass (kept_tests numbers)

abbrev format : ℕ → Check
format n = asked_all pass (format_tests n)

abbrev answer : List ℕ → Check
answer numbers = asked_all pass (answer_tests numbers)

-- a refusal stands, whatever tests follow
refused : (numbers : List ℕ) (rest : List Test) {r : Refusal} → Err r ≡ result_and (asked_all (Err r) rest) (Ok (state_in numbers))
refused numbers rest {r} = ap (λ (g : Check). result_and g (Ok (state_in numbers))) (sym (shut_stays rest r))

pub returns-in_err-kept : goal.returns-in_err-kept
unfolding step_gate
returns-in_err-kept c =
    let numbers = c.args.numbers.now in
    let p = err_from_is_err_and c.from_residual-in_err-kept.result c.from_residual-in_err-kept.ensures.1 in
    rw (
      sym c.require.ensures ∙ c.in_ok-require.was,
      sym c.require-2.ensures ∙ c.in_ok-require-2.was,
      and_err (kept numbers) (kept_in numbers) c.read.ensures c.in_err-kept.was,
      p.1,
      p.2,
    )
    (refused numbers (format_tests (get_or numbers 42 0) ++ answer_tests numbers))

pub returns-in_err-ask_format : goal.returns-in_err-ask_format
unfolding step_gate
returns-in_err-ask_format c =
    let numbers = c.args.numbers.now in
    let p = err_from_is_err_and c.from_residual-in_err-ask_format.result c.from_residual-in_err-ask_format.ensures.1 in
    rw (
      sym c.require.ensures ∙ c.in_ok-require.was,
      sym c.require-2.ensures ∙ c.in_ok-require-2.was,
      (and_ok (kept numbers) c.read.ensures c.in_ok-kept.was).0,
      sym (c.ask_format.ensures ∙ ap format c.number_at-format.ensures) ∙ c.in_err-ask_format.was,
      p.1,
      p.2,
    )
    (refused numbers (answer_tests numbers))

pub returns-in_err-answer : goal.returns-in_err-answer
unfolding step_gate
returns-in_err-answer c =
    let numbers = c.args.numbers.now in
    let p = err_from_is_err_and c.from_residual-in_err-answer.result c.from_residual-in_err-answer.ensures.1 in
    rw (
      sym c.require.ensures ∙ c.in_ok-require.was,
      sym c.require-2.ensures ∙ c.in_ok-require-2.was,
      (and_ok (kept numbers) c.read.ensures c.in_ok-kept.was).0,
      sym c.number_at-format.ensures,
      sym c.ask_format.ensures ∙ c.in_ok-ask_format.was,
      and_err (answer numbers) (answer_in numbers) c.read_answer.ensures c.in_err-answer.was,
      p.1,
      p.2,
    )

pub returns : goal.returns
unfolding step_gate
returns c =
    let numbers = c.args.numbers.now in
    let first = and_ok (kept numbers) c.read.ensures c.in_ok-kept.was in
    let third = and_ok (answer numbers) c.read_answer.ensures c.in_ok-answer.was in
    rw (
      sym c.require.ensures ∙ c.in_ok-require.was,
      sym c.require-2.ensures ∙ c.in_ok-require-2.was,
      first.0,
      sym c.number_at-format.ensures,
      sym c.ask_format.ensures ∙ c.in_ok-ask_format.was,
      third.0,
      sym first.1,
      sym third.1,
      c.format_of.ensures,
    )
