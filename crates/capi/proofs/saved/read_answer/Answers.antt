-- `saved::read_answer`: PVH first, then whether the number is an answer's.
use mathlib.Core.Path.{sym}
use borrow.Author.Tests.{eq-eqb, ne_eqb}
use lib.Dec.{leb}
use Rattle.std.proofs.lemmas.Option.{MatchOption-at_some, MatchOption-at_none}
use Rattle.std.specs.Prelude.{◌≡◌, ◌≢◌}
use Rattle.answers.specs.Pick.{pick}
use Rattle.answers.specs.Catalogue.{number_of}
use Rattle.answers.specs.Tests.{asked, pass}
use Rattle.answers.specs.declared.Refusal.{Refusal}
use Rattle.answers.specs.declared.Refusal.TheVariants.{BadList}
use Rattle.capi.specs.Refusals.{is_known}
use Rattle.capi.specs.States.{answer_from}
use Rattle.capi.proofs.RefusalsLaws.{is_number, no_number}
use Rattle.capi.proofs.StatesLaws.{and_ok}
use Rattle.capi.proofs.saved.read_answer.Goals as goal

pub returns-then-number-eq0 : goal.returns-then-number-eq0
unfolding asked pick answer_from is_known
returns-then-number-eq0 c =
    let n = c.number_at-number.result in
    let passed = and_ok (asked pass (leb c.number_at.result 2) BadList) c.pvh_of.ensures c.in_ok-pvh_boot_cap.was in
    rw (
      sym c.number_at.ensures,
      passed.0,
      sym c.number_at-number.ensures,
      eq-eqb n 0 c.if-number-eq0.true,
      sym c.number_at-then-number-eq0.ensures,
      sym c.number_at-then-number-eq0-2.ensures,
      sym passed.1,
      c.number_at-2.ensures,
      c.number_at-3.ensures,
      c.number_at-4.ensures,
    )

pub returns-in-Some : goal.returns-in-Some
unfolding asked pick answer_from
returns-in-Some c =
    let n = c.number_at-number.result in
    let passed = (and_ok (asked pass (leb c.number_at.result 2) BadList) c.pvh_of.ensures c.in_ok-pvh_boot_cap.was).0 in
    let known = is_number n (MatchOption-at_some ((refusal : Refusal) → number_of refusal ≢ n) (λ refusal. number_of refusal ≡ n) c.in-Some.refusal c.in-Some.is c.by_number.ensures) in
    rw (sym c.number_at.ensures, passed, sym c.number_at-number.ensures, known.1, ne_eqb n 0 c.if-number-eq0.false, known.0)

pub returns-in-None : goal.returns-in-None
unfolding asked pick
returns-in-None c =
    let n = c.number_at-number.result in
    let passed = (and_ok (asked pass (leb c.number_at.result 2) BadList) c.pvh_of.ensures c.in_ok-pvh_boot_cap.was).0 in
    let unknown = no_number n c.if-number-eq0.false (MatchOption-at_none ((refusal : Refusal) → number_of refusal ≢ n) (λ refusal. number_of refusal ≡ n) c.in-None.is c.by_number.ensures) in
    rw (sym c.number_at.ensures, passed, sym c.number_at-number.ensures, unknown)
