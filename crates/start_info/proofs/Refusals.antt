-- The sentence "after 60 (and 77) a list that is none of rows is 61, and a written part outside guest memory, two of them overlapping, or a list of 2^32
-- rows or more is 76 with nothing written": all is written exactly where every test holds, and a refusal is that of the first test that fails.
use Rattle.std.specs.Prelude.{Ok, Err}
use Prim.Native.Nat.{ℕ}
use mathlib.Core.Path.{◌≡◌, sym, ◌∙◌, ap, subst}
use mathlib.Core.List.{List}
use native.Mathlib.Omega.{arith}
use Rattle.answers.specs.Catalogue.{number_of}
use Rattle.answers.specs.Tests.{Test, AllHold, FirstFails, Check, pass}
use Rattle.answers.specs.declared.Refusal.{Refusal}
use Rattle.guest.specs.Loading.{Plan}
use Rattle.guest.specs.Room.{memory_of}
use Rattle.guest.specs.Stream.{pour}
use Rattle.guest.specs.declared.Map.{Map}
use Rattle.guest.proofs.LoadingLaws.{all_planned, first_planned, behind_with, nothing_written}
use Rattle.start_info.specs.declared.Start.{Start}
use Rattle.start_info.specs.Answers.{gate_number}
use Rattle.start_info.specs.Writing.{tests, start_plan, plan_of, Writes}

module _ (start : Start) (modules ranges : List ℕ) (map : Map) (before : List ℕ) {r : Check} {after : List ℕ}
    (writes : Writes start modules ranges map before r after) where
  abbrev row : List Test
  row = tests (memory_of before map) start modules ranges

  abbrev plan : Plan Check
  plan = start_plan start modules ranges

  pub written_where : AllHold row → (r ≡ pass) × (after ≡ pour plan.stream before)
  written_where h = let e = all_planned Err row plan h in (writes.answer ∙ ap (λ (p : Plan Check). p.answer) e, writes.memory ∙ ap (λ (p : Plan Check). pour p.stream before) e)

  pub refused_where : {refusal : Refusal} → FirstFails refusal row → r ≡ Err refusal
  refused_where f = writes.answer ∙ ap (λ (p : Plan Check). p.answer) (first_planned Err row plan f)

  pub where_written : r ≡ pass → AllHold row
  where_written e =
      behind_with Err row plan (λ p. p.answer ≡ (Ok _) → AllHold row) (λ hold _. hold) (λ refusal fails is. let z : ◌≡◌ {A = ℕ} 0 1 = cc in absurd (omega arith))
      (sym writes.answer ∙ e)

  pub where_refused : {refusal : Refusal} → r ≡ Err refusal → FirstFails refusal row
  where_refused {refusal} e =
      behind_with Err row plan (λ p. p.answer ≡ Err refusal → FirstFails refusal row) (λ hold is. let z : ◌≡◌ {A = ℕ} 0 1 = cc in absurd (omega arith))
      (λ first fails is. let same : ◌≡◌ {A = Refusal} first refusal = cc in subst (λ x. FirstFails x row) same fails) (sym writes.answer ∙ e)

  -- whatever refuses, guest memory is as it was
  pub refused_untouched : {refusal : Refusal} → r ≡ Err refusal → after ≡ before
  refused_untouched e =
      nothing_written (plan_of (memory_of before map) start modules ranges) before after writes
      (ap (λ (p : Plan Check). p.stream) (first_planned Err row plan (where_refused e)))

  -- the same by the catalogue
  pub number_written : AllHold row → gate_number r ≡ 0
  unfolding gate_number
  number_written h = ap gate_number (written_where h).0

  pub refused_number : {refusal : Refusal} → FirstFails refusal row → gate_number r ≡ number_of refusal
  unfolding gate_number
  refused_number f = ap gate_number (refused_where f)
