-- Laws of the plan of a boot, however it is entered.
use Rattle.std.specs.Prelude.{Ok, Err, Result}
use Prim.Native.Nat.{ℕ}
use mathlib.Core.Path.{◌≡◌, sym, ◌∙◌, refl, ap}
use mathlib.Core.List.{List, []}
use native.Mathlib.Omega.{arith}
use Rattle.answers.specs.Tests.{Test, asked_all, AllHold, Check, pass}
use Rattle.answers.specs.declared.Refusal.{Refusal}
use Rattle.guest.specs.Loading.{Plan, refused_plan, behind_gate, behind_tests}
use Rattle.guest.specs.Stream.{Poke}
use Rattle.guest.specs.declared.KernelLoaderResult.{KernelLoaderResult}
use Rattle.guest.proofs.LoadingLaws.{behind_with}
use Rattle.boot.specs.Plan.{booted_at, plan_by, Answer}
use Rattle.boot.specs.declared.Booted as result

module _ (row : KernelLoaderResult → List Test) (entry : KernelLoaderResult → ℕ) (stream : KernelLoaderResult → List Poke) where
  abbrev whole : KernelLoaderResult → Plan Answer
  whole k = record { answer = booted_at k (entry k); stream = stream k }

  -- a plan is a refusal, or the whole after all checks held
  pub plan_with : (P : Plan Answer → Type 0) (a : Result KernelLoaderResult Refusal) → ((k : KernelLoaderResult) → a ≡ Ok k → AllHold (row k) → P (whole k))
      → ((r : Refusal) → P (refused_plan Err r)) → P (plan_by a row entry stream)
  plan_with P (Ok k) holds fails = behind_with Err (row k) (whole k) P (holds k refl) (λ r _. fails r)
  plan_with P (Err r) holds fails = fails r

  -- an accepted one: its kernel, the checks, the answer and the whole plan
  pub record BootedBy (a : Result KernelLoaderResult Refusal) (b : result.Booted) (p : Plan Answer) : Type 0 where
    pub k : KernelLoaderResult
    pub loads : a ≡ Ok k
    pub hold : AllHold (row k)
    pub is : b ≡ record { kernel = k; entry = record { 0 = entry k } }
    pub planned : p ≡ whole k

  pub booted_by : (a : Result KernelLoaderResult Refusal) {b : result.Booted} → (plan_by a row entry stream).answer ≡ Ok b → BootedBy a b (plan_by a row entry stream)
  booted_by a {b} =
      plan_with (λ p. p.answer ≡ Ok b → BootedBy a b p) a
      (λ k loads hold e.
      let same : ◌≡◌ {A = result.Booted} (record { kernel = k; entry = record { 0 = entry k } }) b = cc in
      record { k = k; loads = loads; hold = hold; is = sym same; planned = refl })
      (λ r e. let z : ◌≡◌ {A = ℕ} 0 1 = cc in absurd (omega arith))

  pub refused_nothing : (a : Result KernelLoaderResult Refusal) {r : Refusal} → (plan_by a row entry stream).answer ≡ Err r → (plan_by a row entry stream).stream ≡ []
  refused_nothing a {r} =
      plan_with (λ p. p.answer ≡ Err r → p.stream ≡ []) a
      (λ k _ _ e. let z : ◌≡◌ {A = ℕ} 0 1 = cc in absurd (omega arith)) (λ _ _. refl)

  -- ---- the answer, as code works it out

  pub answer_kernel : {a x : Result KernelLoaderResult Refusal} {r : Refusal} → x ≡ a → x ≡ Err r → Err r ≡ (plan_by a row entry stream).answer
  answer_kernel ex e = sym (ap (λ (y : Result KernelLoaderResult Refusal). (plan_by y row entry stream).answer) (sym ex ∙ e))

  -- after the kernel's own load: the refusal of the checks, or the entry address
  by_checks : {a x : Result KernelLoaderResult Refusal} {k : KernelLoaderResult} {g : Check} → x ≡ a → x ≡ Ok k → g ≡ asked_all pass (row k)
      → (plan_by a row entry stream).answer ≡ (behind_gate Err g (whole k)).answer
  unfolding behind_tests
  by_checks {k = k} ex e eg =
      ap (λ (y : Result KernelLoaderResult Refusal). (plan_by y row entry stream).answer) (sym ex ∙ e)
      ∙ ap (λ (y : Check). (behind_gate Err y (whole k)).answer) (sym eg)

  pub answer_refused : {a x : Result KernelLoaderResult Refusal} {k : KernelLoaderResult} {g : Check} {r : Refusal} → x ≡ a → x ≡ Ok k
      → g ≡ asked_all pass (row k) → g ≡ Err r → Err r ≡ (plan_by a row entry stream).answer
  answer_refused {k = k} ex e eg er = sym (by_checks ex e eg ∙ ap (λ (y : Check). (behind_gate Err y (whole k)).answer) er)

  pub answer_accepted : {a x : Result KernelLoaderResult Refusal} {k : KernelLoaderResult} {g : Check} {at : ℕ} → x ≡ a → x ≡ Ok k
      → g ≡ asked_all pass (row k) → g ≡ pass → at ≡ entry k → booted_at k at ≡ (plan_by a row entry stream).answer
  answer_accepted {k = k} ex e eg eo ea =
      ap (booted_at k) ea ∙ sym (by_checks ex e eg ∙ ap (λ (y : Check). (behind_gate Err y (whole k)).answer) eo)

-- two plans with the same checks answer the same, whatever they write
pub same_answer : (row : KernelLoaderResult → List Test) (entry : KernelLoaderResult → ℕ) (s s' : KernelLoaderResult → List Poke) (a : Result KernelLoaderResult Refusal)
    → (plan_by a row entry s).answer ≡ (plan_by a row entry s').answer
unfolding behind_tests
same_answer row entry s s' (Err r) = refl
same_answer row entry s s' (Ok k) = by (asked_all pass (row k))
  where
    by : (g : Check) → (behind_gate Err g (whole row entry s k)).answer ≡ (behind_gate Err g (whole row entry s' k)).answer
    by (Ok _) = refl
    by (Err r) = refl
