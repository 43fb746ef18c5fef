-- Laws of the entry points of a load in steps: what they come to by how the tests of the call end, and by the reply.
use Rattle.answers.specs.Tests.{Check, pass}
use Rattle.std.specs.Prelude.{Result, Ok, Err}
use Rattle.std.specs.Result.{result_and}
use native.Mathlib.Omega.{arith}
use Prim.Native.Nat.{ℕ}
use mathlib.Core.Path.{◌≡◌, refl, sym, subst, ◌∙◌}
use mathlib.Core.List.{List}
use Rattle.answers.specs.Catalogue.{number_of}
use Rattle.answers.specs.declared.Refusal.{Refusal}
use Rattle.guest.specs.declared.Map.{Map}
use Rattle.capi.specs.States.{StepCall}

-- ---- a step

module _ {gate : Check} (image : List ℕ) (map : Map) (budget : ℕ) (guest numbers out : List ℕ) where
  pub call_refused : {g : Check} {refusal : Refusal} {r : ℕ} → g ≡ gate → g ≡ Err refusal → r ≡ number_of refusal
      → StepCall gate image map budget guest numbers out r guest numbers out
  call_refused {r = r} eg es er =
      subst (λ (x : Check). StepCall x image map budget guest numbers out r guest numbers out) (sym es ∙ eg)
      (record { answer = er; memory = refl; state = refl; told = refl })

-- ---- a value after checks

-- if it comes to a value, the checks were passed
pub and_ok : {A : Type 0} (g : Check) {x y : A} {r : Result A Refusal} → r ≡ result_and g (Ok x) → r ≡ Ok y → (g ≡ pass) × (x ≡ y)
and_ok {A} (Ok _) {x} {y} is e = let both : ◌≡◌ {A = Result A Refusal} (Ok x) (Ok y) = sym is ∙ e in (refl, cc)
and_ok {A} (Err s) {x} {y} is e = let both : ◌≡◌ {A = Result A Refusal} (Err s) (Ok y) = sym is ∙ e in let z : ◌≡◌ {A = ℕ} 0 1 = cc in absurd (omega arith)

-- if it comes to a refusal, they refused
pub and_err : {A : Type 0} (g : Check) (x : A) {s : Refusal} {r : Result A Refusal} → r ≡ result_and g (Ok x) → r ≡ Err s → g ≡ Err s
and_err {A} (Ok _) x {s} is e = let both : ◌≡◌ {A = Result A Refusal} (Ok x) (Err s) = sym is ∙ e in let z : ◌≡◌ {A = ℕ} 0 1 = cc in absurd (omega arith)
and_err {A} (Err q) x {s} is e = let both : ◌≡◌ {A = Result A Refusal} (Err q) (Err s) = sym is ∙ e in cc
