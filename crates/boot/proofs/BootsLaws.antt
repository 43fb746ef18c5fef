-- Laws of a boot by its plan: what is answered and written, however the kernel is entered.
use Rattle.std.specs.Prelude.{Ok, Err, Result}
use Prim.Native.Nat.{ℕ}
use mathlib.Core.Path.{◌≡◌, sym, ◌∙◌, ap}
use mathlib.Core.List.{List, []}
use Rattle.answers.specs.Tests.{Test, AllHold}
use Rattle.answers.specs.declared.Refusal.{Refusal}
use Rattle.guest.specs.Loading.{Plan, Loads}
use Rattle.guest.specs.Stream.{Poke, pour}
use Rattle.guest.specs.declared.KernelLoaderResult.{KernelLoaderResult}
use Rattle.boot.specs.Plan.{plan_by, Answer}
use Rattle.boot.specs.declared.Booted as result
use Rattle.boot.proofs.PlanLaws.{booted_by, refused_nothing, same_answer}

module _ (row : KernelLoaderResult → List Test) (entry : KernelLoaderResult → ℕ)
    (stream : KernelLoaderResult → List Poke) (a : Result KernelLoaderResult Refusal) where
  abbrev nothing : KernelLoaderResult → List Poke
  nothing k = []

  abbrev plan : Plan Answer
  plan = plan_by a row entry stream

  -- the answer, which is worked out before anything is written, is that of the whole plan
  as_planned : {answer : Answer} → answer ≡ (plan_by a row entry nothing).answer → answer ≡ plan.answer
  as_planned ea = ea ∙ same_answer row entry nothing stream a

  -- a refusal leaves guest memory as it was
  pub refused_loads : (guest : List ℕ) {answer : Answer} {r : Refusal} → answer ≡ (plan_by a row entry nothing).answer
      → answer ≡ Err r
      → Loads plan guest (Err r) guest
  unfolding pour
  refused_loads guest ea e =
      let is = sym e ∙ as_planned ea in
      record {
        answer = is;
        memory = sym
            (ap (λ (ps : List Poke). pour ps guest) (refused_nothing row entry stream a (sym is)));
      }

  -- a boot writes the stream, of a kernel that is loaded and checks that hold
  pub booted_loads : (guest after : List ℕ) {answer : Answer} {b : result.Booted}
      → answer ≡ (plan_by a row entry nothing).answer → answer ≡ Ok b
      → ((k : KernelLoaderResult) → a ≡ Ok k → AllHold (row k) → after ≡ pour (stream k) guest)
      → Loads plan guest (Ok b) after
  booted_loads guest after ea e written =
      let by = booted_by row entry stream a (sym (as_planned ea) ∙ e) in
      record {
        answer = sym e ∙ as_planned ea;
        memory = written by.k by.loads by.hold
            ∙ sym (ap (λ (p : Plan Answer). pour p.stream guest) by.planned);
      }
