-- Laws of the checks of a line.
use Rattle.std.specs.Prelude.{Err}
use Prim.Native.Nat.{ℕ}
use mathlib.Core.Path.{◌≡◌, sym, ◌∙◌}
use Rattle.answers.specs.declared.Refusal.{Refusal}
use Rattle.answers.specs.Tests.{asked_all, Check, pass}
use Rattle.answers.proofs.TestsLaws.{all_open, first_shut}
use Rattle.cmdline.specs.Text.{Text}
use Rattle.guest.specs.declared.Memory.{Memory}
use Rattle.loader.specs.Lines as lines
use Rattle.loader.proofs.LinesLaws.{plan_loaded, plan_refused}

-- the checks of a line, by what its plan answers
module _ (t : Text) (m : Memory) (address : ℕ) where
  pub line_passes : {r : Check} → r ≡ (lines.plan_of t m address).answer → r ≡ pass → asked_all pass (lines.tests t m address) ≡ pass
  line_passes is e = all_open (lines.tests t m address) (plan_loaded t m address (sym is ∙ e))

  pub line_refuses : {r : Check} {refusal : Refusal} → r ≡ (lines.plan_of t m address).answer → r ≡ Err refusal
      → asked_all pass (lines.tests t m address) ≡ Err refusal
  line_refuses {refusal = refusal} is e = first_shut (lines.tests t m address) refusal (plan_refused t m address (sym is ∙ e))
