-- The whole load is the one step with a budget that is large enough, of a load of any format: from a load that is not started it leaves guest memory as the
-- load does, and replies with its answer.
use Rattle.guest.specs.Answers.{Answer}
use Prim.Native.Nat.{ℕ, ◌+◌, ◌≤◌, ◌<◌}
use mathlib.Core.Path.{◌≡◌, refl, sym, ◌∙◌, ap}
use mathlib.Core.Bool.{Bool}
use mathlib.Core.List.{List}
use native.Mathlib.Omega.{arith}
use borrow.Author.Tests.{le-leb}
use lib.ListN.{length}
use lib.Seq.{take_all}
use Rattle.answers.specs.Pick.{pick}
use Rattle.answers.specs.Tests.{AllHold}
use Rattle.guest.specs.Lent.{lent_tests}
use Rattle.guest.specs.Room.{memory_of}
use Rattle.guest.specs.Stream.{Poke, pour}
use Rattle.guest.specs.declared.Map.{Map}
use Rattle.loads.specs.Formats.{plan_of, LoadSays}
use Rattle.loads.specs.Portions.{total, none}
use Rattle.loads.specs.Steps.{fresh_state, reply_after, StepSays}
use Rattle.loads.specs.declared.Options.{Options}
use Rattle.loads.specs.declared.steps.Reply.TheVariants as reply
use Rattle.loads.specs.declared.steps.Stepped.{Stepped}
use Rattle.loads.proofs.InPortions.{in_portions}

pub whole_step : (image : List ℕ) (o : Options) (map : Map) (before : List ℕ) → AllHold (lent_tests (length image) (memory_of before map)) → (b : ℕ) → 0 < b
    → length (plan_of image (memory_of before map) o).stream ≤ b → {r : Stepped} {after : List ℕ} → StepSays image (fresh_state o) b map before r after
    → {a : Answer} {after' : List ℕ} → LoadSays image o map before a after' → (r.reply ≡ reply.Answers a) × (after ≡ after')
unfolding reply_after pick total
whole_step image o map before lent b positive enough says loads =
    let plan = plan_of image (memory_of before map) o in
    let here = (in_portions image (memory_of before map) o lent (fresh_state o) refl refl).next none b positive refl says in (
      here.reply
          ∙ ap (λ (x : Bool). reply_after x plan.answer) (le-leb (length plan.stream) (0 + b) (omega arith))
          ∙ ap reply.Answers (sym loads.answer),
      here.written ∙ ap (λ (ps : List Poke). pour ps before) (take_all b plan.stream enough) ∙ sym loads.memory,
    )
