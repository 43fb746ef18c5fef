-- "No byte in a hole changes", of a load and of a step of any format, whatever the image, the map and the options, accepted or refused.
use Rattle.guest.specs.Answers.{Answer}
use Prim.Native.Nat.{ℕ}
use mathlib.Core.Path.{◌≡◌}
use mathlib.Core.Bool.{false}
use mathlib.Core.List.{List}
use lib.ListN.{get_or}
use Rattle.guest.specs.Maps.{ranges_of, in_ranges}
use Rattle.guest.specs.Room.{memory_of}
use Rattle.guest.specs.declared.Map.{Map}
use Rattle.guest.proofs.LoadingLaws.{hole_untouched}
use Rattle.loads.specs.Formats.{plan_of, LoadSays}
use Rattle.loads.specs.Steps.{step_plan, StepSays}
use Rattle.loads.specs.declared.Options.{Options}
use Rattle.loads.specs.declared.steps.State.{State}
use Rattle.loads.specs.declared.steps.Stepped.{Stepped}
use Rattle.loads.proofs.FormatsLaws.{plan_inside}
use Rattle.loads.proofs.StepsLaws.{plan_bounded}

pub holes_untouched : (image : List ℕ) (o : Options) (map : Map) (before after : List ℕ) {r : Answer} → LoadSays image o map before r after → (a : ℕ)
    → in_ranges (ranges_of map) a 1 ≡ false → get_or after a 0 ≡ get_or before a 0
holes_untouched image o map before after says =
    hole_untouched (plan_of image (memory_of before map) o) before after says map (plan_inside image (memory_of before map) o)

pub step_untouched : (image : List ℕ) (st : State) (b : ℕ) (map : Map) (before after : List ℕ) {r : Stepped} → StepSays image st b map before r after → (a : ℕ)
    → in_ranges (ranges_of map) a 1 ≡ false → get_or after a 0 ≡ get_or before a 0
step_untouched image st b map before after says =
    hole_untouched (step_plan image (memory_of before map) st b) before after says map (plan_bounded image (memory_of before map) st b).inside
