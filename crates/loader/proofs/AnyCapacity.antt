-- Loading a line does not look at its capacity: it is one of the calls that `larger_capacity` (crate cmdline) speaks of, what it says and leaves
-- being worked out from the two texts alone. `load_is_call` is the theorem.
use Rattle.answers.specs.Tests.{Check}
use Prim.Native.Nat.{ℕ}
use mathlib.Core.Path.{◌≡◌, sym, ap, ◌∙◌}
use mathlib.Core.List.{List, ◌∷◌}
use Rattle.guest.specs.Room.{memory_of}
use Rattle.guest.specs.declared.Map.{Map}
use Rattle.cmdline.specs.Text.{Text}
use Rattle.cmdline.specs.Calls.{tells, told, calling}
use Rattle.loader.specs.Lines.{plan_of, LineLoads, line_number, load_told}

pub load_is_call : (t : Text) (address : ℕ) (map : Map) (guest : List ℕ) {r : Check} {after : List ℕ} → LineLoads t address map guest r after
    → (calling (tells (load_told address map guest)) t).said ≡ told (line_number r ∷ after)
unfolding calling load_told
load_is_call t address map guest {r} {after} loads =
    sym
    (ap (λ (a : Check). told (line_number a ∷ after)) loads.answer
    ∙ ap (λ (g : List ℕ). told (line_number (plan_of t (memory_of guest map) address).answer ∷ g)) loads.memory)
