-- A load in steps: how far it is, and the tests of every call.
use Rattle.std.specs.Prelude.{Bool, true, false, ◌&&◌, ◌||◌, List, [], ◌∷◌, ◌++◌, ℕ, ltb, eqb}
use Rattle.answers.specs.Pick.{pick}
use Rattle.answers.specs.Tests.{Test}
use Rattle.answers.specs.declared.Refusal.TheVariants.{NoBudget, LentChanged}
use Rattle.guest.specs.Lent.{lent_tests}
use Rattle.guest.specs.Room.{same_memory, whole_of}
use Rattle.guest.specs.declared.Memory.{Memory}
use Rattle.guest.specs.declared.Portion.{Portion}
use Rattle.loads.specs.declared.Progress.{Progress}
use Rattle.loads.specs.declared.Stage.{Stage}
use Rattle.loads.specs.declared.Stage.TheVariants.{Fresh, Copying, Done}

-- a load that is not started
abbrev pub fresh_progress : Progress
fresh_progress = record { stage = Fresh; image_len = 0; memory = whole_of 0; at = 0; done = 0 }

-- one that starts with an image of this length and this memory: at its first part, or at its end if it is refused
unfoldable pub begun_with : Bool → ℕ → Memory → Progress
begun_with loads len m = record { stage = pick loads Copying Done; image_len = len; memory = m; at = 0; done = 0 }

-- how far it is after a portion
unfoldable pub moved_to : Progress → Portion → Progress
moved_to g p =
    record {
      stage = pick p.all Done Copying;
      image_len = g.image_len;
      memory = g.memory;
      at = p.at;
      done = p.done;
    }

-- ---- the tests of a call, in order

unfoldable pub is_fresh : Stage → Bool
is_fresh Fresh = true
is_fresh Copying = false
is_fresh Done = false

-- the image's length and the memory are those of the first step, or this is it
unfoldable pub as_first : Progress → ℕ → Memory → Bool
as_first g len m = is_fresh g.stage || (eqb g.image_len len && same_memory g.memory m)

abbrev pub budget_tests : Progress → ℕ → Memory → ℕ → List Test
budget_tests g len m budget = (ltb 0 budget, NoBudget) ∷ (as_first g len m, LentChanged) ∷ []

abbrev pub step_tests : Progress → ℕ → Memory → ℕ → List Test
step_tests g len m budget = lent_tests len m ++ budget_tests g len m budget
