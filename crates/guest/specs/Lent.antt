-- The tests of the image and of guest memory. These rows come before each loader's own.
use Rattle.std.specs.Prelude.{List, [], ◌∷◌, ℕ}
use Rattle.answers.specs.Tests.{Test}
use Rattle.answers.specs.declared.Refusal.TheVariants as refusal
use Rattle.guest.specs.Maps.{good_map}
use Rattle.guest.specs.Sizes.{allowed}
use Rattle.guest.specs.declared.Memory.{Memory}

-- of guest memory: its size, then its map
abbrev pub memory_tests : Memory → List Test
memory_tests m = (allowed m.size, refusal.SliceTooLong) ∷ (good_map m.size m.map, refusal.BadMap) ∷ []

-- of an image of this length, then of guest memory
abbrev pub lent_tests : ℕ → Memory → List Test
lent_tests imageLength m = (allowed imageLength, refusal.SliceTooLong) ∷ memory_tests m
