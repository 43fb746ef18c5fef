-- How a line is made. A constructor that refuses returns no line; in a row of calls (`specs/Calls`) the calls after it
-- continue from an empty line of capacity 0.
use Rattle.std.specs.Prelude.{ℕ, List, [], ◌∷◌, leb, length}
use Rattle.answers.specs.Tests.{Test}
use Rattle.answers.specs.declared.Refusal.TheVariants as refusal
use Rattle.cmdline.specs.Limit.{allowed}
use Rattle.cmdline.specs.Text.{Text, empty, size_of}
use Rattle.cmdline.specs.Insertion.{Plan}
use Rattle.slugs.specs.Splitting.{boot_part, init_part}

-- a capacity that is allowed
unfoldable pub new : ℕ → Plan
new c = record { tests = (allowed c, refusal.InvalidCapacity) ∷ []; text = empty c }

-- the two parts of a text
abbrev pub parted : List ℕ → ℕ → Text
parted s c = record { boot = boot_part s; init = init_part s; capacity = c }

-- the tests of the numbers of a line, texts of b and i bytes and a capacity of c: a capacity that is allowed, then a
-- counted size within it
abbrev pub size_tests : ℕ → ℕ → ℕ → List Test
size_tests b i c = (allowed c, refusal.InvalidCapacity) ∷ (leb (size_of b i) c, refusal.InvalidCapacity) ∷ []

-- a capacity that is allowed, then that the two parts fit
unfoldable pub try_from : List ℕ → ℕ → Plan
try_from s c = record { tests = size_tests (length (boot_part s)) (length (init_part s)) c; text = parted s c }
