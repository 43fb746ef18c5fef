-- The texts of a line, their counted size, and room.
use Rattle.std.specs.Prelude.{ℕ, ◌+◌, Bool, List, [], leb, eqb, length}
use Rattle.answers.specs.Pick.{pick}

-- a line, by its boot text, its init text and its capacity
pub record Text : Type 0 where
  pub boot : List ℕ
  pub init : List ℕ
  pub capacity : ℕ

-- the counted size of a boot text of b bytes and an init text of i: boot + 1, and + 4 + init if init is not empty
unfoldable pub size_of : ℕ → ℕ → ℕ
size_of b i = b + 1 + pick (eqb i 0) 0 (4 + i)

abbrev pub counted : Text → ℕ
counted t = size_of (length t.boot) (length t.init)

-- what an insertion into the boot text is charged beside its bytes: 1 if boot is not empty
unfoldable pub boot_gap : ℕ → ℕ
boot_gap b = pick (eqb b 0) 0 1

-- and one into the init text: 4 if init is empty, else 1
unfoldable pub init_gap : ℕ → ℕ
init_gap i = pick (eqb i 0) 4 1

-- is there room for n bytes more of boot text, of init text?
abbrev pub boot_room : Text → ℕ → Bool
boot_room t n = leb (counted t + boot_gap (length t.boot) + n) t.capacity

abbrev pub init_room : Text → ℕ → Bool
init_room t n = leb (counted t + init_gap (length t.init) + n) t.capacity

-- an empty line
abbrev pub empty : ℕ → Text
empty c = record { boot = []; init = []; capacity = c }

-- the same texts under another capacity
abbrev pub under : ℕ → Text → Text
under c t = record { boot = t.boot; init = t.init; capacity = c }
