-- What checking a block answers, no matter who wrote it, and what reading its numbers answers and leaves.
use Rattle.std.specs.Prelude.{ℕ, ◌+◌, ◌*◌, ◌≡◌, List, [], ◌∷◌, ◌++◌, eqb, length, Err}
use Rattle.answers.specs.Pick.{pick}
use Rattle.answers.specs.Tests.{Test, asked_all, Check, pass}
use Rattle.answers.specs.declared.Refusal.TheVariants.{BadPart, BadStartMagic, BadStartVersion, BadStartReserved, NoRoom}
use Rattle.fields.specs.Numbers.{le}
use Rattle.fields.specs.Rows.{field_width, rows_numbers, row_length}
use Rattle.guest.specs.Lent.{memory_tests}
use Rattle.guest.specs.Room.{room_for, memory_of}
use Rattle.guest.specs.declared.Map.{Map}
use Rattle.guest.specs.declared.Memory.{Memory}
use Rattle.start_info.specs.Kinds.{block_widths, module_widths, range_widths, magic, version, block_fields, block_size, version_at, module_count_at, modules_at, ranges_at, range_count_at, reserved_at, row_fields, reserved_are_zero}

-- the numbers of so many rows at an address
abbrev pub rows_in : List ℕ → List ℕ → ℕ → ℕ → List ℕ
rows_in widths guest address count = rows_numbers (field_width widths) (count * row_fields) guest address 0

-- ---- the tests, in their order

-- the block lies in guest memory; magic, version and its reserved field are right
abbrev pub block_tests : Memory → List ℕ → ℕ → List Test
block_tests m guest block =
    (room_for m block block_size, BadPart)
    ∷ (eqb (le 4 guest block) magic, BadStartMagic)
    ∷ (eqb (le 4 guest (block + version_at)) version, BadStartVersion)
    ∷ (eqb (le 4 guest (block + reserved_at)) 0, BadStartReserved)
    ∷ []

-- a list of so many rows lies in guest memory, and its reserved fields are 0
abbrev pub rows_tests : List ℕ → Memory → List ℕ → ℕ → ℕ → List Test
rows_tests widths m guest address count =
    (room_for m address (count * row_length widths), BadPart) ∷ (reserved_are_zero (rows_in widths guest address count), BadStartReserved) ∷ []

-- the block, the modules and the memory map, where the block says that they are
abbrev pub start_tests : Memory → List ℕ → ℕ → List Test
start_tests m guest block =
    block_tests m guest block
    ++ rows_tests module_widths m guest (le 8 guest (block + modules_at)) (le 4 guest (block + module_count_at))
    ++ rows_tests range_widths m guest (le 8 guest (block + ranges_at)) (le 4 guest (block + range_count_at))

abbrev pub check_tests : Memory → List ℕ → ℕ → List Test
check_tests m guest block = memory_tests m ++ start_tests m guest block

-- what checking returns: `pass` if the block is accepted, else the refusal of the first test that fails
abbrev pub check_of : Map → List ℕ → ℕ → Check
check_of map guest block = asked_all pass (check_tests (memory_of guest map) guest block)

-- ---- reading the numbers of a block into a list that held `before`: it has ten elements, or nothing is read

pub record BlockReads (guest : List ℕ) (block : ℕ) (before : List ℕ) (r : Check) (after : List ℕ) : Type 0 where
  pub answer : r ≡ pick (eqb (length before) block_fields) pass (Err NoRoom)
  pub numbers : after ≡ pick (eqb (length before) block_fields) (rows_numbers (field_width block_widths) block_fields guest block 0) before
