-- The start block that is written with its lists, and what writing it answers and leaves.
use Rattle.std.specs.Prelude.{ℕ, ◌+◌, List, [], ◌∷◌, ◌++◌, ltb, Err}
use Rattle.answers.specs.Tests.{Test, Check, pass}
use Rattle.answers.specs.declared.Refusal.TheVariants.{BadList, BadPart}
use Rattle.fields.specs.Ranges.{apart}
use Rattle.fields.specs.Rows.{field_width, rows_bytes, are_rows}
use Rattle.guest.specs.Lent.{memory_tests}
use Rattle.guest.specs.Loading.{Plan, Loads, behind_tests}
use Rattle.guest.specs.Room.{room_for, memory_of}
use Rattle.guest.specs.Stream.{Poke, stream_at}
use Rattle.guest.specs.declared.Map.{Map}
use Rattle.guest.specs.declared.Memory.{Memory}
use Rattle.start_info.specs.declared.Start.{Start}
use Rattle.start_info.specs.Kinds.{block_widths, module_widths, range_widths, magic, version, block_size, count_of, reserved_are_zero}
use Rattle.start_info.specs.Parts.{count_end, list_size}

-- ---- the tests, in their order

-- a list is one of rows, each number fits its field, and in a reserved field that is 0 alone
abbrev pub list_tests : List ℕ → List ℕ → List Test
list_tests widths rows = (are_rows widths rows, BadList) ∷ (reserved_are_zero rows, BadList) ∷ []

-- neither list has 2^32 rows, each part lies in guest memory, and no two overlap
abbrev pub part_tests : Memory → Start → List ℕ → List ℕ → List Test
part_tests m start modules ranges =
    (ltb (count_of modules) count_end, BadPart)
    ∷ (ltb (count_of ranges) count_end, BadPart)
    ∷ (room_for m start.block.0 block_size, BadPart)
    ∷ (room_for m start.modules.0 (list_size module_widths modules), BadPart)
    ∷ (room_for m start.ranges.0 (list_size range_widths ranges), BadPart)
    ∷ (apart start.block.0 block_size start.modules.0 (list_size module_widths modules), BadPart)
    ∷ (apart start.block.0 block_size start.ranges.0 (list_size range_widths ranges), BadPart)
    ∷ (apart start.modules.0 (list_size module_widths modules) start.ranges.0 (list_size range_widths ranges), BadPart)
    ∷ []

abbrev pub tests : Memory → Start → List ℕ → List ℕ → List Test
tests m start modules ranges =
    memory_tests m ++ list_tests module_widths modules ++ list_tests range_widths ranges ++ part_tests m start modules ranges

-- ---- what is written

-- the numbers of the block
abbrev pub block_of : Start → List ℕ → List ℕ → List ℕ
block_of start modules ranges =
    magic
    ∷ version
    ∷ start.flags
    ∷ count_of modules
    ∷ start.modules.0
    ∷ start.command_line.0
    ∷ start.rsdp.0
    ∷ start.ranges.0
    ∷ count_of ranges
    ∷ 0
    ∷ []

-- rows of a kind, from an address on
abbrev pub stream_of : List ℕ → List ℕ → ℕ → List Poke
stream_of widths rows address = stream_at address (rows_bytes (field_width widths) rows 0)

-- how many bytes the block and the two lists take
abbrev pub start_size : List ℕ → List ℕ → ℕ
start_size modules ranges = block_size + list_size module_widths modules + list_size range_widths ranges

-- the block, the modules, the memory map
abbrev pub start_plan : Start → List ℕ → List ℕ → Plan Check
start_plan start modules ranges =
    record {
      answer = pass;
      stream = stream_of block_widths (block_of start modules ranges) start.block.0
          ++ stream_of module_widths modules start.modules.0
          ++ stream_of range_widths ranges start.ranges.0;
    }

abbrev pub plan_of : Memory → Start → List ℕ → List ℕ → Plan Check
plan_of m start modules ranges = behind_tests Err (tests m start modules ranges) (start_plan start modules ranges)

-- writing into guest memory with a map that held `before`: it answers r and leaves `after`
abbrev pub Writes : Start → List ℕ → List ℕ → Map → List ℕ → Check → List ℕ → Type 0
Writes start modules ranges map before r after = Loads (plan_of (memory_of before map) start modules ranges) before r after
