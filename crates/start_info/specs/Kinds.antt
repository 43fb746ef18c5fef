-- The kinds of rows, each a list of the widths of its fields; and where the fields of the start block stand, by Xen's own header of it.
use Rattle.std.specs.Prelude.{ℕ, ◌/◌, ◌%◌, Bool, true, List, [], ◌∷◌, eqb, length, get_or}
use Rattle.answers.specs.Pick.{pick}
use Rattle.fields.specs.Every.{every}

-- the block is one row: magic, version, flags, module count; module list, command line, RSDP, memory map; map count, reserved
abbrev pub block_widths : List ℕ
block_widths = 4 ∷ 4 ∷ 4 ∷ 4 ∷ 8 ∷ 8 ∷ 8 ∷ 8 ∷ 4 ∷ 4 ∷ []

-- a module: address, size, command line, reserved
abbrev pub module_widths : List ℕ
module_widths = 8 ∷ 8 ∷ 8 ∷ 8 ∷ []

-- a range of the memory map: address, size, type, reserved
abbrev pub range_widths : List ℕ
range_widths = 8 ∷ 8 ∷ 4 ∷ 4 ∷ []

abbrev pub magic : ℕ
magic = 0x336EC578

abbrev pub version : ℕ
version = 1

-- how many numbers the block has, and how many bytes
abbrev pub block_fields : ℕ
block_fields = 10

abbrev pub block_size : ℕ
block_size = 56

-- ---- places in the block, from its address on

abbrev pub version_at : ℕ
version_at = 4

abbrev pub module_count_at : ℕ
module_count_at = 12

abbrev pub modules_at : ℕ
modules_at = 16

abbrev pub ranges_at : ℕ
ranges_at = 40

abbrev pub range_count_at : ℕ
range_count_at = 48

abbrev pub reserved_at : ℕ
reserved_at = 52

-- ---- a list of rows, of either kind: four numbers each, of which the last is reserved

abbrev pub row_fields : ℕ
row_fields = 4

-- how many rows a list of numbers has
abbrev pub count_of : List ℕ → ℕ
count_of rows = length rows / row_fields

-- the i-th number of a list, which is 0 where its field is reserved
unfoldable pub reserved_is_zero : ℕ → ℕ → Bool
reserved_is_zero i v = pick (eqb (i % row_fields) 3) (eqb v 0) true

-- is every reserved number 0?
unfoldable pub reserved_are_zero : List ℕ → Bool
reserved_are_zero rows = every (λ (i : ℕ). reserved_is_zero i (get_or rows i 0)) (length rows)
