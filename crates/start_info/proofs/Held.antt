-- What the tests of a writer say where all of them hold.
use Prim.Native.Nat.{ℕ, ◌<◌}
use mathlib.Core.Path.{◌≡◌, refl}
use mathlib.Core.Bool.{true}
use mathlib.Core.List.{List}
use borrow.Author.Tests.{ltb-true}
use lib.ListN.{length}
use Rattle.answers.specs.Tests.{AllHold}
use Rattle.fields.specs.Ranges.{apart}
use Rattle.fields.specs.Rows.{field_width, rows_bytes, rows_length, are_rows}
use Rattle.fields.proofs.RowsLaws.{rows_length_lem}
use Rattle.guest.specs.Room.{room_for}
use Rattle.guest.specs.declared.Memory.{Memory}
use Rattle.start_info.specs.declared.Start.{Start}
use Rattle.start_info.specs.Kinds.{block_widths, module_widths, range_widths, block_size, count_of, reserved_are_zero}
use Rattle.start_info.specs.Parts.{count_end, list_size}
use Rattle.start_info.specs.Writing.{part_tests, tests, block_of}
use Rattle.start_info.proofs.PartsLaws.{list_bytes}

-- the bytes of the block, and of each list
abbrev pub block_bytes : Start → List ℕ → List ℕ → List ℕ
block_bytes start modules ranges = rows_bytes (field_width block_widths) (block_of start modules ranges) 0

abbrev pub bytes_of : List ℕ → List ℕ → List ℕ
bytes_of widths rows = rows_bytes (field_width widths) rows 0

-- the block takes 56 bytes, whatever its numbers
pub block_bytes_lem : (start : Start) (modules ranges : List ℕ) → length (block_bytes start modules ranges) ≡ block_size
unfolding rows_length field_width
block_bytes_lem start modules ranges = rows_length_lem (field_width block_widths) (block_of start modules ranges) 0

module _ (m : Memory) (start : Start) (modules ranges : List ℕ) (hold : AllHold (tests m start modules ranges)) where
  pub modules_are : are_rows module_widths modules ≡ true
  modules_are = hold.1.1.0

  pub modules_zero : reserved_are_zero modules ≡ true
  modules_zero = hold.1.1.1.0

  pub ranges_are : are_rows range_widths ranges ≡ true
  ranges_are = hold.1.1.1.1.0

  pub ranges_zero : reserved_are_zero ranges ≡ true
  ranges_zero = hold.1.1.1.1.1.0

  parts : AllHold (part_tests m start modules ranges)
  parts = hold.1.1.1.1.1.1

  pub few_modules : count_of modules < count_end
  few_modules = ltb-true (count_of modules) count_end parts.0

  pub few_ranges : count_of ranges < count_end
  few_ranges = ltb-true (count_of ranges) count_end parts.1.0

  -- the sizes that were asked for are those of the bytes

  pub modules_size : length (bytes_of module_widths modules) ≡ list_size module_widths modules
  modules_size = list_bytes module_widths modules refl modules_are few_modules

  pub ranges_size : length (bytes_of range_widths ranges) ≡ list_size range_widths ranges
  ranges_size = list_bytes range_widths ranges refl ranges_are few_ranges

  pub block_lies : room_for m start.block.0 block_size ≡ true
  block_lies = parts.1.1.0

  pub modules_lie : room_for m start.modules.0 (list_size module_widths modules) ≡ true
  modules_lie = parts.1.1.1.0

  pub ranges_lie : room_for m start.ranges.0 (list_size range_widths ranges) ≡ true
  ranges_lie = parts.1.1.1.1.0

  -- no two parts overlap, told by the lengths of their bytes

  pub block_modules : apart start.block.0 (length (block_bytes start modules ranges)) start.modules.0 (length (bytes_of module_widths modules)) ≡ true
  block_modules = rw (block_bytes_lem start modules ranges, modules_size) parts.1.1.1.1.1.0

  pub block_ranges : apart start.block.0 (length (block_bytes start modules ranges)) start.ranges.0 (length (bytes_of range_widths ranges)) ≡ true
  block_ranges = rw (block_bytes_lem start modules ranges, ranges_size) parts.1.1.1.1.1.1.0

  pub modules_ranges : apart start.modules.0 (length (bytes_of module_widths modules)) start.ranges.0 (length (bytes_of range_widths ranges)) ≡ true
  modules_ranges = rw (modules_size, ranges_size) parts.1.1.1.1.1.1.1.0
