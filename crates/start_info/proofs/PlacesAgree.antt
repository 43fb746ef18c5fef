-- The places in the block are where the widths of its fields put them, and the sizes of block and rows are the sums of the widths.
use Prim.Native.Nat.{ℕ}
use mathlib.Core.Path.{◌≡◌, refl}
use Rattle.fields.specs.Rows.{field_width, rows_length, row_length}
use Rattle.start_info.specs.Kinds.{block_widths, module_widths, range_widths, block_size, version_at, module_count_at, modules_at, ranges_at, range_count_at, reserved_at}

-- where the k-th field of the block stands
abbrev place_of : ℕ → ℕ
place_of k = rows_length (field_width block_widths) k 0

pub version_place : place_of 1 ≡ version_at
unfolding rows_length field_width
version_place = refl

pub module_count_place : place_of 3 ≡ module_count_at
unfolding rows_length field_width
module_count_place = refl

pub modules_place : place_of 4 ≡ modules_at
unfolding rows_length field_width
modules_place = refl

pub ranges_place : place_of 7 ≡ ranges_at
unfolding rows_length field_width
ranges_place = refl

pub range_count_place : place_of 8 ≡ range_count_at
unfolding rows_length field_width
range_count_place = refl

pub reserved_place : place_of 9 ≡ reserved_at
unfolding rows_length field_width
reserved_place = refl

pub block_length : row_length block_widths ≡ block_size
unfolding row_length
block_length = refl

pub module_length : row_length module_widths ≡ 32
unfolding row_length
module_length = refl

pub range_length : row_length range_widths ≡ 24
unfolding row_length
range_length = refl
