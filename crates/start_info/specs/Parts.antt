-- How many bytes the rows of a list take.
use Rattle.std.specs.Prelude.{ℕ, ◌*◌, min, List}
use Rattle.fields.specs.Rows.{row_length}
use Rattle.start_info.specs.Kinds.{count_of}

-- a list has fewer rows than this
abbrev pub count_end : ℕ
count_end = 0x100000000

-- a count above 2^32, which is refused, counts as 2^32
abbrev pub list_size : List ℕ → List ℕ → ℕ
list_size widths rows = min (count_of rows) count_end * row_length widths
