-- The memory map: rows of an address, a size and a type, in any order, as one list of numbers.
use Rattle.std.specs.Prelude.{ℕ, ◌+◌, ◌*◌, ◌/◌, ◌^◌, ◌<◌, min, ◌≡◌, Bool, ◌&&◌, List, [], ◌∷◌, ltb, length, get_or}
use Rattle.fields.specs.Numbers.{le}
use Rattle.fields.specs.Ranges.{fits64, apart, Among}
use Rattle.fields.specs.Every.{every}
use Rattle.fields.specs.Rows.{field_width, rows_numbers}
use Rattle.boot_page.specs.Places.{count_at, rows_at}

-- the widths of a row's fields
abbrev pub row_widths : List ℕ
row_widths = 8 ∷ 8 ∷ 4 ∷ []

-- the most rows of a page
abbrev pub most_rows : ℕ
most_rows = 128

-- how many rows a list of numbers has
abbrev pub count_of : List ℕ → ℕ
count_of rows = length rows / 3

-- where the i-th row begins, and how long it is
abbrev pub address_of : List ℕ → ℕ → ℕ
address_of rows i = get_or rows (i * 3) 0

abbrev pub size_of : List ℕ → ℕ → ℕ
size_of rows i = get_or rows (i * 3 + 1) 0

-- have rows i and j no address in common?
abbrev pub rows_apart : List ℕ → ℕ → ℕ → Bool
rows_apart rows i j = apart (address_of rows i) (size_of rows i) (address_of rows j) (size_of rows j)

-- is row i not empty, does it end below 2^64, and is it apart from every earlier one?
unfoldable pub row_is_good : List ℕ → ℕ → Bool
row_is_good rows i = ltb 0 (size_of rows i) && (fits64 (address_of rows i) (size_of rows i) && every (rows_apart rows i) i)

-- is every row good?
unfoldable pub map_is_good : List ℕ → Bool
map_is_good rows = every (row_is_good rows) (count_of rows)

-- the same told without an order: no row is empty, each ends below 2^64, and no address is among two of them
pub record GoodMap (rows : List ℕ) : Type 0 where
  pub not_empty : (i : ℕ) → i < count_of rows → 0 < size_of rows i
  pub ends : (i : ℕ) → i < count_of rows → address_of rows i + size_of rows i < 2 ^ 64
  pub disjoint : (i j : ℕ) → i < count_of rows → j < count_of rows → (i ≡ j → ⊥) → (x : ℕ) → Among x (address_of rows i) (size_of rows i)
      → Among x (address_of rows j) (size_of rows j) → ⊥

-- ---- in a page

-- how many rows it says it has
abbrev pub count_in : List ℕ → ℕ
count_in page = le 1 page count_at

-- the numbers of its rows, of which at most n are taken
abbrev pub rows_in : List ℕ → ℕ → List ℕ
rows_in page n = rows_numbers (field_width row_widths) (min (count_in page * 3) n) page rows_at 0
