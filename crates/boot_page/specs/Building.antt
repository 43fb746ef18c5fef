-- The page that is built, and what building it answers and leaves.
use Rattle.std.specs.Prelude.{ℕ, ◌≡◌, List, [], ◌∷◌, ◌++◌, eqb, leb, length, take, replicate, is_ok}
use Rattle.std.proofs.lemmas.List.Edits.{sets}
use Rattle.answers.specs.Pick.{pick}
use Rattle.answers.specs.Tests.{Test, asked_all, Check, pass}
use Rattle.answers.specs.declared.Refusal.TheVariants.{BadPageSize, BadList, TooManyRows, BadRow}
use Rattle.fields.specs.Numbers.{le_bytes}
use Rattle.fields.specs.Rows.{field_width, rows_bytes, are_rows}
use Rattle.bzimage.specs.SetupHeader.{header_size}
use Rattle.boot_page.specs.declared.Addresses.{Addresses}
use Rattle.boot_page.specs.Places.{page_size, count_at, header_at, loader_type_at, ramdisk_at, ramdisk_size_at, command_line_at, rows_at, undefined_loader}
use Rattle.boot_page.specs.Map.{row_widths, most_rows, count_of, map_is_good}

-- ---- the tests, in their order

-- of sizes: the page's own, whether the list is one of rows, and how many there are
abbrev pub size_tests : ℕ → List ℕ → List Test
size_tests page_length rows =
    (eqb page_length page_size, BadPageSize) ∷ (are_rows row_widths rows, BadList) ∷ (leb (count_of rows) most_rows, TooManyRows) ∷ []

-- and of the rows themselves
abbrev pub tests : ℕ → List ℕ → List Test
tests page_length rows = size_tests page_length rows ++ ((map_is_good rows, BadRow) ∷ [])

-- ---- the page

-- bytes, and the place where they are put
abbrev pub Part : Type 0
Part = ℕ × List ℕ

-- parts put one after the other
unfoldable pub put_parts : List Part → List ℕ → List ℕ
put_parts [] s = s
put_parts (part ∷ parts) s = put_parts parts (sets s part.0 part.1)

-- the setup header, and the loader type over it
abbrev pub header_parts : List ℕ → List Part
header_parts header = (header_at, take header_size header) ∷ (loader_type_at, le_bytes 1 undefined_loader) ∷ []

abbrev pub address_parts : Addresses → List Part
address_parts addresses =
    (command_line_at, le_bytes 4 addresses.command_line)
    ∷ (ramdisk_at, le_bytes 4 addresses.ramdisk)
    ∷ (ramdisk_size_at, le_bytes 4 addresses.ramdisk_size)
    ∷ []

-- how many rows there are, and the rows
abbrev pub map_parts : List ℕ → List Part
map_parts rows = (count_at, le_bytes 1 (count_of rows)) ∷ (rows_at, rows_bytes (field_width row_widths) rows 0) ∷ []

-- all that is set, in order: the addresses stand over the setup header too
abbrev pub parts_of : List ℕ → Addresses → List ℕ → List Part
parts_of header addresses rows = header_parts header ++ address_parts addresses ++ map_parts rows

-- zeros, with the parts put over them
abbrev pub filled : List ℕ → Addresses → List ℕ → ℕ → List ℕ
filled header addresses rows n = put_parts (parts_of header addresses rows) (replicate n 0)

abbrev pub page_of : List ℕ → Addresses → List ℕ → List ℕ
page_of header addresses rows = filled header addresses rows page_size

-- ---- building a page that held `before`

-- what the tests return
abbrev pub gate_of : ℕ → List ℕ → Check
gate_of page_length rows = asked_all pass (tests page_length rows)

-- what is left: the page where all tests hold, else what was there
abbrev pub page_after : List ℕ → Addresses → List ℕ → List ℕ → List ℕ
page_after header addresses rows before = pick (is_ok (gate_of (length before) rows)) (page_of header addresses rows) before

-- it answers r and leaves `after`
pub record Builds (header : List ℕ) (addresses : Addresses) (rows before : List ℕ) (r : Check) (after : List ℕ) : Type 0 where
  pub answer : r ≡ gate_of (length before) rows
  pub page : after ≡ page_after header addresses rows before
