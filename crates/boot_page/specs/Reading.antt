-- What reading a page returns and leaves.
use Rattle.std.specs.Prelude.{ℕ, ◌≡◌, List, [], ◌∷◌, eqb, leb, length, Ok, Err, Result, is_ok}
use Rattle.std.proofs.lemmas.List.Edits.{sets}
use Rattle.answers.specs.Pick.{pick}
use Rattle.answers.specs.Tests.{Test, asked_all, Check, pass}
use Rattle.answers.specs.declared.Refusal.{Refusal}
use Rattle.answers.specs.declared.Refusal.TheVariants.{BadPageSize, TooManyRows}
use Rattle.fields.specs.Numbers.{le}
use Rattle.bzimage.specs.Header.{header_read}
use Rattle.boot_page.specs.declared.Addresses.{Addresses}
use Rattle.boot_page.specs.declared.Page.{Page}
use Rattle.boot_page.specs.Places.{page_size, command_line_at, ramdisk_at, ramdisk_size_at}
use Rattle.boot_page.specs.Map.{most_rows, count_in, rows_in}

-- the tests, in their order
abbrev pub read_tests : List ℕ → List Test
read_tests page = (eqb (length page) page_size, BadPageSize) ∷ (leb (count_in page) most_rows, TooManyRows) ∷ []

-- the addresses in a page
unfoldable pub addresses_in : List ℕ → Addresses
addresses_in page = record { command_line = le 4 page command_line_at; ramdisk = le 4 page ramdisk_at; ramdisk_size = le 4 page ramdisk_size_at }

-- what it holds in addition to its rows
unfoldable pub fields_in : List ℕ → Page
fields_in page = record { rows = count_in page; addresses = addresses_in page; setup_header = header_read page }

-- what reading it returns, by the tests
unfoldable pub read_by : Check → List ℕ → Result Page Refusal
read_by (Ok _) page = Ok (fields_in page)
read_by (Err refusal) page = Err refusal

-- what reading a page returns
abbrev pub read_of : List ℕ → Result Page Refusal
read_of page = read_by (asked_all pass (read_tests page)) page

-- what it leaves in a list that held `before`: the numbers of the rows at its front, and after a refusal what was there
abbrev pub rows_after : List ℕ → List ℕ → List ℕ
rows_after page before = pick (is_ok (asked_all pass (read_tests page))) (sets before 0 (rows_in page (length before))) before

-- it returns r and leaves `after`
pub record Reads (page before : List ℕ) (r : Result Page Refusal) (after : List ℕ) : Type 0 where
  pub answer : r ≡ read_of page
  pub rows : after ≡ rows_after page before
