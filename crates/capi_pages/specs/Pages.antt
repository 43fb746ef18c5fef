-- What the entry points of the boot page answer and leave. What is lent has its size; with another nothing is done.
use Rattle.answers.specs.declared.Refusal.{Refusal}
use Rattle.boot_page.specs.declared.Page.{Page}
use Rattle.std.specs.Prelude.{ℕ, ◌≡◌, Bool, ◌&&◌, List, [], eqb, length, Ok, Err, Result}
use Rattle.std.proofs.lemmas.List.Edits.{sets}
use Rattle.bzimage.specs.SetupHeader.{header_size}
use Rattle.boot_page.specs.declared.Addresses.{Addresses}
use Rattle.boot_page.specs.Answers.{built_number, read_number, read_values}
use Rattle.boot_page.specs.Building.{gate_of, page_after}
use Rattle.boot_page.specs.Reading.{read_of, rows_after}
use Rattle.capi.specs.Values.{number_where, left_where}

abbrev pub addresses_of : ℕ → ℕ → ℕ → Addresses
addresses_of command_line ramdisk ramdisk_size = record { command_line = command_line; ramdisk = ramdisk; ramdisk_size = ramdisk_size }

-- the bytes that reading a page stores in the caller's header
unfoldable pub header_left : Result Page Refusal → List ℕ
header_left (Ok page) = page.setup_header
header_left (Err refusal) = []

-- what is stored of a page that is read: its number and values, and the setup header
pub record PageTells (read : Result Page Refusal) (out header : List ℕ) (r : ℕ) (out-left header-left : List ℕ) : Type 0 where
  pub answer : r ≡ read_number read
  pub told : out-left ≡ sets out 0 (read_values read)
  pub setup : header-left ≡ sets header 0 (header_left read)

-- ---- the entry points

-- building a page
pub record PageBuilds (header : List ℕ) (addresses : Addresses) (rows before : List ℕ) (r : ℕ) (after : List ℕ) : Type 0 where
  pub answer : r ≡ number_where (eqb (length header) header_size) (built_number (gate_of (length before) rows))
  pub page : after ≡ left_where (eqb (length header) header_size) (page_after header addresses rows before) before

-- four places for the values, three for each of 128 rows, and the setup header's own size
unfoldable pub read_sized : ℕ → ℕ → ℕ → Bool
read_sized out rows header = eqb out 4 && (eqb rows 384 && eqb header header_size)

-- reading one
pub record PageReads (page out rows header : List ℕ) (r : ℕ) (out-left rows_left header-left : List ℕ) : Type 0 where
  pub answer : r ≡ number_where (read_sized (length out) (length rows) (length header)) (read_number (read_of page))
  pub told : out-left ≡ left_where (read_sized (length out) (length rows) (length header)) (sets out 0 (read_values (read_of page))) out
  pub map : rows_left ≡ left_where (read_sized (length out) (length rows) (length header)) (rows_after page rows) rows
  pub setup :
      header-left
      ≡ left_where (read_sized (length out) (length rows) (length header)) (sets header 0 (header_left (read_of page))) header
