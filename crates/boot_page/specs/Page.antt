-- What stands in a page that was built, and in the setup header that is read from it.
use Rattle.std.specs.Prelude.{ℕ, ◌+◌, ◌-◌, ◌*◌, ◌^◌, ◌≤◌, ◌<◌, ◌≡◌, List, length, get_or}
use Rattle.fields.specs.Numbers.{le}
use Rattle.fields.specs.Rows.{field_width, rows_numbers}
use Rattle.bzimage.specs.SetupHeader.{header_size}
use Rattle.boot_page.specs.declared.Addresses.{Addresses}
use Rattle.boot_page.specs.Places.{page_size, count_at, header_at, loader_type_at, ramdisk_at, ramdisk_size_at, command_line_at, rows_at, undefined_loader}
use Rattle.boot_page.specs.Map.{row_widths, count_of}

-- the addresses are numbers of 32 bits, as their type says
pub record Fit32 (addresses : Addresses) : Type 0 where
  pub command_line : addresses.command_line < 2 ^ 32
  pub ramdisk : addresses.ramdisk < 2 ^ 32
  pub ramdisk_size : addresses.ramdisk_size < 2 ^ 32

-- a place of the setup header that is not set over it: not the loader type, the ramdisk's address and size, the command line's address
pub record NotSet (at : ℕ) : Type 0 where
  pub no_loader_type : at ≡ loader_type_at → ⊥
  pub no_ramdisk : ramdisk_at ≤ at → at < ramdisk_at + 8 → ⊥
  pub no_command_line : command_line_at ≤ at → at < command_line_at + 4 → ⊥

-- a place of the page that nothing is set at: not the count, the setup header, the rows, of 20 bytes each
pub record Elsewhere (rows : List ℕ) (at : ℕ) : Type 0 where
  pub no_count : at ≡ count_at → ⊥
  pub no_header : header_at ≤ at → at < header_at + header_size → ⊥
  pub no_rows : rows_at ≤ at → at < rows_at + count_of rows * 20 → ⊥

-- each field stands at its place, and all else is zero
pub record IsPage (header : List ℕ) (addresses : Addresses) (rows page : List ℕ) : Type 0 where
  pub size : length page ≡ page_size
  pub loader_type : le 1 page loader_type_at ≡ undefined_loader
  pub command_line : le 4 page command_line_at ≡ addresses.command_line
  pub ramdisk : le 4 page ramdisk_at ≡ addresses.ramdisk
  pub ramdisk_size : le 4 page ramdisk_size_at ≡ addresses.ramdisk_size
  pub count : le 1 page count_at ≡ count_of rows
  pub map : rows_numbers (field_width row_widths) (length rows) page rows_at 0 ≡ rows
  pub setup_header : (i : ℕ) → i < header_size → NotSet (header_at + i) → get_or page (header_at + i) 0 ≡ get_or header i 0
  pub zero : (at : ℕ) → Elsewhere rows at → get_or page at 0 ≡ 0

-- the setup header, with the loader type, the addresses and the ramdisk's size set in it
pub record SetHeader (header : List ℕ) (addresses : Addresses) (read : List ℕ) : Type 0 where
  pub as_long : length read ≡ header_size
  pub loader_type : le 1 read (loader_type_at - header_at) ≡ undefined_loader
  pub command_line : le 4 read (command_line_at - header_at) ≡ addresses.command_line
  pub ramdisk : le 4 read (ramdisk_at - header_at) ≡ addresses.ramdisk
  pub ramdisk_size : le 4 read (ramdisk_size_at - header_at) ≡ addresses.ramdisk_size
  pub as_given : (i : ℕ) → i < header_size → NotSet (header_at + i) → get_or read i 0 ≡ get_or header i 0
