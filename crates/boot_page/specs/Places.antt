-- Where the fields of the boot page stand, by the Linux boot documents.
use Rattle.std.specs.Prelude.{ℕ}

abbrev pub page_size : ℕ
page_size = 4096

-- how many rows the memory map has: one byte
abbrev pub count_at : ℕ
count_at = 0x1E8

-- the setup header
abbrev pub header_at : ℕ
header_at = 0x1F1

-- fields of the setup header that a loader sets
abbrev pub loader_type_at : ℕ
loader_type_at = 0x210

abbrev pub ramdisk_at : ℕ
ramdisk_at = 0x218

abbrev pub ramdisk_size_at : ℕ
ramdisk_size_at = 0x21C

abbrev pub command_line_at : ℕ
command_line_at = 0x228

-- the rows of the memory map
abbrev pub rows_at : ℕ
rows_at = 0x2D0

-- the loader type of a loader that has no number of its own
abbrev pub undefined_loader : ℕ
undefined_loader = 0xFF
