-- The fields that are set in the setup header stand where the header's own table of sizes puts them.
use mathlib.Core.Path.{◌≡◌, refl}
use native.Mathlib.Omega.{arith}
use Rattle.bzimage.specs.SetupHeader.{header_start, place_of, protocol_places}
use Rattle.bzimage.proofs.SetupHeaderLaws.{placed}
use Rattle.boot_page.specs.Places.{header_at, loader_type_at, ramdisk_at, ramdisk_size_at, command_line_at}

pub header_place : header_at ≡ header_start
header_place = refl

-- type_of_loader, ramdisk_image, ramdisk_size and cmd_line_ptr are the fields 13, 17, 18 and 23 of the table
pub loader_type_place : place_of 13 ≡ loader_type_at
unfolding protocol_places
loader_type_place = placed 13 (omega arith)

pub ramdisk_place : place_of 17 ≡ ramdisk_at
unfolding protocol_places
ramdisk_place = placed 17 (omega arith)

pub ramdisk_size_place : place_of 18 ≡ ramdisk_size_at
unfolding protocol_places
ramdisk_size_place = placed 18 (omega arith)

pub command_line_place : place_of 23 ≡ command_line_at
unfolding protocol_places
command_line_place = placed 23 (omega arith)
