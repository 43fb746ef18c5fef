-- The numbers of a boot by PVH.
use Rattle.std.specs.Prelude.{ℕ}
use Rattle.boot.specs.declared.pvh.Pvh.{Pvh}

abbrev pub pvh_by : ℕ → ℕ → ℕ → ℕ → Pvh
pvh_by line ramdisk block rsdp =
    record { line = record { 0 = line }; ramdisk = record { 0 = ramdisk }; block = block; rsdp = record { 0 = rsdp } }
