-- The numbers of a boot with a device tree.
use Rattle.std.specs.Prelude.{ℕ}
use Rattle.boot.specs.declared.tree.Tree.{Tree}

abbrev pub tree_by : ℕ → ℕ → ℕ → Tree
tree_by line ramdisk at = record { tree = record { 0 = at }; ramdisk = record { 0 = ramdisk }; line = line }
