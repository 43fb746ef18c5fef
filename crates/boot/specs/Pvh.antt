-- A boot by PVH: an ELF kernel with a PVH entry; the line, a ramdisk, and the start block that names them, with its list
-- of modules and its memory map after it.
use Rattle.std.specs.Prelude.{ℕ, ◌+◌, ◌*◌, List, [], ◌∷◌, ◌++◌, eqb, length, Option}
use Rattle.answers.specs.Pick.{pick}
use Rattle.answers.specs.Tests.{Test}
use Rattle.cmdline.specs.Text.{Text, counted}
use Rattle.fields.specs.Rows.{field_width, rows_bytes}
use Rattle.guest.specs.Addresses.{amount_of}
use Rattle.guest.specs.Loading.{Plan, Loads}
use Rattle.guest.specs.Room.{memory_of}
use Rattle.guest.specs.declared.KernelLoaderResult.{KernelLoaderResult}
use Rattle.guest.specs.declared.Map.{Map}
use Rattle.guest.specs.declared.Memory.{Memory}
use Rattle.loader.specs.Lines as line
use Rattle.loads.specs.Formats as kernel
use Rattle.loads.specs.declared.Options.{Options}
use Rattle.start_info.specs.Kinds.{block_widths, module_widths, range_widths, block_size}
use Rattle.start_info.specs.Writing as start
use Rattle.start_info.specs.declared.Start.{Start}
use Rattle.boot.specs.Blobs.{Blob}
use Rattle.boot.specs.Checks.{limit_of, limit_tests, pieces_tests}
use Rattle.boot.specs.Entering.{pvh_entry, pvh_tests}
use Rattle.boot.specs.Plan.{extent, boot_stream, plan_by, Answer}
use Rattle.boot.specs.declared.pvh.Pvh.{Pvh}

-- how many numbers the list of modules has: one row of four if there is a ramdisk
unfoldable pub module_numbers : ℕ → ℕ
module_numbers n = pick (eqb n 0) 0 4

-- the list of modules: the ramdisk, which is the first module of a PVH kernel, if it has bytes
unfoldable pub modules_of : Pvh → ℕ → List ℕ
modules_of p n = pick (eqb n 0) [] (p.ramdisk.0 ∷ n ∷ 0 ∷ 0 ∷ [])

-- the start block: the modules are right after it, the memory map right after them; a number of a module takes 8 bytes
unfoldable pub start_of : Pvh → ℕ → Start
start_of p n =
    record {
      block = record { 0 = p.block };
      modules = record { 0 = p.block + block_size };
      ranges = record { 0 = p.block + block_size + module_numbers n * 8 };
      flags = 0;
      command_line = p.line;
      rsdp = p.rsdp;
    }

-- the block and its lists as bytes
abbrev pub block_bytes : Pvh → ℕ → List ℕ → List ℕ
block_bytes p n rows =
    rows_bytes (field_width block_widths) (start.block_of (start_of p n) (modules_of p n) rows) 0
    ++ (rows_bytes (field_width module_widths) (modules_of p n) 0
    ++ rows_bytes (field_width range_widths) rows 0)

-- the checks: how it is entered, the line's own, the start block's own, the line's length, the pieces
abbrev pub tests : Memory → List ℕ → Options → Option ℕ → Text → Pvh → ℕ → List ℕ → KernelLoaderResult → List Test
tests m image o limit t p n rows k =
    pvh_tests (pvh_entry k.pvh_boot_cap)
    ++ (line.tests t m p.line.0
    ++ (start.tests m (start_of p n) (modules_of p n) rows
    ++ (limit_tests (limit_of image o limit) (counted t)
    ++ pieces_tests m image o 4 rows (extent p.line.0 (counted t)) (extent p.ramdisk.0 n)
    (extent p.block (start.start_size (modules_of p n) rows)))))

-- the pieces after the kernel
abbrev pub blobs_of : Text → Pvh → List ℕ → List ℕ → List Blob
blobs_of t p ramdisk rows =
    (p.line.0, line.line_bytes t) ∷ (p.ramdisk.0, ramdisk) ∷ (p.block, block_bytes p (length ramdisk) rows) ∷ []

-- the entry address of a kernel that is loaded
abbrev pub entry : KernelLoaderResult → ℕ
entry k = amount_of (pvh_entry k.pvh_boot_cap)

abbrev pub plan_of : Memory → List ℕ → Options → Option ℕ → Text → Pvh → List ℕ → List ℕ → Plan Answer
plan_of m image o limit t p ramdisk rows =
    plan_by (kernel.answer_of image m o) (tests m image o limit t p (length ramdisk) rows) entry
    (λ (k : KernelLoaderResult). boot_stream image o (blobs_of t p ramdisk rows))

-- its answer, for which the ramdisk's size is enough
abbrev pub answer_of : Memory → List ℕ → Options → Option ℕ → Text → Pvh → ℕ → List ℕ → Answer
answer_of m image o limit t p n rows =
    (plan_by (kernel.answer_of image m o) (tests m image o limit t p n rows) entry (λ _. [])).answer

-- a boot into guest memory with a map that held `before`: it answers r and leaves `after`
abbrev pub Boots : List ℕ → Options → Option ℕ → Text → Pvh → List ℕ → List ℕ → Map → List ℕ → Answer → List ℕ → Type 0
Boots image o limit t p ramdisk rows map before r after =
    Loads (plan_of (memory_of before map) image o limit t p ramdisk rows) before r after
