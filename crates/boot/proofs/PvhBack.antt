-- "The block read back equal": after an accepted boot by PVH the start block in guest memory, its list of modules and its memory map
-- read back as they were given, and the checker of start blocks accepts it.
use Rattle.answers.specs.Tests.{Check, pass}
use Rattle.std.specs.Prelude.{Ok, Err, Option}
use Prim.Native.Nat.{ℕ}
use mathlib.Core.Path.{◌≡◌, sym, ◌∙◌, ap, refl}
use mathlib.Core.List.{List}
use lib.ListN.{length}
use Rattle.cmdline.specs.Text.{Text}
use Rattle.fields.specs.Rows.{field_width, rows_numbers}
use Rattle.guest.specs.Loading.{Plan}
use Rattle.guest.specs.Room.{memory_of}
use Rattle.guest.specs.Stream.{Poke, pour, stream_at}
use Rattle.guest.specs.declared.KernelLoaderResult.{KernelLoaderResult}
use Rattle.guest.specs.declared.Map.{Map}
use Rattle.guest.specs.declared.Memory.{Memory}
use Rattle.guest.proofs.LoadingLaws.{all_planned}
use Rattle.guest.proofs.StreamLaws.{length_pour}
use Rattle.loader.specs.Lines as line
use Rattle.loads.specs.Formats as formats
use Rattle.loads.specs.declared.Options.{Options}
use Rattle.start_info.specs.Checking.{check_of}
use Rattle.start_info.specs.Kinds.{block_widths, module_widths, range_widths, block_fields}
use Rattle.start_info.specs.Rule.{FitStart}
use Rattle.start_info.specs.Writing as start
use Rattle.start_info.specs.declared.Start.{Start}
use Rattle.start_info.proofs.ReadBack as back
use Rattle.boot.specs.Blobs.{stream_of}
use Rattle.boot.specs.Kernel.{kernel_stream}
use Rattle.boot.specs.Plan.{boot_stream, Answer}
use Rattle.boot.specs.Pvh.{modules_of, start_of, block_bytes, tests, blobs_of, entry, Boots}
use Rattle.boot.specs.declared.Booted as result
use Rattle.boot.specs.declared.pvh.Pvh.{Pvh}
use Rattle.boot.proofs.PlanLaws.{booted_by}
use Rattle.boot.proofs.PvhLaws.{all_poured, same_memory, block_hold, one_blob}

module _ (image : List ℕ) (o : Options) (limit : Option ℕ) (t : Text) (p : Pvh) (ramdisk rows : List ℕ) (map : Map) (before : List ℕ) {r : Answer}
    {after : List ℕ} (boots : Boots image o limit t p ramdisk rows map before r after) {b : result.Booted} (booted : r ≡ Ok b)
    (fit : FitStart (start_of p (length ramdisk))) where
  abbrev m : Memory
  m = memory_of before map

  abbrev s : Start
  s = start_of p (length ramdisk)

  abbrev modules : List ℕ
  modules = modules_of p (length ramdisk)

  -- guest memory before the block is written, which comes last
  abbrev filled : List ℕ
  filled = pour (stream_at p.ramdisk.0 ramdisk) (pour (stream_at p.line.0 (line.line_bytes t)) (pour (kernel_stream image o) before))

  as_long : length filled ≡ length before
  as_long =
      length_pour (stream_at p.ramdisk.0 ramdisk) (pour (stream_at p.line.0 (line.line_bytes t)) (pour (kernel_stream image o) before))
      ∙ length_pour (stream_at p.line.0 (line.line_bytes t)) (pour (kernel_stream image o) before)
      ∙ length_pour (kernel_stream image o) before

  -- so the block is written as by its own call
  writes : start.Writes s modules rows map filled pass after
  unfolding stream_of
  writes =
      let by = booted_by (tests m image o limit t p (length ramdisk) rows) entry (λ (k : KernelLoaderResult). boot_stream image o (blobs_of t p ramdisk rows))
      (formats.answer_of image m o) (sym boots.answer ∙ booted) in
      let planned : start.plan_of (memory_of filled map) s modules rows ≡ start.start_plan s modules rows =
      ap (λ (x : Memory). start.plan_of x s modules rows) (same_memory map before filled as_long)
      ∙ all_planned Err (start.tests m s modules rows) (start.start_plan s modules rows) (block_hold m image o limit t p (length ramdisk) rows by.k by.hold) in
      record {
        answer = sym (ap (λ (q : Plan Check). q.answer) planned);
        memory =
            boots.memory
            ∙ ap (λ (q : Plan Answer). pour q.stream before) by.planned
            ∙ all_poured before (kernel_stream image o) (stream_at p.line.0 (line.line_bytes t)) (stream_at p.ramdisk.0 ramdisk)
            (stream_at p.block (block_bytes p (length ramdisk) rows))
            ∙ sym (ap (λ (q : Plan Check). pour q.stream filled) planned ∙ ap (λ (ps : List Poke). pour ps filled) (one_blob p (length ramdisk) rows));
      }

  pub block_read : rows_numbers (field_width block_widths) block_fields after s.block.0 0 ≡ start.block_of s modules rows
  block_read = back.block_back s modules rows map filled writes refl fit

  pub modules_read : rows_numbers (field_width module_widths) (length modules) after s.modules.0 0 ≡ modules
  modules_read = back.modules_back s modules rows map filled writes refl fit

  pub ranges_read : rows_numbers (field_width range_widths) (length rows) after s.ranges.0 0 ≡ rows
  ranges_read = back.ranges_back s modules rows map filled writes refl fit

  pub block_checked : {answer : Check} → answer ≡ check_of map after s.block.0 → answer ≡ pass
  block_checked = back.checked_back s modules rows map filled writes refl fit
