-- "After an accepted boot by PVH each piece is there; after a refused one nothing has changed": of the contract of
-- `pvh::load`.
use Rattle.std.specs.Prelude.{Ok, Err, Option}
use Prim.Native.Nat.{ℕ}
use mathlib.Core.Path.{◌≡◌, sym, ◌∙◌, ap}
use mathlib.Core.List.{List, ◌++◌}
use native.Mathlib.Omega.{arith}
use lib.ListN.{length, length-append}
use Rattle.answers.specs.Tests.{Test, AllHold}
use Rattle.answers.specs.declared.Refusal.{Refusal}
use Rattle.cmdline.specs.Text.{Text, counted}
use Rattle.guest.specs.Loading.{Plan}
use Rattle.guest.specs.Room.{memory_of}
use Rattle.guest.specs.Stream.{Poke, pour}
use Rattle.guest.specs.declared.KernelLoaderResult.{KernelLoaderResult}
use Rattle.guest.specs.declared.Map.{Map}
use Rattle.guest.specs.declared.Memory.{Memory}
use Rattle.guest.proofs.LoadingLaws.{nothing_written}
use Rattle.loader.specs.Lines as line
use Rattle.loader.proofs.LinesLaws as lines
use Rattle.loads.specs.Formats as formats
use Rattle.loads.specs.declared.Options.{Options}
use Rattle.start_info.specs.Kinds.{module_widths, range_widths}
use Rattle.start_info.specs.Writing as start
use Rattle.start_info.proofs.Held as held
use Rattle.boot.specs.Checks.{pieces_tests}
use Rattle.boot.specs.Plan.{extent, boot_stream, Answer}
use Rattle.boot.specs.Pvh.{modules_of, start_of, block_bytes, tests, blobs_of, entry, plan_of, Boots}
use Rattle.boot.specs.There.{AllThere}
use Rattle.boot.specs.declared.Booted as result
use Rattle.boot.specs.declared.pvh.Pvh.{Pvh}
use Rattle.boot.proofs.PiecesThere.{three_there}
use Rattle.boot.proofs.PlanLaws.{booted_by, refused_nothing}
use Rattle.boot.proofs.PvhLaws.{line_hold, block_hold, ranges_hold}

-- ---- the pieces have the sizes that were checked

module _ (m : Memory) (image : List ℕ) (o : Options) (limit : Option ℕ) (t : Text) (p : Pvh) (n : ℕ) (rows : List ℕ)
    (k : KernelLoaderResult)
    (hold : AllHold (tests m image o limit t p n rows k)) where
  line_size : length (line.line_bytes t) ≡ counted t
  line_size = lines.line_length t.boot t.init

  block_size : length (block_bytes p n rows) ≡ start.start_size (modules_of p n) rows
  block_size =
      let s = start_of p n in
      let ms = modules_of p n in
      let own = block_hold m image o limit t p n rows k hold in
      let block = held.block_bytes s ms rows in
      let modules = held.bytes_of module_widths ms in
      let ranges = held.bytes_of range_widths rows in
      let one = length-append block (modules ++ ranges) in
      let two = length-append modules ranges in
      let size = held.block_bytes_lem s ms rows in
      let size' = held.modules_size m s ms rows own in
      let size'' = held.ranges_size m s ms rows own in
      omega arith

  pub as_written : AllHold
      (pieces_tests m image o 4 rows (extent p.line.0 (length (line.line_bytes t))) (extent p.ramdisk.0 n)
      (extent p.block (length (block_bytes p n rows))))
  as_written = rw (line_size, block_size) (ranges_hold m image o limit t p n rows k hold)

-- ---- of the contract

module _ (image : List ℕ) (o : Options) (limit : Option ℕ) (t : Text) (p : Pvh) (ramdisk rows : List ℕ) (map : Map)
    (before : List ℕ) {r : Answer}
    {after : List ℕ} (boots : Boots image o limit t p ramdisk rows map before r after) where
  abbrev m : Memory
  m = memory_of before map

  abbrev row : KernelLoaderResult → List Test
  row = tests m image o limit t p (length ramdisk) rows

  abbrev whole : KernelLoaderResult → List Poke
  whole k = boot_stream image o (blobs_of t p ramdisk rows)

  pub refused_untouched : {refusal : Refusal} → r ≡ Err refusal → after ≡ before
  refused_untouched e =
      nothing_written (plan_of m image o limit t p ramdisk rows) before after boots
      (refused_nothing row entry whole (formats.answer_of image m o) (sym boots.answer ∙ e))

  pub booted_there : {b : result.Booted} → r ≡ Ok b → AllThere image o (blobs_of t p ramdisk rows) before after
  booted_there e =
      let by = booted_by row entry whole (formats.answer_of image m o) (sym boots.answer ∙ e) in
      three_there m image o 4 rows (p.line.0, line.line_bytes t) (p.ramdisk.0, ramdisk)
      (p.block, block_bytes p (length ramdisk) rows)
      (as_written m image o limit t p (length ramdisk) rows by.k by.hold)
      (lines.hold_room t m p.line.0 (line_hold m image o limit t p (length ramdisk) rows by.k by.hold)) before
      (omega arith)
      (boots.memory ∙ ap (λ (q : Plan Answer). pour q.stream before) by.planned)
