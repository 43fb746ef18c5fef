-- "After an accepted boot each piece is there, at one time; after a refusal nothing is": of a boot by zero page, of its contract.
use Rattle.std.specs.Prelude.{Ok, Err, Option}
use Prim.Native.Nat.{ℕ}
use mathlib.Core.Path.{◌≡◌, sym, ◌∙◌, ap, subst⁻¹}
use mathlib.Core.List.{List}
use native.Mathlib.Omega.{arith}
use lib.ListN.{length}
use Rattle.answers.specs.Tests.{Test, AllHold}
use Rattle.answers.specs.declared.Refusal.{Refusal}
use Rattle.boot_page.specs.Places.{page_size}
use Rattle.boot_page.proofs.PartsLaws.{page_length}
use Rattle.cmdline.specs.Text.{Text, counted}
use Rattle.guest.specs.Loading.{Plan}
use Rattle.guest.specs.Room.{memory_of}
use Rattle.guest.specs.Stream.{Poke, pour}
use Rattle.guest.specs.declared.KernelLoaderResult.{KernelLoaderResult}
use Rattle.guest.specs.declared.Map.{Map}
use Rattle.guest.specs.declared.Memory.{Memory}
use Rattle.guest.proofs.LoadingLaws.{nothing_written}
use Rattle.loader.specs.Lines as line
use Rattle.loader.proofs.LinesLaws as lines
use Rattle.loads.specs.Formats as kernel
use Rattle.loads.specs.declared.Options.{Options}
use Rattle.boot.specs.Checks.{pieces_tests}
use Rattle.boot.specs.Plan.{extent, boot_stream, Answer}
use Rattle.boot.specs.There.{AllThere}
use Rattle.boot.specs.ZeroPage.{setup_by, addresses_of, page_bytes, tests, blobs_of, entry, plan_of, Boots}
use Rattle.boot.specs.declared.Booted as result
use Rattle.boot.specs.declared.zero_page.ZeroPage.{ZeroPage}
use Rattle.boot.proofs.PiecesThere.{three_there}
use Rattle.boot.proofs.PlanLaws.{booted_by, refused_nothing}
use Rattle.boot.proofs.ZeroPageLaws.{line_hold, pieces_hold}

-- the pieces of a boot whose checks hold
module _ (m : Memory) (image : List ℕ) (o : Options) (limit : Option ℕ) (t : Text) (z : ZeroPage) (ramdisk rows : List ℕ) (k : KernelLoaderResult)
    (hold : AllHold (tests m image o limit t z (length ramdisk) rows k)) where
  line_size : length (line.line_bytes t) ≡ counted t
  line_size = lines.line_length t.boot t.init

  page_size_lem : length (page_bytes image o z ramdisk rows k) ≡ page_size
  page_size_lem = page_length (setup_by o.format image k.kernel_load.0) (addresses_of z (length ramdisk)) rows

  pub as_written : AllHold (pieces_tests m image o 3 rows (extent z.line (length (line.line_bytes t))) (extent z.ramdisk (length ramdisk))
      (extent z.page (length (page_bytes image o z ramdisk rows k))))
  as_written = rw (line_size, page_size_lem) (pieces_hold m image o limit t z (length ramdisk) rows k hold)

-- ---- of the contract

module _ (image : List ℕ) (o : Options) (limit : Option ℕ) (t : Text) (z : ZeroPage) (ramdisk rows : List ℕ) (map : Map) (before : List ℕ) {r : Answer}
    {after : List ℕ} (boots : Boots image o limit t z ramdisk rows map before r after) where
  abbrev m : Memory
  m = memory_of before map

  abbrev row : KernelLoaderResult → List Test
  row = tests m image o limit t z (length ramdisk) rows

  abbrev whole : KernelLoaderResult → List Poke
  whole k = boot_stream image o (blobs_of image o t z ramdisk rows k)

  pub refused_untouched : {refusal : Refusal} → r ≡ Err refusal → after ≡ before
  refused_untouched e =
      nothing_written (plan_of m image o limit t z ramdisk rows) before after boots
      (refused_nothing row (entry o z) whole (kernel.answer_of image m o) (sym boots.answer ∙ e))

  -- all pieces: the kernel, the line and its zero, the ramdisk, and the page that names them
  pub booted_there : {b : result.Booted} → r ≡ Ok b → AllThere image o (blobs_of image o t z ramdisk rows b.kernel) before after
  booted_there {b} e =
      let by = booted_by row (entry o z) whole (kernel.answer_of image m o) (sym boots.answer ∙ e) in
      let k = by.k in
      let poured : after ≡ pour (whole k) before = boots.memory ∙ ap (λ (p : Plan Answer). pour p.stream before) by.planned in
      subst⁻¹ (λ (j : KernelLoaderResult). AllThere image o (blobs_of image o t z ramdisk rows j) before after) (ap (λ (x : result.Booted). x.kernel) by.is)
      (three_there m image o 3 rows (z.line, line.line_bytes t) (z.ramdisk, ramdisk) (z.page, page_bytes image o z ramdisk rows k)
      (as_written m image o limit t z ramdisk rows k by.hold) (lines.hold_room t m z.line (line_hold m image o limit t z (length ramdisk) rows k by.hold))
      before (omega arith) poured)
