-- More memory keeps a boot, and no hole is written: of each entry, of the contract of its `load`.
use Rattle.std.specs.Prelude.{Ok, Option}
use Prim.Native.Nat.{ℕ, ◌≤◌}
use mathlib.Core.Path.{◌≡◌}
use mathlib.Core.Bool.{true, false}
use mathlib.Core.List.{List, [], ◌++◌}
use lib.ListN.{length, get_or}
use Rattle.answers.specs.Tests.{AllHold}
use Rattle.answers.proofs.TestsLaws.{hold_append}
use Rattle.boot_page.specs.Places.{page_size}
use Rattle.cmdline.specs.Text.{Text, counted}
use Rattle.guest.specs.Lent.{memory_tests}
use Rattle.guest.specs.Maps.{good_map, ranges_of, in_ranges}
use Rattle.guest.specs.Room.{Grows, memory_of}
use Rattle.guest.specs.Sizes.{longest}
use Rattle.guest.specs.declared.KernelLoaderResult.{KernelLoaderResult}
use Rattle.guest.specs.declared.Map.{Map}
use Rattle.guest.specs.declared.Memory.{Memory}
use Rattle.loader.specs.Lines as line
use Rattle.loader.proofs.LinesLaws as lines
use Rattle.loads.specs.declared.Options.{Options}
use Rattle.start_info.specs.Kinds.{module_widths, range_widths, block_size}
use Rattle.start_info.specs.Parts.{list_size}
use Rattle.start_info.specs.Writing as start
use Rattle.start_info.specs.declared.Start.{Start}
use Rattle.guest.proofs.RoomLaws.{room_for_grows}
use Rattle.boot.specs.Checks.{limit_of, limit_tests, pieces_tests}
use Rattle.boot.specs.Entering.{pvh_entry, pvh_tests}
use Rattle.boot.specs.Plan.{extent, Answer}
use Rattle.boot.specs.Pvh as pvh
use Rattle.boot.specs.Tree as tree
use Rattle.boot.specs.ZeroPage as zero_page
use Rattle.boot.specs.declared.Booted as result
use Rattle.boot.specs.declared.pvh.Pvh.{Pvh}
use Rattle.boot.specs.declared.tree.Tree.{Tree}
use Rattle.boot.specs.declared.zero_page.ZeroPage.{ZeroPage}
use Rattle.boot.proofs.AllThere.{HaveRoom}
use Rattle.boot.proofs.GrowLaws.{pieces_grow, line_grows}
use Rattle.boot.proofs.MoreMemory.{no_hole_written, boot_kept}
use Rattle.boot.proofs.PiecesThere.{rooms, line_rooms}
use Rattle.boot.proofs.PvhLaws as pvh_laws
use Rattle.boot.proofs.PvhThere as pvh_there
use Rattle.boot.proofs.ZeroPageLaws as zero_page_laws
use Rattle.boot.proofs.ZeroPageThere as zero_page_there

-- ---- by zero page

module _ (image : List ℕ) (o : Options) (limit : Option ℕ) (t : Text) (z : ZeroPage) (ramdisk rows : List ℕ) where
  zero_page_roomy : (m : Memory) (k : KernelLoaderResult) → AllHold (zero_page.tests m image o limit t z (length ramdisk) rows k)
      → HaveRoom m (zero_page.blobs_of image o t z ramdisk rows k)
  zero_page_roomy m k h =
      line_rooms m image o 3 rows (z.line, line.line_bytes t) (z.ramdisk, ramdisk) (z.page, zero_page.page_bytes image o z ramdisk rows k)
      (zero_page_there.as_written m image o limit t z ramdisk rows k h) (lines.hold_room t m z.line (zero_page_laws.line_hold m image o limit t z (length ramdisk) rows k h))

  zero_page_grow : (m m' : Memory) → Grows m m' → AllHold (memory_tests m') → (k : KernelLoaderResult)
      → AllHold (zero_page.tests m image o limit t z (length ramdisk) rows k) → AllHold (zero_page.tests m' image o limit t z (length ramdisk) rows k)
  zero_page_grow m m' grows own k h =
      let n = length ramdisk in
      let a = h.1.1.1.1.1.1.1 in
      let l = line_grows m m' grows t z.line own (zero_page_laws.line_hold m image o limit t z n rows k h) in
      let p = pieces_grow m m' grows image o 3 rows (extent z.line (counted t)) (extent z.ramdisk n) (extent z.page page_size) a.1.1.1.1.1.1.1 in (
        h.0,
        (
          h.1.0,
          (
            h.1.1.0,
            (
              l.0,
              (
                l.1.0,
                (
                  l.1.1.0,
                  (
                    l.1.1.1.0,
                    (a.0, (a.1.0, (a.1.1.0, (a.1.1.1.0, (a.1.1.1.1.0, (a.1.1.1.1.1.0, (a.1.1.1.1.1.1.0, p))))))),
                  ),
                ),
              ),
            ),
          ),
        ),
      )

  pub zero_page_holes : (map : Map) (before : List ℕ) {r : Answer} {after : List ℕ} → zero_page.Boots image o limit t z ramdisk rows map before r after → (a : ℕ)
      → in_ranges (ranges_of map) a 1 ≡ false → get_or after a 0 ≡ get_or before a 0
  zero_page_holes =
      no_hole_written image o (λ m. zero_page.tests m image o limit t z (length ramdisk) rows) (zero_page.entry o z) (zero_page.blobs_of image o t z ramdisk rows) zero_page_roomy

  pub zero_page_grows : (map : Map) (before : List ℕ) {r : Answer} {after : List ℕ} → zero_page.Boots image o limit t z ramdisk rows map before r after
      → {b : result.Booted} → r ≡ Ok b → (more : List ℕ) (map' : Map) → length (before ++ more) ≤ longest → good_map (length before) map ≡ true
      → good_map (length (before ++ more)) map' ≡ true → Grows (memory_of before map) (memory_of (before ++ more) map') → {r' : Answer} {after' : List ℕ}
      → zero_page.Boots image o limit t z ramdisk rows map' (before ++ more) r' after' → (r' ≡ r) × (after' ≡ after ++ more)
  zero_page_grows =
      boot_kept image o (λ m. zero_page.tests m image o limit t z (length ramdisk) rows) (zero_page.entry o z) (zero_page.blobs_of image o t z ramdisk rows) zero_page_roomy
      zero_page_grow

-- ---- by PVH

start_grows : (m m' : Memory) → Grows m m' → AllHold (memory_tests m') → (s : Start) (modules ranges : List ℕ) → AllHold (start.tests m s modules ranges)
    → AllHold (start.tests m' s modules ranges)
start_grows m m' grows own s modules ranges h =
    let q = h.1.1.1.1.1.1 in (
      own.0,
      (
        own.1.0,
        (
          h.1.1.0,
          (
            h.1.1.1.0,
            (
              h.1.1.1.1.0,
              (
                h.1.1.1.1.1.0,
                (
                  q.0,
                  (
                    q.1.0,
                    (
                      room_for_grows m m' s.block.0 block_size grows q.1.1.0,
                      (
                        room_for_grows m m' s.modules.0 (list_size module_widths modules) grows q.1.1.1.0,
                        (room_for_grows m m' s.ranges.0 (list_size range_widths ranges) grows q.1.1.1.1.0, q.1.1.1.1.1),
                      ),
                    ),
                  ),
                ),
              ),
            ),
          ),
        ),
      ),
    )

module _ (image : List ℕ) (o : Options) (limit : Option ℕ) (t : Text) (p : Pvh) (ramdisk rows : List ℕ) where
  abbrev n : ℕ
  n = length ramdisk

  pvh_roomy : (m : Memory) (k : KernelLoaderResult) → AllHold (pvh.tests m image o limit t p n rows k) → HaveRoom m (pvh.blobs_of t p ramdisk rows)
  pvh_roomy m k h =
      line_rooms m image o 4 rows (p.line.0, line.line_bytes t) (p.ramdisk.0, ramdisk) (p.block, pvh.block_bytes p n rows)
      (pvh_there.as_written m image o limit t p n rows k h) (lines.hold_room t m p.line.0 (pvh_laws.line_hold m image o limit t p n rows k h))

  pvh_grow : (m m' : Memory) → Grows m m' → AllHold (memory_tests m') → (k : KernelLoaderResult) → AllHold (pvh.tests m image o limit t p n rows k)
      → AllHold (pvh.tests m' image o limit t p n rows k)
  pvh_grow m m' grows own k h =
      let s = pvh.start_of p n in
      let ms = pvh.modules_of p n in
      let entries = pvh_tests (pvh_entry k.pvh_boot_cap) in
      let lines' = line.tests t m' p.line.0 in
      let blocks' = start.tests m' s ms rows in
      let limits = limit_tests (limit_of image o limit) (counted t) in
      let l = extent p.line.0 (counted t) in
      let r = extent p.ramdisk.0 n in
      let b = extent p.block (start.start_size ms rows) in
      let pieces' = pieces_tests m' image o 4 rows l r b in
      hold_append entries (lines' ++ (blocks' ++ (limits ++ pieces'))) (h.0, (h.1.0, tt))
      (hold_append lines' (blocks' ++ (limits ++ pieces')) (line_grows m m' grows t p.line.0 own (pvh_laws.line_hold m image o limit t p n rows k h))
      (hold_append blocks' (limits ++ pieces') (start_grows m m' grows own s ms rows (pvh_laws.block_hold m image o limit t p n rows k h))
      (hold_append limits pieces' (pvh_laws.limit_hold m image o limit t p n rows k h) (pieces_grow m m' grows image o 4 rows l r b (pvh_laws.ranges_hold m image o limit t p n rows k h)))))

  pub pvh_holes : (map : Map) (before : List ℕ) {r : Answer} {after : List ℕ} → pvh.Boots image o limit t p ramdisk rows map before r after → (a : ℕ)
      → in_ranges (ranges_of map) a 1 ≡ false → get_or after a 0 ≡ get_or before a 0
  pvh_holes =
      no_hole_written image o (λ m. pvh.tests m image o limit t p n rows) pvh.entry (λ (k : KernelLoaderResult). pvh.blobs_of t p ramdisk rows) pvh_roomy

  pub pvh_grows : (map : Map) (before : List ℕ) {r : Answer} {after : List ℕ} → pvh.Boots image o limit t p ramdisk rows map before r after
      → {b : result.Booted} → r ≡ Ok b → (more : List ℕ) (map' : Map) → length (before ++ more) ≤ longest → good_map (length before) map ≡ true
      → good_map (length (before ++ more)) map' ≡ true → Grows (memory_of before map) (memory_of (before ++ more) map') → {r' : Answer} {after' : List ℕ}
      → pvh.Boots image o limit t p ramdisk rows map' (before ++ more) r' after' → (r' ≡ r) × (after' ≡ after ++ more)
  pvh_grows =
      boot_kept image o (λ m. pvh.tests m image o limit t p n rows) pvh.entry (λ (k : KernelLoaderResult). pvh.blobs_of t p ramdisk rows) pvh_roomy pvh_grow

-- ---- with a device tree

module _ (image : List ℕ) (o : Options) (limit : Option ℕ) (text : List ℕ) (to : Tree) (ramdisk blob : List ℕ) where
  abbrev size : ℕ
  size = length ramdisk

  tree_roomy : (m : Memory) (k : KernelLoaderResult) → AllHold (tree.tests m image o limit text to size blob) → HaveRoom m (tree.blobs_of to ramdisk blob)
  tree_roomy m k h = rooms m image o 0 [] (extent 0 0) (to.ramdisk.0, ramdisk) (to.tree.0, blob) h.1.1.1.1

  tree_grow : (m m' : Memory) → Grows m m' → AllHold (memory_tests m') → (k : KernelLoaderResult) → AllHold (tree.tests m image o limit text to size blob)
      → AllHold (tree.tests m' image o limit text to size blob)
  tree_grow m m' grows own k h = (
    h.0,
    (
      h.1.0,
      (
        h.1.1.0,
        (
          h.1.1.1.0,
          pieces_grow m m' grows image o 0 [] (extent 0 0) (extent to.ramdisk.0 size) (extent to.tree.0 (length blob)) h.1.1.1.1,
        ),
      ),
    ),
  )

  pub tree_holes : (map : Map) (before : List ℕ) {r : Answer} {after : List ℕ} → tree.Boots image o limit text to ramdisk blob map before r after → (a : ℕ)
      → in_ranges (ranges_of map) a 1 ≡ false → get_or after a 0 ≡ get_or before a 0
  tree_holes =
      no_hole_written image o (λ m k. tree.tests m image o limit text to size blob) tree.entry (λ (k : KernelLoaderResult). tree.blobs_of to ramdisk blob) tree_roomy

  pub tree_grows : (map : Map) (before : List ℕ) {r : Answer} {after : List ℕ} → tree.Boots image o limit text to ramdisk blob map before r after
      → {b : result.Booted} → r ≡ Ok b → (more : List ℕ) (map' : Map) → length (before ++ more) ≤ longest → good_map (length before) map ≡ true
      → good_map (length (before ++ more)) map' ≡ true → Grows (memory_of before map) (memory_of (before ++ more) map') → {r' : Answer} {after' : List ℕ}
      → tree.Boots image o limit text to ramdisk blob map' (before ++ more) r' after' → (r' ≡ r) × (after' ≡ after ++ more)
  tree_grows =
      boot_kept image o (λ m k. tree.tests m image o limit text to size blob) tree.entry (λ (k : KernelLoaderResult). tree.blobs_of to ramdisk blob) tree_roomy tree_grow
