-- Laws of a boot by PVH, as code works it out.
use Rattle.std.specs.Prelude.{Ok, Err, Option, Result}
use Prim.Native.Nat.{ℕ, suc, ◌+◌, ◌*◌}
use mathlib.Core.Path.{◌≡◌, sym, ◌∙◌, refl, ap}
use mathlib.Core.Bool.{Bool, true, false}
use mathlib.Core.List.{List, [], ◌∷◌, ◌++◌, append-nil, append_assoc}
use native.Mathlib.Omega.{arith}
use lib.Dec.{eqb}
use lib.ListN.{length}
use lib.Seq.{take_all}
use Rattle.answers.specs.Pick.{pick}
use Rattle.answers.specs.Tests.{Test, asked_all, AllHold, Check, pass}
use Rattle.answers.specs.declared.Refusal.{Refusal}
use Rattle.answers.proofs.TestsLaws.{hold_left, hold_right}
use Rattle.cmdline.specs.Text.{Text, counted}
use Rattle.cmdline.specs.Writing.{bare}
use Rattle.fields.specs.Rows.{field_width, rows_bytes, rows_length}
use Rattle.fields.proofs.RowsLaws.{rows_length_lem}
use Rattle.guest.specs.Loading.{Plan}
use Rattle.guest.specs.Room.{memory_of}
use Rattle.guest.specs.Stream.{Poke, pour, stream_at, bytes_at}
use Rattle.guest.specs.declared.KernelLoaderResult.{KernelLoaderResult}
use Rattle.guest.specs.declared.Map.{Map}
use Rattle.guest.specs.declared.Memory.{Memory}
use Rattle.guest.proofs.LoadingLaws.{all_planned}
use Rattle.guest.proofs.StreamLaws.{length_pour, pour_append}
use Rattle.loader.specs.Lines as line
use Rattle.loads.specs.Formats as formats
use Rattle.loads.specs.declared.Options.{Options}
use Rattle.start_info.specs.Kinds.{block_widths, module_widths, range_widths, block_size}
use Rattle.start_info.specs.Writing as start
use Rattle.start_info.proofs.Held.{block_bytes_lem}
use Rattle.boot.specs.Blobs.{stream_of}
use Rattle.boot.specs.Checks.{limit_of, limit_tests, pieces_tests}
use Rattle.boot.specs.Entering.{pvh_entry, pvh_tests}
use Rattle.boot.specs.Kernel.{kernel_stream}
use Rattle.boot.specs.Plan.{extent, boot_stream, Answer}
use Rattle.boot.specs.Pvh.{module_numbers, modules_of, start_of, block_bytes, tests, blobs_of, entry, answer_of, Boots}
use Rattle.boot.specs.declared.Booted as result
use Rattle.boot.specs.declared.pvh.Pvh.{Pvh}
use Rattle.boot.proofs.BootsLaws.{refused_loads, booted_loads}
use Rattle.boot.proofs.GateLaws.{goes, stops}
use Rattle.boot.proofs.LineLaws.{line_passes, line_refuses}
use Rattle.boot.proofs.KernelLaws.{kernel_written}

-- ---- block, modules and memory map are one blob

stream_append : (a : ℕ) (xs ys : List ℕ) → stream_at a (xs ++ ys) ≡ stream_at a xs ++ stream_at (a + length xs) ys
unfolding stream_at
stream_append a [] ys = ap (λ (k : ℕ). stream_at k ys) (let same : a ≡ a + 0 = omega arith in same)
stream_append a (x ∷ xs) ys =
    ap (λ (ps : List Poke). (a, x) ∷ ps)
    (stream_append (suc a) xs ys
    ∙ ap (λ (k : ℕ). stream_at (suc a) xs ++ stream_at k ys)
    (let same : suc a + length xs ≡ a + suc (length xs) = omega arith in same))

module_bytes : (b : Bool) (x y : ℕ)
    → length (rows_bytes (field_width module_widths) (pick b [] (x ∷ y ∷ 0 ∷ 0 ∷ [])) 0) ≡ pick b 0 4 * 8
unfolding pick rows_length field_width
module_bytes true x y = rows_length_lem (field_width module_widths) [] 0
module_bytes false x y = rows_length_lem (field_width module_widths) (x ∷ y ∷ 0 ∷ 0 ∷ []) 0

modules_bytes : (p : Pvh) (n : ℕ) → length (rows_bytes (field_width module_widths) (modules_of p n) 0) ≡ module_numbers n * 8
unfolding modules_of module_numbers
modules_bytes p n = module_bytes (eqb n 0) p.ramdisk.0 n

pub one_blob : (p : Pvh) (n : ℕ) (rows : List ℕ)
    → (start.start_plan (start_of p n) (modules_of p n) rows).stream ≡ stream_at p.block (block_bytes p n rows)
unfolding start_of
one_blob p n rows =
    let block = rows_bytes (field_width block_widths) (start.block_of (start_of p n) (modules_of p n) rows) 0 in
    let modules = rows_bytes (field_width module_widths) (modules_of p n) 0 in
    let map = rows_bytes (field_width range_widths) rows 0 in
    append_assoc (stream_at p.block block) (stream_at (p.block + block_size) modules)
    (stream_at (p.block + block_size + module_numbers n * 8) map)
    ∙ sym (stream_append p.block block (modules ++ map)
    ∙ ap (λ (k : ℕ). stream_at p.block block ++ stream_at (p.block + k) (modules ++ map))
    (block_bytes_lem (start_of p n) (modules_of p n) rows)
    ∙ ap (λ (ps : List Poke). stream_at p.block block ++ ps) (stream_append (p.block + block_size) modules map
    ∙ ap (λ (k : ℕ). stream_at (p.block + block_size) modules ++ stream_at (p.block + block_size + k) map)
    (modules_bytes p n)))

-- ---- the answer

module _ (m : Memory) (image : List ℕ) (o : Options) (limit : Option ℕ) (boot init : List ℕ) (p : Pvh) (n : ℕ) (rows : List ℕ) (k : KernelLoaderResult) where
  abbrev t : Text
  t = bare boot init

  abbrev entry_row : List Test
  entry_row = pvh_tests (pvh_entry k.pvh_boot_cap)

  abbrev line_row : List Test
  line_row = line.tests t m p.line.0

  abbrev block_row : List Test
  block_row = start.tests m (start_of p n) (modules_of p n) rows

  abbrev limit_row : List Test
  limit_row = limit_tests (limit_of image o limit) (counted t)

  abbrev pieces_row : List Test
  pieces_row =
      pieces_tests m image o 4 rows (extent p.line.0 (counted t)) (extent p.ramdisk.0 n)
      (extent p.block (start.start_size (modules_of p n) rows))

  abbrev after_block : List Test
  after_block = limit_row ++ pieces_row

  abbrev all : Check
  all = asked_all pass (tests m image o limit t p n rows k)

  module _ {g1 : Check} (h1 : g1 ≡ asked_all pass entry_row) where
    pub entry_refuses : {r : Refusal} → g1 ≡ Err r → Err r ≡ all
    entry_refuses e = sym (stops entry_row (line_row ++ (block_row ++ after_block)) h1 e)

    module _ (p1 : g1 ≡ pass) {g2 : Check} (h2 : g2 ≡ (line.plan_of t m p.line.0).answer) where
      to_line : all ≡ asked_all pass (line_row ++ (block_row ++ after_block))
      to_line = goes entry_row (line_row ++ (block_row ++ after_block)) h1 p1

      pub line_refused : {r : Refusal} → g2 ≡ Err r → Err r ≡ all
      line_refused e = sym (to_line ∙ stops line_row (block_row ++ after_block) refl (line_refuses t m p.line.0 h2 e))

      module _ (p2 : g2 ≡ pass) {g3 : Check} (h3 : g3 ≡ asked_all pass block_row) where
        to_block : all ≡ asked_all pass (block_row ++ after_block)
        to_block = to_line ∙ goes line_row (block_row ++ after_block) refl (line_passes t m p.line.0 h2 p2)

        pub block_refuses : {r : Refusal} → g3 ≡ Err r → Err r ≡ all
        block_refuses e = sym (to_block ∙ stops block_row after_block h3 e)

        module _ (p3 : g3 ≡ pass) {g4 : Check} (h4 : g4 ≡ asked_all pass limit_row) where
          to_limit : all ≡ asked_all pass after_block
          to_limit = to_block ∙ goes block_row after_block h3 p3

          pub limit_refuses : {r : Refusal} → g4 ≡ Err r → Err r ≡ all
          limit_refuses e = sym (to_limit ∙ stops limit_row pieces_row h4 e)

          pub pieces_say : g4 ≡ pass → {g5 : Check} → g5 ≡ asked_all pass pieces_row → g5 ≡ all
          pieces_say p4 h5 = h5 ∙ sym (to_limit ∙ goes limit_row pieces_row h4 p4)

-- ---- what the checks say if all of them hold

module _ (m : Memory) (image : List ℕ) (o : Options) (limit : Option ℕ) (t : Text) (p : Pvh) (n : ℕ) (rows : List ℕ)
    (k : KernelLoaderResult)
    (hold : AllHold (tests m image o limit t p n rows k)) where
  abbrev lines : List Test
  lines = line.tests t m p.line.0

  abbrev blocks : List Test
  blocks = start.tests m (start_of p n) (modules_of p n) rows

  abbrev limits : List Test
  limits = limit_tests (limit_of image o limit) (counted t)

  abbrev ranges : List Test
  ranges =
      pieces_tests m image o 4 rows (extent p.line.0 (counted t)) (extent p.ramdisk.0 n)
      (extent p.block (start.start_size (modules_of p n) rows))

  after_entry : AllHold (lines ++ (blocks ++ (limits ++ ranges)))
  after_entry = hold_right (pvh_tests (pvh_entry k.pvh_boot_cap)) (lines ++ (blocks ++ (limits ++ ranges))) hold

  after_line : AllHold (blocks ++ (limits ++ ranges))
  after_line = hold_right lines (blocks ++ (limits ++ ranges)) after_entry

  pub line_hold : AllHold lines
  line_hold = hold_left lines (blocks ++ (limits ++ ranges)) after_entry

  pub block_hold : AllHold blocks
  block_hold = hold_left blocks (limits ++ ranges) after_line

  pub limit_hold : AllHold limits
  limit_hold = hold_left limits ranges (hold_right blocks (limits ++ ranges) after_line)

  pub ranges_hold : AllHold ranges
  ranges_hold = hold_right limits ranges (hold_right blocks (limits ++ ranges) after_line)

-- ---- what is written

pub all_poured : (guest : List ℕ) (s1 s2 s3 s4 : List Poke)
    → pour (s1 ++ (s2 ++ (s3 ++ (s4 ++ [])))) guest ≡ pour s4 (pour s3 (pour s2 (pour s1 guest)))
all_poured guest s1 s2 s3 s4 =
    pour_append s1 (s2 ++ (s3 ++ (s4 ++ []))) guest
    ∙ pour_append s2 (s3 ++ (s4 ++ [])) (pour s1 guest)
    ∙ pour_append s3 (s4 ++ []) (pour s2 (pour s1 guest))
    ∙ ap (λ (ps : List Poke). pour ps (pour s3 (pour s2 (pour s1 guest)))) (append-nil s4)

-- guest memory of the same length is the same memory
pub same_memory : (map : Map) (guest g : List ℕ) → length g ≡ length guest → memory_of g map ≡ memory_of guest map
same_memory map guest g e = ap (λ (n : ℕ). record { size = n; map = map }) e

module _ (image : List ℕ) (o : Options) (limit : Option ℕ) (t : Text) (p : Pvh) (ramdisk rows : List ℕ) (map : Map)
    (guest : List ℕ) where
  abbrev m : Memory
  m = memory_of guest map

  abbrev row : KernelLoaderResult → List Test
  row = tests m image o limit t p (length ramdisk) rows

  abbrev whole : KernelLoaderResult → List Poke
  whole k = boot_stream image o (blobs_of t p ramdisk rows)

  pub refused_boots : {answer : Answer} {r : Refusal} → answer ≡ answer_of m image o limit t p (length ramdisk) rows
      → answer ≡ Err r
      → Boots image o limit t p ramdisk rows map guest (Err r) guest
  refused_boots = refused_loads row entry whole (formats.answer_of image m o) guest

  -- the line, if memory is as long as it was
  line_written : (g : List ℕ) {after : List ℕ} {said : Check} → length g ≡ length guest
      → AllHold (line.tests t m p.line.0)
      → line.LineLoads t p.line.0 map g said after → after ≡ pour (stream_at p.line.0 (line.line_bytes t)) g
  line_written g el hold says =
      says.memory
      ∙ ap (λ (x : Memory). pour (line.plan_of t x p.line.0).stream g) (same_memory map guest g el)
      ∙ ap (λ (q : Plan Check). pour q.stream g)
      (all_planned Err (line.tests t m p.line.0) (line.line_plan t p.line.0) hold)

  -- and the block
  block_written : (g : List ℕ) {after : List ℕ} → length g ≡ length guest
      → AllHold (start.tests m (start_of p (length ramdisk)) (modules_of p (length ramdisk)) rows)
      → after ≡ pour (start.plan_of (memory_of g map) (start_of p (length ramdisk))
      (modules_of p (length ramdisk)) rows).stream g
      → after ≡ pour (stream_at p.block (block_bytes p (length ramdisk) rows)) g
  block_written g el hold e =
      let s = start_of p (length ramdisk) in
      let ms = modules_of p (length ramdisk) in
      e
      ∙ ap (λ (x : Memory). pour (start.plan_of x s ms rows).stream g) (same_memory map guest g el)
      ∙ ap (λ (q : Plan Check). pour q.stream g)
      (all_planned Err (start.tests m s ms rows) (start.start_plan s ms rows) hold)
      ∙ ap (λ (ps : List Poke). pour ps g) (one_blob p (length ramdisk) rows)

  -- each piece by its own call
  pub written_boots : {answer : Answer} {b : result.Booted} {x : Result KernelLoaderResult Refusal} {said : Check}
      {g1 g2 g3 g4 : List ℕ}
      → answer ≡ answer_of m image o limit t p (length ramdisk) rows → answer ≡ Ok b
      → formats.LoadSays image o map guest x g1
      → line.LineLoads t p.line.0 map g1 said g2
      → g3 ≡ pour (stream_at p.ramdisk.0 (bytes_at ramdisk 0 (length ramdisk))) g2
      → g4 ≡ pour (start.plan_of (memory_of g3 map) (start_of p (length ramdisk))
      (modules_of p (length ramdisk)) rows).stream g3
      → Boots image o limit t p ramdisk rows map guest (Ok b) g4
  unfolding stream_of
  written_boots {g1 = g1} {g2} {g3} {g4} ea e says line-says e3 e4 =
      let s1 = kernel_stream image o in
      let s2 = stream_at p.line.0 (line.line_bytes t) in
      let s3 = stream_at p.ramdisk.0 ramdisk in
      let s4 = stream_at p.block (block_bytes p (length ramdisk) rows) in
      booted_loads row entry whole (formats.answer_of image m o) guest g4 ea e
      (λ k loads hold.
      let h1 : g1 ≡ pour s1 guest = kernel_written image o map guest says loads in
      let l1 : length g1 ≡ length guest = ap length h1 ∙ length_pour s1 guest in
      let h2 : g2 ≡ pour s2 g1 = line_written g1 l1
      (line_hold m image o limit t p (length ramdisk) rows k hold) line-says in
      let l2 : length g2 ≡ length guest = ap length h2 ∙ length_pour s2 g1 ∙ l1 in
      let h3 : g3 ≡ pour s3 g2 = e3
      ∙ ap (λ (vs : List ℕ). pour (stream_at p.ramdisk.0 vs) g2) (take_all (length ramdisk) ramdisk (omega arith)) in
      let l3 : length g3 ≡ length guest = ap length h3 ∙ length_pour s3 g2 ∙ l2 in
      let h4 : g4 ≡ pour s4 g3 = block_written g3 l3 (block_hold m image o limit t p (length ramdisk) rows k hold) e4 in
      h4 ∙ ap (pour s4) (h3 ∙ ap (pour s3) (h2 ∙ ap (pour s2) h1)) ∙ sym (all_poured guest s1 s2 s3 s4))
