-- Laws of a boot by zero page, as code works it out.
use Rattle.std.specs.Prelude.{Ok, Err, Option, Result, is_ok}
use Prim.Native.Nat.{ℕ, zero, suc, ◌+◌, ◌-◌, ◌≤◌}
use mathlib.Core.Path.{◌≡◌, sym, ◌∙◌, refl, ap}
use mathlib.Core.Bool.{true}
use mathlib.Core.List.{List, [], ◌∷◌, ◌++◌, append-nil}
use native.Mathlib.Omega.{arith}
use borrow.Author.Tests.{leb-true}
use borrow.Rule.Slice.PartMut.{mid_of, put_mid, Post-is, mid_len}
use lib.ListN.{length, take, drop}
use lib.Seq.{sets, take_all}
use Rattle.answers.specs.Pick.{pick}
use Rattle.answers.specs.Tests.{Test, asked_all, AllHold, Check, pass}
use Rattle.answers.specs.declared.Refusal.{Refusal}
use Rattle.answers.proofs.TestsLaws.{all_open}
use Rattle.boot_page.specs.Building as page
use Rattle.boot_page.specs.Places.{page_size}
use Rattle.boot_page.specs.declared.Addresses.{Addresses}
use Rattle.cmdline.specs.Text.{Text, size_of, counted}
use Rattle.cmdline.specs.Writing.{bare}
use Rattle.fields.proofs.CopyingLaws.{sets_behind}
use Rattle.guest.specs.Loading.{Plan}
use Rattle.guest.specs.Room.{room, memory_of}
use Rattle.guest.specs.Stream.{Poke, pour, stream_at, bytes_at}
use Rattle.guest.specs.declared.KernelLoaderResult.{KernelLoaderResult}
use Rattle.guest.specs.declared.Map.{Map}
use Rattle.guest.specs.declared.Memory.{Memory}
use Rattle.guest.proofs.LoadingLaws.{all_planned}
use Rattle.guest.proofs.RoomLaws.{room_size, room_for_some}
use Rattle.guest.proofs.StreamLaws.{length_pour, pour_append, pour_at}
use Rattle.loader.specs.Lines as line
use Rattle.loads.specs.Formats as kernel
use Rattle.loads.specs.declared.Options.{Options}
use Rattle.boot.specs.Blobs.{stream_of}
use Rattle.boot.specs.Checks.{limit_of, limit_tests, pieces_tests}
use Rattle.boot.specs.Entering.{top32, zero_page_tests}
use Rattle.boot.specs.Kernel.{kernel_stream}
use Rattle.boot.specs.Plan.{extent, boot_stream, plan_by, Answer}
use Rattle.boot.specs.ZeroPage.{setup_by, addresses_of, page_bytes, ramdisk_tests, tests, blobs_of, entry, answer_of, Boots}
use Rattle.boot.specs.declared.Booted as result
use Rattle.boot.specs.declared.zero_page.ZeroPage.{ZeroPage}
use Rattle.boot.proofs.BootsLaws.{refused_loads, booted_loads}
use Rattle.boot.proofs.GateLaws.{goes, stops}
use Rattle.boot.proofs.LineLaws.{line_passes, line_refuses}
use Rattle.boot.proofs.KernelLaws.{kernel_written}
use Rattle.boot.proofs.PlanLaws.{BootedBy, booted_by}

-- a page that is built, if its checks hold
pub built : {header rows before after : List ℕ} {addresses : Addresses} {r : Check} → page.Builds header addresses rows before r after
    → page.gate_of (length before) rows ≡ pass → after ≡ page.page_of header addresses rows
unfolding pick
built {header} {rows} {before} {addresses = addresses} builds e =
    builds.page ∙ ap (λ (g : Check). pick (is_ok g) (page.page_of header addresses rows) before) e

-- ---- the checks, row after row

module _ (m : Memory) (image : List ℕ) (o : Options) (limit : Option ℕ) (boot init : List ℕ) (z : ZeroPage) (n : ℕ) (rows : List ℕ) (k : KernelLoaderResult) where
  abbrev t : Text
  t = bare boot init

  abbrev entry_row : List Test
  entry_row = zero_page_tests image o.format z.wide k.kernel_load.0

  abbrev line_row : List Test
  line_row = line.tests t m z.line

  abbrev page_row : List Test
  page_row = page.tests page_size rows

  abbrev ramdisk_row : List Test
  ramdisk_row = ramdisk_tests image o.format z.ramdisk n

  abbrev limit_row : List Test
  limit_row = limit_tests (limit_of image o limit) (size_of (length boot) (length init))

  abbrev pieces_row : List Test
  pieces_row = pieces_tests m image o 3 rows (extent z.line (size_of (length boot) (length init))) (extent z.ramdisk n) (extent z.page page_size)

  abbrev after_limit : List Test
  after_limit = limit_row ++ pieces_row

  abbrev after_page : List Test
  after_page = ramdisk_row ++ after_limit

  abbrev all : Check
  all = asked_all pass (tests m image o limit t z n rows k)

  module _ {g1 : Check} (h1 : g1 ≡ asked_all pass entry_row) where
    pub entry_refuses : {r : Refusal} → g1 ≡ Err r → Err r ≡ all
    entry_refuses e = sym (stops entry_row (line_row ++ (page_row ++ after_page)) h1 e)

    module _ (p1 : g1 ≡ pass) {g2 : Check} (h2 : g2 ≡ (line.plan_of t m z.line).answer) where
      to_line : all ≡ asked_all pass (line_row ++ (page_row ++ after_page))
      to_line = goes entry_row (line_row ++ (page_row ++ after_page)) h1 p1

      pub line_refused : {r : Refusal} → g2 ≡ Err r → Err r ≡ all
      line_refused e = sym (to_line ∙ stops line_row (page_row ++ after_page) refl (line_refuses t m z.line h2 e))

      module _ (p2 : g2 ≡ pass) {g3 : Check} (h3 : g3 ≡ page.gate_of page_size rows) where
        to_page : all ≡ asked_all pass (page_row ++ after_page)
        to_page = to_line ∙ goes line_row (page_row ++ after_page) refl (line_passes t m z.line h2 p2)

        pub page_refuses : {r : Refusal} → g3 ≡ Err r → Err r ≡ all
        page_refuses e = sym (to_page ∙ stops page_row after_page h3 e)

        module _ (p3 : g3 ≡ pass) {g4 : Check} (h4 : g4 ≡ asked_all pass ramdisk_row) where
          to_ramdisk : all ≡ asked_all pass after_page
          to_ramdisk = to_page ∙ goes page_row after_page h3 p3

          pub ramdisk_refuses : {r : Refusal} → g4 ≡ Err r → Err r ≡ all
          ramdisk_refuses e = sym (to_ramdisk ∙ stops ramdisk_row after_limit h4 e)

          module _ (p4 : g4 ≡ pass) {g5 : Check} (h5 : g5 ≡ asked_all pass limit_row) where
            to_limit : all ≡ asked_all pass after_limit
            to_limit = to_ramdisk ∙ goes ramdisk_row after_limit h4 p4

            pub limit_refuses : {r : Refusal} → g5 ≡ Err r → Err r ≡ all
            limit_refuses e = sym (to_limit ∙ stops limit_row pieces_row h5 e)

            pub pieces_say : g5 ≡ pass → {g6 : Check} → g6 ≡ asked_all pass pieces_row → g6 ≡ all
            pieces_say p5 h6 = h6 ∙ sym (to_limit ∙ goes limit_row pieces_row h5 p5)

-- ---- the page, put into the part of guest memory that it takes

front : (vs l : List ℕ) → length vs ≤ length l → sets l 0 vs ≡ vs ++ drop (length vs) l
front [] l fits = refl
front (v ∷ vs) [] fits = absurd (omega arith)
front (v ∷ vs) (x ∷ l) fits = sets_behind vs l v 0 ∙ ap (λ (r : List ℕ). v ∷ r) (front vs l (omega arith))

sets_split : (vs l : List ℕ) (a : ℕ) → a + length vs ≤ length l → sets l a vs ≡ take a l ++ (vs ++ drop (a + length vs) l)
sets_split vs l zero fits = front vs l (omega arith) ∙ ap (λ (k : ℕ). vs ++ drop k l) (let e : length vs ≡ 0 + length vs = omega arith in e)
sets_split vs [] (suc a) fits = absurd (omega arith)
sets_split vs (x ∷ l) (suc a) fits =
    sets_behind vs l x a
    ∙ ap (λ (r : List ℕ). x ∷ r) (sets_split vs l a (omega arith))
    ∙ ap (λ (k : ℕ). take (suc a) (x ∷ l) ++ (vs ++ drop k (x ∷ l))) (let e : suc (a + length vs) ≡ suc a + length vs = omega arith in e)

pub page_put : (at n : ℕ) (g vs : List ℕ) {ys : List ℕ} → at + n ≤ length g → length vs ≡ n → ys ≡ vs → put_mid at (at + n - at) g ys ≡ pour (stream_at at vs) g
page_put at n g vs {ys} fits len e =
    ap (λ (l : List ℕ). take at g ++ (ys ++ l)) (Post-is at (at + n) g (omega arith))
    ∙ ap (λ (l : List ℕ). take at g ++ (l ++ drop (at + n) g)) e
    ∙ ap (λ (k : ℕ). take at g ++ (vs ++ drop (at + k) g)) (sym len)
    ∙ sym (sets_split vs g at (omega arith))
    ∙ sym (pour_at vs g at)

-- the part has the size of a page
pub open_part : (at : ℕ) (g rows : List ℕ) → at + page_size ≤ length g → page.gate_of page_size rows ≡ pass
    → page.gate_of (length (mid_of at (at + page_size - at) g)) rows ≡ pass
open_part at g rows fits e =
    ap (λ (n : ℕ). page.gate_of n rows) (mid_len at (at + page_size) g fits ∙ (let same : at + page_size - at ≡ page_size = omega arith in same)) ∙ e

-- ---- what the checks say if all of them hold

module _ (m : Memory) (image : List ℕ) (o : Options) (limit : Option ℕ) (t : Text) (z : ZeroPage) (n : ℕ) (rows : List ℕ) (k : KernelLoaderResult)
    (hold : AllHold (tests m image o limit t z n rows k)) where
  pub line_hold : AllHold (line.tests t m z.line)
  line_hold = let h = hold.1.1.1 in (h.0, (h.1.0, (h.1.1.0, (h.1.1.1.0, tt))))

  after_line : AllHold (page.tests page_size rows ++ (ramdisk_tests image o.format z.ramdisk n ++ (limit_tests (limit_of image o limit) (counted t)
      ++ pieces_tests m image o 3 rows (extent z.line (counted t)) (extent z.ramdisk n) (extent z.page page_size))))
  after_line = hold.1.1.1.1.1.1.1

  pub page_open : page.gate_of page_size rows ≡ pass
  page_open =
      let h = after_line in
      all_open (page.tests page_size rows) (h.0, (h.1.0, (h.1.1.0, (h.1.1.1.0, tt))))

  pub ramdisk_small : n ≤ top32
  ramdisk_small = leb-true n top32 after_line.1.1.1.1.1.0

  pub pieces_hold : AllHold (pieces_tests m image o 3 rows (extent z.line (counted t)) (extent z.ramdisk n) (extent z.page page_size))
  pieces_hold = after_line.1.1.1.1.1.1.1

  pub page_room : room m z.page page_size ≡ true
  page_room = sym (room_for_some m z.page page_size (omega arith)) ∙ pieces_hold.1.1.0

-- ---- what is written

same_kernel : {k k' : KernelLoaderResult} → ◌≡◌ {A = Result KernelLoaderResult Refusal} (Ok k) (Ok k') → k ≡ k'
same_kernel e = cc

all_poured : (guest : List ℕ) (s1 s2 s3 s4 : List Poke) → pour (s1 ++ (s2 ++ (s3 ++ (s4 ++ [])))) guest ≡ pour s4 (pour s3 (pour s2 (pour s1 guest)))
all_poured guest s1 s2 s3 s4 =
    pour_append s1 (s2 ++ (s3 ++ (s4 ++ []))) guest
    ∙ pour_append s2 (s3 ++ (s4 ++ [])) (pour s1 guest)
    ∙ pour_append s3 (s4 ++ []) (pour s2 (pour s1 guest))
    ∙ ap (λ (ps : List Poke). pour ps (pour s3 (pour s2 (pour s1 guest)))) (append-nil s4)

module _ (image : List ℕ) (o : Options) (limit : Option ℕ) (t : Text) (z : ZeroPage) (ramdisk rows : List ℕ) (map : Map) (guest : List ℕ) where
  abbrev m : Memory
  m = memory_of guest map

  abbrev row : KernelLoaderResult → List Test
  row = tests m image o limit t z (length ramdisk) rows

  abbrev whole : KernelLoaderResult → List Poke
  whole k = boot_stream image o (blobs_of image o t z ramdisk rows k)

  pub refused_boots : {answer : Answer} {r : Refusal} → answer ≡ answer_of m image o limit t z (length ramdisk) rows → answer ≡ Err r
      → Boots image o limit t z ramdisk rows map guest (Err r) guest
  refused_boots = refused_loads row (entry o z) whole (kernel.answer_of image m o) guest

  module _ {answer : Answer} {b : result.Booted} (ea : answer ≡ answer_of m image o limit t z (length ramdisk) rows) (e : answer ≡ Ok b) where
    abbrev nothing : KernelLoaderResult → List Poke
    nothing k = []

    by : BootedBy row (entry o z) nothing (kernel.answer_of image m o) b (plan_by (kernel.answer_of image m o) row (entry o z) nothing)
    by = booted_by row (entry o z) nothing (kernel.answer_of image m o) (sym ea ∙ e)

    abbrev held : AllHold (row by.k)
    held = by.hold

    pub booted_small : length ramdisk ≤ top32
    booted_small = ramdisk_small m image o limit t z (length ramdisk) rows by.k held

    pub booted_open : page.gate_of page_size rows ≡ pass
    booted_open = page_open m image o limit t z (length ramdisk) rows by.k held

    pub booted_fits : z.page + page_size ≤ length guest
    booted_fits = room_size m z.page page_size (page_room m image o limit t z (length ramdisk) rows by.k held)

    -- each piece by its own call; the page goes into the part of guest memory that it takes
    pub written_boots : {x : Result KernelLoaderResult Refusal} {said : Check} {g1 g2 g3 g4 : List ℕ} {load : ℕ} → load ≡ b.kernel.kernel_load.0
        → kernel.LoadSays image o map guest x g1 → line.LineLoads t z.line map g1 said g2
        → g3 ≡ pour (stream_at z.ramdisk (bytes_at ramdisk 0 (length ramdisk))) g2
        → g4 ≡ pour (stream_at z.page (page.page_of (setup_by o.format image load) (addresses_of z (length ramdisk)) rows)) g3
        → Boots image o limit t z ramdisk rows map guest (Ok b) g4
    unfolding stream_of
    written_boots {said = said} {g1} {g2} {g3} {g4} {load} el says line-says e3 e4 =
        booted_loads row (entry o z) whole (kernel.answer_of image m o) guest g4 ea e
        (λ k loads hold.
        let s1 = kernel_stream image o in
        let s2 = stream_at z.line (line.line_bytes t) in
        let s3 = stream_at z.ramdisk ramdisk in
        let s4 = stream_at z.page (page_bytes image o z ramdisk rows k) in
        let first : g1 ≡ pour s1 guest = kernel_written image o map guest says loads in
        let same : memory_of g1 map ≡ m = ap (λ (n : ℕ). record { size = n; map = map }) (ap length first ∙ length_pour s1 guest) in
        let planned : line.plan_of t (memory_of g1 map) z.line ≡ line.line_plan t z.line =
        ap (λ (y : Memory). line.plan_of t y z.line) same
        ∙ all_planned Err (line.tests t m z.line) (line.line_plan t z.line) (line_hold m image o limit t z (length ramdisk) rows k hold) in
        let second : g2 ≡ pour s2 g1 = line-says.memory ∙ ap (λ (p : Plan Check). pour p.stream g1) planned in
        let third : g3 ≡ pour s3 g2 = e3 ∙ ap (λ (vs : List ℕ). pour (stream_at z.ramdisk vs) g2) (take_all (length ramdisk) ramdisk (omega arith)) in
        let loaded : load ≡ k.kernel_load.0 = el ∙ load_of k loads in
        e4
        ∙ ap (λ (n : ℕ). pour (stream_at z.page (page.page_of (setup_by o.format image n) (addresses_of z (length ramdisk)) rows)) g3) loaded
        ∙ ap (pour s4) (third ∙ ap (pour s3) (second ∙ ap (pour s2) first))
        ∙ sym (all_poured guest s1 s2 s3 s4))
      where
        load_of : (k : KernelLoaderResult) → kernel.answer_of image m o ≡ Ok k → b.kernel.kernel_load.0 ≡ k.kernel_load.0
        load_of k loads =
            let same : ◌≡◌ {A = KernelLoaderResult} by.k k = same_kernel (sym by.loads ∙ loads) in
            ap (λ (r : result.Booted). r.kernel.kernel_load.0) by.is ∙ ap (λ (r : KernelLoaderResult). r.kernel_load.0) same
