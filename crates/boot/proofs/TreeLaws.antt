-- Laws of a boot with a device tree, as code works it out.
use Rattle.std.specs.Prelude.{Ok, Err, Option, Result}
use Prim.Native.Nat.{ℕ, ◌+◌}
use mathlib.Core.Path.{◌≡◌, sym, ◌∙◌, ap}
use mathlib.Core.Bool.{Bool, true, false}
use mathlib.Core.List.{List, [], ◌++◌, append-nil}
use native.Mathlib.Omega.{arith}
use borrow.Author.Tests.{eq-eqb, ne_eqb}
use lib.ListN.{length, get_or}
use lib.Seq.{take_all}
use Rattle.answers.specs.Tests.{Test, asked_all, Check, pass}
use Rattle.answers.specs.declared.Refusal.{Refusal}
use Rattle.cmdline.specs.Text.{size_of}
use Rattle.fields.specs.Numbers.{ReadAs}
use Rattle.fields.specs.Ranges.{lies_within}
use Rattle.fields.specs.Tags.{tag_at}
use Rattle.fields.proofs.NumbersLaws.{le_one}
use Rattle.guest.specs.Room.{memory_of}
use Rattle.guest.specs.Stream.{Poke, pour, stream_at, bytes_at}
use Rattle.guest.specs.declared.KernelLoaderResult.{KernelLoaderResult}
use Rattle.guest.specs.declared.Map.{Map}
use Rattle.guest.specs.declared.Memory.{Memory}
use Rattle.guest.proofs.StreamLaws.{pour_append}
use Rattle.loads.specs.Formats as formats
use Rattle.loads.specs.declared.Options.{Options}
use Rattle.boot.specs.Blobs.{stream_of}
use Rattle.boot.specs.Checks.{limit_of, limit_tests, pieces_tests}
use Rattle.boot.specs.Kernel.{kernel_stream}
use Rattle.boot.specs.Plan.{extent, boot_stream, Answer}
use Rattle.boot.specs.Tree.{line_in, own_tests, tests, blobs_of, entry, answer_of, Boots}
use Rattle.boot.specs.declared.Booted as result
use Rattle.boot.specs.declared.tree.Tree.{Tree}
use Rattle.boot.proofs.BootsLaws.{refused_loads, booted_loads}
use Rattle.boot.proofs.GateLaws.{goes, stops}
use Rattle.boot.proofs.KernelLaws.{kernel_written}

-- ---- the line in the tree, checked one by one

module _ (tree : List ℕ) (at : ℕ) (text : List ℕ) where
  pub text_out : lies_within (length tree) at (length text) ≡ false → false ≡ line_in tree at text
  unfolding line_in
  text_out n = rw n

  pub zero_out : lies_within (length tree) at (length text) ≡ true → lies_within (length tree) (at + length text) 1 ≡ false → false ≡ line_in tree at text
  unfolding line_in
  zero_out text_in n = rw (text_in, n)

  module _ (text_in : lies_within (length tree) at (length text) ≡ true) where
    module _ (zero_in : lies_within (length tree) (at + length text) 1 ≡ true) {v : ℕ}
        (reads : ReadAs 1 tree (at + length text) v) where
      byte : v ≡ get_or tree (at + length text) 0
      byte = reads.value ∙ le_one tree (at + length text)

      pub no_zero : (v ≡ 0 → ⊥) → false ≡ line_in tree at text
      unfolding line_in
      no_zero n = rw (text_in, zero_in, ne_eqb (get_or tree (at + length text) 0) 0 (λ e. n (byte ∙ e)))

      pub text_there : v ≡ 0 → {r : Bool} → r ≡ tag_at text tree at → r ≡ line_in tree at text
      unfolding line_in
      text_there e er = rw (text_in, zero_in, eq-eqb (get_or tree (at + length text) 0) 0 (sym byte ∙ e)) er

-- ---- the checks, row after row

module _ (m : Memory) (image : List ℕ) (o : Options) (limit : Option ℕ) (text : List ℕ) (to : Tree) (n : ℕ) (tree : List ℕ) where
  abbrev own_row : List Test
  own_row = own_tests o.format tree to.line text

  abbrev limit_row : List Test
  limit_row = limit_tests (limit_of image o limit) (size_of (length text) 0)

  abbrev pieces_row : List Test
  pieces_row = pieces_tests m image o 0 [] (extent 0 0) (extent to.ramdisk.0 n) (extent to.tree.0 (length tree))

  abbrev all : Check
  all = asked_all pass (tests m image o limit text to n tree)

  module _ {g1 : Check} (h1 : g1 ≡ asked_all pass own_row) where
    pub own_refuses : {r : Refusal} → g1 ≡ Err r → Err r ≡ all
    own_refuses e = sym (stops own_row (limit_row ++ pieces_row) h1 e)

    module _ (p1 : g1 ≡ pass) {g2 : Check} (h2 : g2 ≡ asked_all pass limit_row) where
      to_limit : all ≡ asked_all pass (limit_row ++ pieces_row)
      to_limit = goes own_row (limit_row ++ pieces_row) h1 p1

      pub limit_refuses : {r : Refusal} → g2 ≡ Err r → Err r ≡ all
      limit_refuses e = sym (to_limit ∙ stops limit_row pieces_row h2 e)

      pub pieces_say : g2 ≡ pass → {g3 : Check} → g3 ≡ asked_all pass pieces_row → g3 ≡ all
      pieces_say p2 h3 = h3 ∙ sym (to_limit ∙ goes limit_row pieces_row h2 p2)

-- ---- what is written

all_poured : (guest : List ℕ) (s1 s2 s3 : List Poke)
    → pour (s1 ++ (s2 ++ (s3 ++ []))) guest ≡ pour s3 (pour s2 (pour s1 guest))
all_poured guest s1 s2 s3 =
    pour_append s1 (s2 ++ (s3 ++ [])) guest
    ∙ pour_append s2 (s3 ++ []) (pour s1 guest)
    ∙ ap (λ (ps : List Poke). pour ps (pour s2 (pour s1 guest))) (append-nil s3)

module _ (image : List ℕ) (o : Options) (limit : Option ℕ) (text : List ℕ) (to : Tree) (ramdisk tree : List ℕ) (map : Map)
    (guest : List ℕ) where
  abbrev m : Memory
  m = memory_of guest map

  abbrev whole_row : KernelLoaderResult → List Test
  whole_row k = tests m image o limit text to (length ramdisk) tree

  abbrev whole : KernelLoaderResult → List Poke
  whole k = boot_stream image o (blobs_of to ramdisk tree)

  pub refused_boots : {answer : Answer} {r : Refusal} → answer ≡ answer_of m image o limit text to (length ramdisk) tree
      → answer ≡ Err r
      → Boots image o limit text to ramdisk tree map guest (Err r) guest
  refused_boots = refused_loads whole_row entry whole (formats.answer_of image m o) guest

  -- each piece by its own call
  pub written_boots : {answer : Answer} {b : result.Booted} {x : Result KernelLoaderResult Refusal} {g1 g2 g3 : List ℕ}
      → answer ≡ answer_of m image o limit text to (length ramdisk) tree → answer ≡ Ok b
      → formats.LoadSays image o map guest x g1
      → g2 ≡ pour (stream_at to.ramdisk.0 (bytes_at ramdisk 0 (length ramdisk))) g1
      → g3 ≡ pour (stream_at to.tree.0 (bytes_at tree 0 (length tree))) g2
      → Boots image o limit text to ramdisk tree map guest (Ok b) g3
  unfolding stream_of
  written_boots {g1 = g1} {g2} {g3} ea e says e2 e3 =
      let s1 = kernel_stream image o in
      let s2 = stream_at to.ramdisk.0 ramdisk in
      let s3 = stream_at to.tree.0 tree in
      booted_loads whole_row entry whole (formats.answer_of image m o) guest g3 ea e
      (λ k loads hold.
      e3
      ∙ ap (λ (vs : List ℕ). pour (stream_at to.tree.0 vs) g2) (take_all (length tree) tree (omega arith))
      ∙ ap (pour s3) (e2 ∙ ap (λ (vs : List ℕ). pour (stream_at to.ramdisk.0 vs) g1)
      (take_all (length ramdisk) ramdisk (omega arith)) ∙ ap (pour s2) (kernel_written image o map guest says loads))
      ∙ sym (all_poured guest s1 s2 s3))
