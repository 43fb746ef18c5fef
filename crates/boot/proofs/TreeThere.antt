-- "After an accepted boot with a device tree each piece is there, and so is the line, in the tree; after a refused one
-- nothing has changed": of the contract of `tree::load`.
use Rattle.std.specs.Prelude.{Ok, Err, Option}
use Prim.Native.Nat.{ℕ, zero, suc, ◌+◌, ◌≤◌, ◌<◌}
use mathlib.Core.Path.{◌≡◌, sym, ◌∙◌, refl, ap}
use mathlib.Core.Bool.{Bool, true, false, ◌&&◌}
use mathlib.Core.List.{List, [], ◌∷◌, ◌++◌}
use native.Mathlib.Omega.{arith}
use native.Mathlib.Decide.{dec_le}
use borrow.Author.Tests.{eqb-true}
use lib.Dec.{eqb}
use lib.ListN.{length, get_or, length-append, get_or-append}
use lib.Seq.{get_or-append_seam}
use Rattle.answers.specs.Pick.{pick}
use Rattle.answers.specs.Tests.{Test}
use Rattle.answers.specs.declared.Refusal.{Refusal}
use Rattle.answers.proofs.BoolLaws.{both_held}
use Rattle.answers.proofs.TestsLaws.{hold_left, hold_right}
use Rattle.cmdline.specs.Text.{size_of}
use Rattle.cmdline.specs.Writing.{bare}
use Rattle.cmdline.proofs.WritingLaws.{whole_none}
use Rattle.fields.specs.Ranges.{lies_within}
use Rattle.fields.specs.Tags.{tag_at}
use Rattle.fields.proofs.RangesLaws.{within_sum}
use Rattle.guest.specs.Loading.{Plan}
use Rattle.guest.specs.Room.{memory_of}
use Rattle.guest.specs.Stream.{Poke, pour}
use Rattle.guest.specs.declared.KernelLoaderResult.{KernelLoaderResult}
use Rattle.guest.specs.declared.Map.{Map}
use Rattle.guest.specs.declared.Memory.{Memory}
use Rattle.guest.proofs.LoadingLaws.{nothing_written}
use Rattle.loader.specs.Lines as line
use Rattle.loads.specs.Formats as formats
use Rattle.loads.specs.declared.Options.{Options}
use Rattle.boot.specs.Blobs.{first, next, Holds}
use Rattle.boot.specs.Checks.{limit_of, limit_tests, pieces_tests}
use Rattle.boot.specs.Plan.{extent, boot_stream, Answer}
use Rattle.boot.specs.There.{AllThere}
use Rattle.boot.specs.Tree.{line_in, own_tests, tests, blobs_of, entry, plan_of, Boots}
use Rattle.boot.specs.declared.Booted as result
use Rattle.boot.specs.declared.tree.Tree.{Tree}
use Rattle.boot.proofs.PiecesThere.{two_there}
use Rattle.boot.proofs.PlanLaws.{BootedBy, booted_by, refused_nothing}

-- ---- a line that the tree has

picked : (b c : Bool) → pick b c false ≡ true → (b ≡ true) × (c ≡ true)
unfolding pick
picked true c e = (refl, e)
picked false c e = let w : ◌≡◌ {A = ℕ} 0 1 = cc in absurd (omega arith)

tag_byte : (text tree : List ℕ) (at i : ℕ) → tag_at text tree at ≡ true → i < length text
    → get_or tree (at + i) 0 ≡ get_or text i 0
unfolding tag_at
tag_byte [] tree at i e lt = absurd (omega arith)
tag_byte (b ∷ bs) tree at zero e lt =
    ap (λ (k : ℕ). get_or tree k 0) (let same : at + 0 ≡ at = omega arith in same)
    ∙ eqb-true (get_or tree at 0) b (picked (eqb (get_or tree at 0) b) (tag_at bs tree (suc at)) e).0
tag_byte (b ∷ bs) tree at (suc i) e lt =
    ap (λ (k : ℕ). get_or tree k 0) (let same : at + suc i ≡ suc at + i = omega arith in same)
    ∙ tag_byte bs tree (suc at) i (picked (eqb (get_or tree at 0) b) (tag_at bs tree (suc at)) e).1 (omega arith)

module _ (tree : List ℕ) (at : ℕ) (text : List ℕ) (there : line_in tree at text ≡ true) where
  abbrev line_bytes_lem : List ℕ
  line_bytes_lem = line.line_bytes (bare text [])

  plain : line_bytes_lem ≡ text ++ (0 ∷ [])
  plain = ap (λ (l : List ℕ). l ++ (0 ∷ [])) (whole_none text [] refl)

  long : length line_bytes_lem ≡ length text + 1
  long = ap length plain ∙ length-append text (0 ∷ [])

  parts : (lies_within (length tree) (at + length text) 1 ≡ true) ×
      ((eqb (get_or tree (at + length text) 0) 0 ≡ true) × (tag_at text tree at ≡ true))
  unfolding line_in
  parts =
      let all = both_held (lies_within (length tree) at (length text)) (lies_within (length tree) (at + length text) 1
      && (eqb (get_or tree (at + length text) 0) 0 && tag_at text tree at)) there in
      let rest = both_held (lies_within (length tree) (at + length text) 1)
      (eqb (get_or tree (at + length text) 0) 0 && tag_at text tree at) all.1 in
      (rest.0, both_held (eqb (get_or tree (at + length text) 0) 0) (tag_at text tree at) rest.1)

  pub line_lies : at + length line_bytes_lem ≤ length tree
  line_lies = let end = within_sum (length tree) (at + length text) 1 parts.0 in let len = long in omega arith

  pub line_byte : (i : ℕ) → i < length line_bytes_lem → get_or tree (at + i) 0 ≡ get_or line_bytes_lem i 0
  line_byte i lt = split (dec_le (suc i) (length text)) ∙ sym (ap (λ (l : List ℕ). get_or l i 0) plain)
    where
      split : Dec (suc i ≤ length text) → get_or tree (at + i) 0 ≡ get_or (text ++ (0 ∷ [])) i 0
      split (yes h) = tag_byte text tree at i parts.1.1 h ∙ sym (get_or-append text (0 ∷ []) 0 i h)
      split (no h) =
          let len = long in
          let e : i ≡ length text = omega arith in
          ap (λ (k : ℕ). get_or tree (at + k) 0) e
          ∙ eqb-true (get_or tree (at + length text) 0) 0 parts.1.0
          ∙ sym (ap (λ (k : ℕ). get_or (text ++ (0 ∷ [])) k 0) e ∙ get_or-append_seam text 0 [] 0)

-- ---- the theorem

module _ (image : List ℕ) (o : Options) (limit : Option ℕ) (text : List ℕ) (to : Tree) (ramdisk tree : List ℕ) (map : Map)
    (before : List ℕ) {r : Answer}
    {after : List ℕ} (boots : Boots image o limit text to ramdisk tree map before r after) where
  abbrev m : Memory
  m = memory_of before map

  abbrev row : KernelLoaderResult → List Test
  row k = tests m image o limit text to (length ramdisk) tree

  abbrev whole : KernelLoaderResult → List Poke
  whole k = boot_stream image o (blobs_of to ramdisk tree)

  abbrev own_row : List Test
  own_row = own_tests o.format tree to.line text

  abbrev limit_row : List Test
  limit_row = limit_tests (limit_of image o limit) (size_of (length text) 0)

  abbrev pieces_row : List Test
  pieces_row = pieces_tests m image o 0 [] (extent 0 0) (extent to.ramdisk.0 (length ramdisk))
      (extent to.tree.0 (length tree))

  pub refused_untouched : {refusal : Refusal} → r ≡ Err refusal → after ≡ before
  refused_untouched e =
      nothing_written (plan_of m image o limit text to ramdisk tree) before after boots
      (refused_nothing row entry whole (formats.answer_of image m o) (sym boots.answer ∙ e))

  module _ {b : result.Booted} (e : r ≡ Ok b) where
    by : BootedBy row entry whole (formats.answer_of image m o) b (plan_of m image o limit text to ramdisk tree)
    by = booted_by row entry whole (formats.answer_of image m o) (sym boots.answer ∙ e)

    pub booted_there : AllThere image o (blobs_of to ramdisk tree) before after
    booted_there =
        two_there m image o 0 [] (extent 0 0) (to.ramdisk.0, ramdisk) (to.tree.0, tree)
        (hold_right limit_row pieces_row (hold_right own_row (limit_row ++ pieces_row) by.hold)) before (omega arith)
        (boots.memory ∙ ap (λ (p : Plan Answer). pour p.stream before) by.planned)

    -- the line and its zero are in guest memory, in the tree
    pub line_there : Holds (to.tree.0 + to.line, line.line_bytes (bare text [])) after
    line_there =
        let in_tree = (hold_left own_row (limit_row ++ pieces_row) by.hold).1.1.0 in
        let lies = line_lies tree to.line text in_tree in
        let held = booted_there.pieces (to.tree.0, tree) (next first) in
        record {
          in_guest = λ i lt. let inside = held.in_guest (to.line + i) (omega arith) in omega arith;
          byte =
              λ i lt.
              ap (λ (k : ℕ). get_or after k 0)
              (let same : to.tree.0 + to.line + i ≡ to.tree.0 + (to.line + i) = omega arith in same)
              ∙ held.byte (to.line + i) (omega arith)
              ∙ line_byte tree to.line text in_tree i lt;
        }
