-- "More memory keeps a boot whose addresses are given": within the size limit and while the new map is a valid one, memory that
-- grows gives an accepted boot the same answer and old guest bytes, the added memory untouched. And no hole is written, whether a
-- boot is accepted or refused. With placed addresses an added range may give another place, and then it is another boot.
use Rattle.std.specs.Prelude.{Ok}
use Prim.Native.Nat.{ℕ, ◌≤◌}
use mathlib.Core.Path.{◌≡◌, sym, ◌∙◌}
use mathlib.Core.Bool.{true, false}
use mathlib.Core.List.{List, ◌++◌}
use native.Mathlib.Omega.{arith}
use borrow.Author.Tests.{le-leb}
use lib.ListN.{length, get_or}
use Rattle.answers.specs.Tests.{Test, AllHold}
use Rattle.answers.proofs.KeepingLaws.{equal}
use Rattle.guest.specs.Lent.{memory_tests}
use Rattle.guest.specs.Loading.{Plan, Loads}
use Rattle.guest.specs.Maps.{good_map, ranges_of, in_ranges}
use Rattle.guest.specs.Room.{Grows, memory_of}
use Rattle.guest.specs.Sizes.{allowed, longest}
use Rattle.guest.specs.Stream.{Poke, Inside, none}
use Rattle.guest.specs.declared.KernelLoaderResult.{KernelLoaderResult}
use Rattle.guest.specs.declared.Map.{Map}
use Rattle.guest.specs.declared.Memory.{Memory}
use Rattle.guest.proofs.LoadingLaws.{load_kept, hole_untouched}
use Rattle.guest.proofs.RoomLaws.{allowed_longer}
use Rattle.loads.specs.Formats as formats
use Rattle.loads.specs.declared.Options.{Options}
use Rattle.boot.specs.Blobs.{Blob}
use Rattle.boot.specs.Plan.{boot_stream, plan_by, Answer}
use Rattle.boot.specs.declared.Booted as result
use Rattle.boot.proofs.AllThere.{HaveRoom}
use Rattle.boot.proofs.GrowLaws.{boot_inside, plan_kept}
use Rattle.boot.proofs.PlanLaws.{plan_with}

-- of any entry: its checks and its pieces, over a memory
module _ (image : List ℕ) (o : Options) (row : Memory → KernelLoaderResult → List Test) (entry : KernelLoaderResult → ℕ) (blobs : KernelLoaderResult → List Blob)
    (roomy : (m : Memory) (k : KernelLoaderResult) → AllHold (row m k) → HaveRoom m (blobs k)) where
  abbrev stream : KernelLoaderResult → List Poke
  stream k = boot_stream image o (blobs k)

  abbrev pub plan_in : Memory → Plan Answer
  plan_in m = plan_by (formats.answer_of image m o) (row m) entry stream

  pub plan_inside : (m : Memory) → Inside m (plan_in m).stream
  plan_inside m =
      plan_with (row m) entry stream (λ p. Inside m p.stream) (formats.answer_of image m o) (λ k loads hold. boot_inside m image o (blobs k) loads (roomy m k hold))
      (λ _. none)

  pub no_hole_written : (map : Map) (before : List ℕ) {r : Answer} {after : List ℕ} → Loads (plan_in (memory_of before map)) before r after → (a : ℕ)
      → in_ranges (ranges_of map) a 1 ≡ false → get_or after a 0 ≡ get_or before a 0
  no_hole_written map before {after = after} boots =
      hole_untouched (plan_in (memory_of before map)) before after boots map (plan_inside (memory_of before map))

  module _ (grow : (m m' : Memory) → Grows m m' → AllHold (memory_tests m') → (k : KernelLoaderResult) → AllHold (row m k) → AllHold (row m' k)) (map : Map)
      (before : List ℕ) {r : Answer} {after : List ℕ} (boots : Loads (plan_in (memory_of before map)) before r after) {b : result.Booted} (booted : r ≡ Ok b)
      (more : List ℕ) (map' : Map) (short : length (before ++ more) ≤ longest) (good : good_map (length before) map ≡ true)
      (good' : good_map (length (before ++ more)) map' ≡ true) (grows : Grows (memory_of before map) (memory_of (before ++ more) map')) where
    pub boot_kept : {r' : Answer} {after' : List ℕ} → Loads (plan_in (memory_of (before ++ more) map')) (before ++ more) r' after' → (r' ≡ r) × (after' ≡ after ++ more)
    unfolding allowed
    boot_kept boots' =
        let m = memory_of before map in
        let m' = memory_of (before ++ more) map' in
        let own : AllHold (memory_tests m') = (le-leb (length (before ++ more)) longest short, (good', tt)) in
        let same = plan_kept m m' grows (allowed_longer before more short) (good' ∙ sym good) image o (row m) (row m') entry stream (grow m m' grows own)
        (sym boots.answer ∙ booted) in
        load_kept (plan_in m) before after boots (λ _. ⊥) m (plan_inside m) (omega arith) (equal (λ (p : Plan Answer). ⊥) same) more boots' (λ x. x)
