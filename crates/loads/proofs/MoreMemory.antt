-- "More room never turns one answer into another", of a load of any format: within the size limit and while the old map and the new are valid ones, memory
-- that grows gives an accepted load the same results and old guest bytes, the added memory untouched; and any refusal not for missing guest room stays as
-- it was. Memory grows where every room of the old is room of the new: a slice lengthened, a range added, the last range lengthened, and these in turn.
use Rattle.std.specs.Prelude.{Err}
use Rattle.guest.specs.Answers.{Answer}
use Prim.Native.Nat.{ℕ, ◌≤◌}
use mathlib.Core.Path.{◌≡◌, sym, ◌∙◌, refl}
use mathlib.Core.Bool.{true}
use mathlib.Core.List.{List, ◌++◌}
use native.Mathlib.Omega.{arith}
use lib.ListN.{length, length-append}
use Rattle.answers.specs.Keeping.{Keeps}
use Rattle.guest.specs.Addresses.{amount_of}
use Rattle.guest.specs.Loading.{RefusedFor}
use Rattle.guest.specs.Maps.{good_map, whole_map}
use Rattle.guest.specs.Room.{Grows, Larger, memory_of}
use Rattle.guest.specs.Sizes.{allowed, longest}
use Rattle.guest.specs.declared.Map.{Map}
use Rattle.guest.specs.declared.Memory.{Memory}
use Rattle.guest.proofs.LoadingLaws.{LiftPlan, load_kept}
use Rattle.guest.proofs.MapsLaws.{good_longer, whole_good}
use Rattle.guest.proofs.RoomLaws.{longer_grows, larger_grows, whole_grows, allowed_longer}
use Rattle.elf.proofs.MoreMemory as elf
use Rattle.bzimage.proofs.MoreMemory as bzimage
use Rattle.arm64.proofs.MoreMemory as arm64
use Rattle.loads.specs.Formats.{plan_of, LoadSays}
use Rattle.loads.specs.Growing.{ForRoom}
use Rattle.loads.specs.declared.Format.{Format}
use Rattle.loads.specs.declared.Format.TheVariants.{Elf, BzImage, Arm64}
use Rattle.loads.specs.declared.Options.{Options}
use Rattle.loads.proofs.FormatsLaws.{elf_plan, bzimage_plan, arm64_plan, plan_inside}

module _ (image : List ℕ) (m m' : Memory) (o : Options) (grows : Grows m m') (both : allowed m'.size ≡ allowed m.size)
    (maps : good_map m'.size m'.map ≡ good_map m.size m.map) where
  keeps_by : (f : Format) → o.format ≡ f → Keeps (LiftPlan Err (ForRoom f)) (plan_of image m o) (plan_of image m' o)
  unfolding ForRoom
  keeps_by Elf e =
      rw (elf_plan image m o e, elf_plan image m' o e) (elf.plan_keeps image m m' o.kernel_offset o.highmem_start grows both maps)
  keeps_by BzImage e =
      rw (bzimage_plan image m o e, bzimage_plan image m' o e) (bzimage.plan_keeps image m m' o.kernel_offset o.highmem_start grows both maps)
  keeps_by Arm64 e =
      rw (arm64_plan image m o e, arm64_plan image m' o e) (arm64.plan_keeps image m m' (amount_of o.kernel_offset) grows both maps)

  pub plan_keeps : Keeps (LiftPlan Err (ForRoom o.format)) (plan_of image m o) (plan_of image m' o)
  plan_keeps = keeps_by o.format refl

-- ---- of the load's contract

module _ (image : List ℕ) (o : Options) (map : Map) (guest more : List ℕ) {r r' : Answer} {after after' : List ℕ} (says : LoadSays image o map guest r after)
    (short : length (guest ++ more) ≤ longest) (good : good_map (length guest) map ≡ true) (stays : RefusedFor Err (ForRoom o.format) r → ⊥) where
  pub guest_grows : (map' : Map) → good_map (length (guest ++ more)) map' ≡ true → Grows (memory_of guest map) (memory_of (guest ++ more) map')
      → LoadSays image o map' (guest ++ more) r' after' → (r' ≡ r) × (after' ≡ after ++ more)
  guest_grows map' good' grows says' =
      load_kept (plan_of image (memory_of guest map) o) guest after says (RefusedFor Err (ForRoom o.format)) (memory_of guest map)
      (plan_inside image (memory_of guest map) o) (omega arith)
      (plan_keeps image (memory_of guest map) (memory_of (guest ++ more) map') o grows (allowed_longer guest more short) (good' ∙ sym good)) more says' stays

  -- the slice is lengthened by itself, or memory is made larger in any of the ways
  pub guest_longer : LoadSays image o map (guest ++ more) r' after' → (r' ≡ r) × (after' ≡ after ++ more)
  guest_longer =
      guest_grows map (good_longer (length guest) (length (guest ++ more)) map (simp length-append (omega arith)) good) (longer_grows guest more map)

  pub guest_larger : (map' : Map) → good_map (length (guest ++ more)) map' ≡ true → Larger (memory_of guest map) (memory_of (guest ++ more) map')
      → LoadSays image o map' (guest ++ more) r' after' → (r' ≡ r) × (after' ≡ after ++ more)
  guest_larger map' good' larger = guest_grows map' good' (larger_grows larger)

-- "guest memory lengthened at its end", with no map: the whole slice before and after
pub slice_longer : (image : List ℕ) (o : Options) (guest more : List ℕ) {r r' : Answer} {after after' : List ℕ}
    → LoadSays image o (whole_map (length guest)) guest r after → length (guest ++ more) ≤ longest → (RefusedFor Err (ForRoom o.format) r → ⊥)
    → LoadSays image o (whole_map (length (guest ++ more))) (guest ++ more) r' after' → (r' ≡ r) × (after' ≡ after ++ more)
slice_longer image o guest more says short stays =
    guest_grows image o (whole_map (length guest)) guest more says short (whole_good (length guest)) stays (whole_map (length (guest ++ more)))
    (whole_good (length (guest ++ more))) (whole_grows (length guest) (length (guest ++ more)) (simp length-append (omega arith)))
