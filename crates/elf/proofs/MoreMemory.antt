-- "More room or more data never turns one answer into another", of an ELF load: within the size limits and while the old map and the new are
-- valid ones, an ELF image lengthened at its end, with memory that grows or without, gives an accepted load the same results and old guest bytes,
-- the added memory untouched; and any refusal not for missing image bytes or guest room stays as it was. What memory that grows says of a load of any
-- format is in `loads` (MoreMemory), by `plan_keeps`. An image lengthened by itself asks nothing of the map.
use Rattle.std.specs.Prelude.{Err, Option}
use Rattle.guest.specs.declared.GuestAddress.{GuestAddress}
use Rattle.guest.specs.Answers.{Answer}
use Prim.Native.Nat.{ℕ, ◌≤◌}
use mathlib.Core.Path.{◌≡◌, sym, ◌∙◌, refl, ap, subst, subst⁻¹}
use mathlib.Core.Bool.{true}
use mathlib.Core.List.{List, [], ◌++◌, append-nil}
use mathlib.Core.Logic.{◌⊎◌, inl, inr}
use native.Mathlib.Omega.{arith}
use lib.ListN.{length}
use Rattle.answers.specs.Keeping.{Keeps}
use Rattle.answers.specs.declared.Refusal.{Refusal}
use Rattle.answers.specs.declared.Refusal.TheVariants.{ReadKernelImage}
use Rattle.guest.specs.Maps.{good_map}
use Rattle.guest.specs.Room.{Grows, memory_of}
use Rattle.guest.specs.Sizes.{allowed, longest}
use Rattle.guest.specs.Loading.{RefusedFor}
use Rattle.guest.specs.declared.Map.{Map}
use Rattle.guest.specs.declared.Memory.{Memory}
use Rattle.guest.proofs.RoomLaws.{longer_grows, allowed_longer, lent_stays}
use Rattle.guest.proofs.LoadingLaws.{LiftPlan, load_kept}
use Rattle.elf.specs.Pouring.{plan_of}
use Rattle.elf.specs.Load.{LoadSays}
use Rattle.elf.specs.Lengthening.{ForBytes, ForRoom}
use Rattle.elf.proofs.FitsLaws.{plan_inside}
use Rattle.elf.proofs.Lengthened.{for_segment, plan_longer}

-- guest memory grows: the plan is the same, or it refused for room
pub plan_keeps : (image : List ℕ) (m m' : Memory) (offset highmem : Option GuestAddress) → Grows m m' → allowed m'.size ≡ allowed m.size
    → good_map m'.size m'.map ≡ good_map m.size m.map → Keeps (LiftPlan Err ForRoom) (plan_of image m offset highmem) (plan_of image m' offset highmem)
plan_keeps image m m' offset highmem grows both maps =
    subst (λ s. Keeps (LiftPlan Err ForRoom) (plan_of image m offset highmem) (plan_of s m' offset highmem)) (append-nil image)
    (plan_longer image [] ForRoom (λ _ _. inl refl) m m' grows refl offset highmem
    (lent_stays ForRoom m m' both maps (length image) (length (image ++ [])) (ap (λ s. allowed (length s)) (append-nil image))))

module _ (offset highmem : Option GuestAddress) (image : List ℕ) (map : Map) (before : List ℕ) {r r' : Answer} {after after' : List ℕ}
    (says : LoadSays image offset highmem map before r after) where
  -- the image lengthened by bytes and the slice by more, either of which may be nothing, and another map
  kept_by : (Lifts : Refusal → Type 0) → Lifts ReadKernelImage → (bytes more : List ℕ) (map' : Map) → ((r : Refusal) → ForBytes r → (bytes ≡ []) ⊎ Lifts r)
      → allowed (length (image ++ bytes)) ≡ allowed (length image) → allowed (length (before ++ more)) ≡ allowed (length before)
      → good_map (length (before ++ more)) map' ≡ good_map (length before) map → Grows (memory_of before map) (memory_of (before ++ more) map')
      → LoadSays (image ++ bytes) offset highmem map' (before ++ more) r' after' → (RefusedFor Err Lifts r → ⊥) → (r' ≡ r) × (after' ≡ after ++ more)
  kept_by Lifts lifts-room bytes more map' lifts images guests maps grows says' stays =
      load_kept (plan_of image (memory_of before map) offset highmem) before after says (RefusedFor Err Lifts) (memory_of before map)
      (plan_inside image (memory_of before map) offset highmem) (omega arith)
      (plan_longer image bytes Lifts lifts (memory_of before map) (memory_of (before ++ more) map') grows lifts-room offset highmem
      (lent_stays Lifts (memory_of before map) (memory_of (before ++ more) map') guests maps (length image) (length (image ++ bytes)) images))
      more says' stays

  -- guest memory grows, its slice lengthened by more, which may be nothing, and the image is lengthened by bytes
  pub both_grow : (bytes more : List ℕ) (map' : Map) → length (image ++ bytes) ≤ longest → length (before ++ more) ≤ longest
      → good_map (length before) map ≡ true → good_map (length (before ++ more)) map' ≡ true → Grows (memory_of before map) (memory_of (before ++ more) map')
      → LoadSays (image ++ bytes) offset highmem map' (before ++ more) r' after' → (RefusedFor Err ForBytes r → ⊥)
      → (r' ≡ r) × (after' ≡ after ++ more)
  both_grow bytes more map' short short-guest good good' grows says' stays =
      kept_by ForBytes for_segment bytes more map' (λ _ for. inr for) (allowed_longer image bytes short) (allowed_longer before more short-guest)
      (good' ∙ sym good) grows says' stays

  -- the image is lengthened alone
  pub image_longer : (bytes : List ℕ) → length (image ++ bytes) ≤ longest → LoadSays (image ++ bytes) offset highmem map before r' after'
      → (RefusedFor Err ForBytes r → ⊥) → (r' ≡ r) × (after' ≡ after)
  image_longer bytes short says' stays =
      let both =
      kept_by ForBytes for_segment bytes [] map (λ _ for. inr for) (allowed_longer image bytes short) (ap (λ l. allowed (length l)) (append-nil before))
      (ap (λ l. good_map (length l) map) (append-nil before)) (longer_grows before [] map)
      (subst⁻¹ (λ g. LoadSays (image ++ bytes) offset highmem map g r' after') (append-nil before) says') stays in
      (both.0, both.1 ∙ append-nil after)
