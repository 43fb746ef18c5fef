-- "Demand 3 counts 14 among the refusals that more room does not lift": a segment with more bytes in the file than in memory is refused the
-- same, however guest memory grows, the image is lengthened, or both.
use Rattle.std.specs.Prelude.{Err, Option}
use Rattle.guest.specs.declared.GuestAddress.{GuestAddress}
use Rattle.guest.specs.Answers.{Answer}
use Prim.Native.Nat.{ℕ, ◌≤◌}
use mathlib.Core.Path.{◌≡◌, sym, ◌∙◌, ap, subst}
use mathlib.Core.Bool.{true}
use mathlib.Core.List.{List, ◌++◌}
use native.Mathlib.Omega.{arith}
use lib.ListN.{length}
use Rattle.answers.specs.Listing.{contains}
use Rattle.answers.specs.declared.Refusal.{Refusal}
use Rattle.answers.specs.declared.Refusal.TheVariants.{InvalidProgramHeaderFileSize}
use Rattle.answers.proofs.KeepingLaws.{kept}
use Rattle.guest.specs.Loading.{Plan, RefusedFor}
use Rattle.guest.specs.Maps.{good_map}
use Rattle.guest.specs.Room.{Grows, memory_of}
use Rattle.guest.specs.Sizes.{longest}
use Rattle.guest.specs.declared.Map.{Map}
use Rattle.guest.proofs.LoadingLaws.{LiftPlan}
use Rattle.guest.proofs.RoomLaws.{allowed_longer}
use Rattle.elf.specs.Load.{LoadSays}
use Rattle.elf.specs.Lengthening.{ForBytes, ForRoom}
use Rattle.elf.proofs.MoreMemory.{plan_keeps, image_longer, both_grow}

-- it is of no kind that may lift
not_bytes : {r : Refusal} → ForBytes r → r ≡ InvalidProgramHeaderFileSize → ⊥
unfolding contains
not_bytes for e = let found = subst ForBytes e for in let w : ◌≡◌ {A = ℕ} 0 1 = cc in omega arith

not_room : {r : Refusal} → ForRoom r → r ≡ InvalidProgramHeaderFileSize → ⊥
not_room for e = let w : ◌≡◌ {A = ℕ} 0 1 = cc in omega arith

same_refusal : {r : Refusal} → ◌≡◌ {A = Answer} (Err InvalidProgramHeaderFileSize) (Err r) → r ≡ InvalidProgramHeaderFileSize
same_refusal e = cc

stays_for : {Lifts : Refusal → Type 0} {r : Answer} → ((x : Refusal) → Lifts x → x ≡ InvalidProgramHeaderFileSize → ⊥) → r ≡ Err InvalidProgramHeaderFileSize
    → RefusedFor Err Lifts r → ⊥
stays_for other e l = other l.refusal l.lifts (same_refusal (sym e ∙ l.is))

module _ (offset highmem : Option GuestAddress) (image : List ℕ) (map : Map) (before : List ℕ) {r r' : Answer} {after after' : List ℕ}
    (says : LoadSays image offset highmem map before r after) (is : r ≡ Err InvalidProgramHeaderFileSize) where
  pub stays_guest : (more : List ℕ) (map' : Map) → length (before ++ more) ≤ longest → good_map (length before) map ≡ true
      → good_map (length (before ++ more)) map' ≡ true → Grows (memory_of before map) (memory_of (before ++ more) map')
      → LoadSays image offset highmem map' (before ++ more) r' after' → r' ≡ Err InvalidProgramHeaderFileSize
  stays_guest more map' short good good' grows says' =
      says'.answer
      ∙ ap (λ (p : Plan Answer). p.answer)
      (kept (LiftPlan Err ForRoom)
      (plan_keeps image (memory_of before map) (memory_of (before ++ more) map') offset highmem grows (allowed_longer before more short) (good' ∙ sym good))
      (stays_for (λ _. not_room) (sym says.answer ∙ is)))
      ∙ sym says.answer
      ∙ is

  pub stays_image : (bytes : List ℕ) → length (image ++ bytes) ≤ longest → LoadSays (image ++ bytes) offset highmem map before r' after'
      → r' ≡ Err InvalidProgramHeaderFileSize
  stays_image bytes short says' = (image_longer offset highmem image map before says bytes short says' (stays_for (λ _. not_bytes) is)).0 ∙ is

  pub stays_both : (bytes more : List ℕ) (map' : Map) → length (image ++ bytes) ≤ longest → length (before ++ more) ≤ longest
      → good_map (length before) map ≡ true → good_map (length (before ++ more)) map' ≡ true → Grows (memory_of before map) (memory_of (before ++ more) map')
      → LoadSays (image ++ bytes) offset highmem map' (before ++ more) r' after' → r' ≡ Err InvalidProgramHeaderFileSize
  stays_both bytes more map' short short-guest good good' grows says' =
      (both_grow offset highmem image map before says bytes more map' short short-guest good good' grows says' (stays_for (λ _. not_bytes) is)).0 ∙ is
