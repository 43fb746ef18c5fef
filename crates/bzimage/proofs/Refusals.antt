-- The sentence "a number is given exactly when its turn comes in the order and its condition holds": a load is accepted exactly where
-- every test holds, and refused exactly by the first test that fails, with that refusal's number.
use Rattle.std.specs.Prelude.{Ok, Err, Option}
use Rattle.guest.specs.declared.GuestAddress.{GuestAddress}
use Prim.Native.Nat.{ℕ, ◌+◌}
use mathlib.Core.Path.{◌≡◌, sym, ◌∙◌, refl, ap}
use mathlib.Core.List.{List, [], ◌∷◌}
use Rattle.answers.specs.Catalogue.{number_of}
use Rattle.answers.specs.Tests.{Test, AllHold, FirstFails}
use Rattle.answers.specs.Listing.{contains, Listed, row_listed}
use Rattle.answers.specs.declared.Refusal.{Refusal}
use Rattle.answers.proofs.ListingLaws.{first_listed}
use Rattle.guest.specs.declared.Map.{Map}
use Rattle.guest.specs.declared.Memory.{Memory}
use Rattle.guest.specs.Loading.{Plan}
use Rattle.guest.specs.Room.{memory_of}
use Rattle.guest.proofs.LoadingLaws.{all_planned, first_planned}
use Rattle.guest.specs.declared.KernelLoaderResult.{KernelLoaderResult}
use Rattle.guest.specs.Answers.{answer_number, answer_values, pvh_code, pvh_address, pvh_place, pvh_size, Answer}
use Rattle.bzimage.specs.Answers.{bz_image_numbers}
use Rattle.bzimage.specs.Kernel.{kernel_size, load_of}
use Rattle.bzimage.specs.Plan.{tests, loaded_as, kernel_plan, plan_of, KernelLoads}
use Rattle.bzimage.proofs.PlanLaws.{plan_loaded, plan_refused}

module _ (image : List ℕ) (offset highmem : Option GuestAddress) (map : Map) (guest : List ℕ) {r : Answer} {after : List ℕ} (loads : KernelLoads image offset highmem map guest r after) where
  abbrev row : List Test
  row = tests image (memory_of guest map) offset highmem

  planned : (plan_of image (memory_of guest map) offset highmem).answer ≡ r
  planned = sym loads.answer

  -- ---- accepted exactly where every test holds

  pub accepted_where : AllHold row → r ≡ Ok (loaded_as image (load_of image offset))
  accepted_where h = loads.answer ∙ ap (λ (p : Plan Answer). p.answer) (all_planned Err row (kernel_plan image (load_of image offset)) h)

  pub where_accepted : {k : KernelLoaderResult} → r ≡ Ok k → AllHold row
  where_accepted e = (plan_loaded image (memory_of guest map) offset highmem (planned ∙ e)).0

  -- ---- refused exactly by the first test that fails

  pub refused_where : {refusal : Refusal} → FirstFails refusal row → r ≡ Err refusal
  refused_where f = loads.answer ∙ ap (λ (p : Plan Answer). p.answer) (first_planned Err row (kernel_plan image (load_of image offset)) f)

  pub where_refused : {refusal : Refusal} → r ≡ Err refusal → FirstFails refusal row
  where_refused e = plan_refused image (memory_of guest map) offset highmem (planned ∙ e)

  -- ---- the same by the catalogue: no number with the load address, the kernel's end and no PVH entry, or the refusal's number alone

  pub accepted_values : AllHold row
      → (answer_number r ≡ 0) × (answer_values r ≡ (load_of image offset).0 ∷ ((load_of image offset).0 + kernel_size image) ∷ 0 ∷ 0 ∷ 0 ∷ 0 ∷ [])
  unfolding answer_number answer_values pvh_code pvh_address pvh_place pvh_size
  accepted_values h =
      (ap answer_number (accepted_where h), ap answer_values (accepted_where h))

  pub refused_values : {refusal : Refusal} → FirstFails refusal row → (answer_number r ≡ number_of refusal) × (answer_values r ≡ [])
  unfolding answer_number answer_values
  refused_values f =
      (ap answer_number (refused_where f), ap answer_values (refused_where f))

-- "Bad input gets its listed number": a refusal has one of these numbers and no other
pub bzimage_listed : (image : List ℕ) (m : Memory) (offset highmem : Option GuestAddress) {refusal : Refusal} → (plan_of image m offset highmem).answer ≡ Err refusal
    → Listed bz_image_numbers refusal
unfolding row_listed contains
bzimage_listed image m offset highmem e = first_listed bz_image_numbers (tests image m offset highmem) refl (plan_refused image m offset highmem e)
