-- The sentence "a number is given exactly when its turn comes in the order and its condition holds": a load is accepted exactly where
-- every test holds, and refused exactly by the first test that fails, with that refusal's number. And the results: the address and the end.
use Rattle.std.specs.Prelude.{Ok, Err}
use Prim.Native.Nat.{ℕ}
use mathlib.Core.Path.{◌≡◌, sym, ◌∙◌, refl, ap}
use mathlib.Core.List.{List, [], ◌∷◌}
use Rattle.answers.specs.Catalogue.{number_of}
use Rattle.answers.specs.Tests.{Test, AllHold, FirstFails}
use Rattle.answers.specs.Listing.{contains, Listed, row_listed}
use Rattle.answers.specs.declared.Refusal.{Refusal}
use Rattle.answers.proofs.ListingLaws.{first_listed}
use Rattle.guest.specs.declared.Map.{Map}
use Rattle.guest.specs.declared.Memory.{Memory}
use Rattle.guest.specs.Loading.{Plan}
use Rattle.guest.specs.Room.{memory_of}
use Rattle.guest.proofs.LoadingLaws.{all_planned, first_planned}
use Rattle.guest.specs.declared.KernelLoaderResult.{KernelLoaderResult}
use Rattle.guest.specs.Answers.{answer_number, answer_values, pvh_code, pvh_address, pvh_place, pvh_size, Answer}
use Rattle.arm64.specs.Answers.{image_numbers}
use Rattle.arm64.specs.Image.{start_of, end_of}
use Rattle.arm64.specs.Plan.{tests, loaded_as, image_plan, plan_of, ImageLoads}
use Rattle.arm64.proofs.PlanLaws.{plan_loaded, plan_refused}

module _ (image : List ℕ) (base : ℕ) (map : Map) (guest : List ℕ) {r : Answer} {after : List ℕ} (loads : ImageLoads image base map guest r after) where
  abbrev row : List Test
  row = tests image (memory_of guest map) base

  -- ---- accepted exactly where every test holds

  pub accepted_where : AllHold row → r ≡ Ok (loaded_as image base)
  accepted_where h = loads.answer ∙ ap (λ (p : Plan Answer). p.answer) (all_planned Err row (image_plan image base) h)

  pub where_accepted : {k : KernelLoaderResult} → r ≡ Ok k → AllHold row × (k ≡ loaded_as image base)
  where_accepted e = plan_loaded image (memory_of guest map) base (sym loads.answer ∙ e)

  -- ---- refused exactly by the first test that fails

  pub refused_where : {refusal : Refusal} → FirstFails refusal row → r ≡ Err refusal
  refused_where f = loads.answer ∙ ap (λ (p : Plan Answer). p.answer) (first_planned Err row (image_plan image base) f)

  pub where_refused : {refusal : Refusal} → r ≡ Err refusal → FirstFails refusal row
  where_refused e = plan_refused image (memory_of guest map) base (sym loads.answer ∙ e)

  -- ---- the same by the catalogue: no number with the address, the end and no PVH entry, or the refusal's number alone

  pub accepted_values : AllHold row → (answer_number r ≡ 0) × (answer_values r ≡ start_of image base ∷ end_of image base ∷ 0 ∷ 0 ∷ 0 ∷ 0 ∷ [])
  unfolding answer_number answer_values pvh_code pvh_address pvh_place pvh_size
  accepted_values h = (ap answer_number (accepted_where h), ap answer_values (accepted_where h))

  pub refused_values : {refusal : Refusal} → FirstFails refusal row → (answer_number r ≡ number_of refusal) × (answer_values r ≡ [])
  unfolding answer_number answer_values
  refused_values f = (ap answer_number (refused_where f), ap answer_values (refused_where f))

-- "Bad input gets its listed number": a refusal has one of these numbers and no other
pub image_listed : (image : List ℕ) (m : Memory) (base : ℕ) {refusal : Refusal} → (plan_of image m base).answer ≡ Err refusal → Listed image_numbers refusal
unfolding row_listed contains
image_listed image m base e = first_listed image_numbers (tests image m base) refl (plan_refused image m base e)
