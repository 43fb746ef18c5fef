-- "The whole file goes to base + text offset": after an accepted load each byte of guest memory is the file's byte that goes there, or as it was.
use Rattle.std.specs.Prelude.{Ok}
use Rattle.guest.specs.Answers.{Answer}
use Prim.Native.Nat.{ℕ}
use mathlib.Core.Path.{◌≡◌, sym, ◌∙◌, ap}
use mathlib.Core.List.{List}
use native.Mathlib.Omega.{arith}
use Rattle.guest.specs.declared.Map.{Map}
use Rattle.guest.specs.Loading.{Plan}
use Rattle.guest.specs.Room.{memory_of}
use Rattle.guest.specs.Stream.{pour, Stands}
use Rattle.guest.proofs.StreamLaws.{poured_stands}
use Rattle.guest.specs.declared.KernelLoaderResult.{KernelLoaderResult}
use Rattle.arm64.specs.Image.{start_of}
use Rattle.arm64.specs.Plan.{ImageLoads}
use Rattle.arm64.proofs.PlanLaws.{hold_room, plan_loaded, loaded_plan}

module _ (image : List ℕ) (base : ℕ) (map : Map) (guest : List ℕ) {r : Answer} {after : List ℕ} (loads : ImageLoads image base map guest r after) where
  pub file_written : {k : KernelLoaderResult} → r ≡ Ok k → Stands image (start_of image base) guest after
  file_written e =
      let m = memory_of guest map in
      let is = sym loads.answer ∙ e in
      poured_stands image (start_of image base) guest m (λ _. hold_room image m base (plan_loaded image m base is).0) (omega arith)
      (loads.memory ∙ ap (λ (p : Plan Answer). pour p.stream guest) (loaded_plan image m base is))
