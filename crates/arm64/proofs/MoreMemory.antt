-- "Over a good map 87 alone may lift with more guest memory": where memory grows, within the limit and while the old map and the new are valid
-- ones, the plan is the same, or it refused with NoRoomForImage. What this says of a load is in `loads` (MoreMemory).
use Rattle.std.specs.Prelude.{Err}
use Prim.Native.Nat.{ℕ}
use mathlib.Core.Path.{◌≡◌, refl}
use mathlib.Core.List.{List}
use lib.ListN.{length}
use Rattle.answers.specs.Keeping.{Keeps, same}
use Rattle.answers.proofs.KeepingLaws.{Widens, end, stays, grows, widens_append, widens_same}
use Rattle.guest.specs.declared.Memory.{Memory}
use Rattle.guest.specs.Maps.{good_map}
use Rattle.guest.specs.Room.{Grows}
use Rattle.guest.specs.Sizes.{allowed}
use Rattle.guest.proofs.RoomLaws.{lent_stays}
use Rattle.guest.proofs.LoadingLaws.{LiftPlan, behind_keeps}
use Rattle.arm64.specs.Image.{start_of}
use Rattle.arm64.specs.Plan.{image_tests, tests, plan_of, ForRoom}

module _ (s : List ℕ) (m m' : Memory) (base : ℕ) (more : Grows m m') (both : allowed m'.size ≡ allowed m.size)
    (maps : good_map m'.size m'.map ≡ good_map m.size m.map) where
  rows_widen : Widens ForRoom (tests s m base) (tests s m' base)
  rows_widen =
      widens_append ForRoom (lent_stays ForRoom m m' both maps (length s) (length s) refl)
      (λ _. widens_append ForRoom (widens_same ForRoom (image_tests s base))
      (λ _. grows (more.rooms (start_of s base) (length s)) refl (λ _. stays refl (λ _. end))))

  pub plan_keeps : Keeps (LiftPlan Err ForRoom) (plan_of s m base) (plan_of s m' base)
  plan_keeps = behind_keeps Err ForRoom rows_widen (λ _. same)
