-- The sentence that memory which grows, within the limit and while the old map and the new are good ones, keeps an accepted loading and the
-- refusal InvalidCommandLine, and that CommandLineOverflow alone may lift; the old bytes are as they were before, and the added ones untouched.
use Rattle.answers.specs.Tests.{Check}
use Rattle.std.specs.Prelude.{Err}
use Prim.Native.Nat.{ℕ, ◌≤◌}
use mathlib.Core.Path.{◌≡◌, sym, ◌∙◌, refl}
use mathlib.Core.Bool.{true}
use mathlib.Core.List.{List, ◌++◌}
use native.Mathlib.Omega.{arith}
use lib.ListN.{length, length-append}
use Rattle.answers.specs.Keeping.{same}
use Rattle.answers.proofs.KeepingLaws.{Widens, end, grows, widens_append, widens_same}
use Rattle.cmdline.specs.Text.{Text}
use Rattle.guest.specs.Loading.{RefusedFor}
use Rattle.guest.specs.Maps.{good_map}
use Rattle.guest.specs.Room.{Grows, Larger, memory_of}
use Rattle.guest.specs.Sizes.{allowed, longest}
use Rattle.guest.specs.Stream.{Inside}
use Rattle.guest.specs.declared.Map.{Map}
use Rattle.guest.specs.declared.Memory.{Memory}
use Rattle.guest.proofs.MapsLaws.{good_longer}
use Rattle.guest.proofs.RoomLaws.{longer_grows, larger_grows, allowed_longer, memory_stays}
use Rattle.guest.proofs.StreamLaws.{inside_at}
use Rattle.guest.proofs.LoadingLaws.{load_kept, behind_inside, behind_keeps}
use Rattle.loader.specs.Lines.{line_bytes, text_row, tests, line_plan, plan_of, ForRoom, LineLoads}
use Rattle.loader.proofs.LinesLaws.{hold_room}

module _ (t : Text) (m : Memory) (address : ℕ) where
  pub plan_inside : Inside m (plan_of t m address).stream
  plan_inside =
      behind_inside Err (tests t m address) (line_plan t address) m
      (λ hold. inside_at m address (length (line_bytes t)) (line_bytes t) (hold_room t m address hold) (omega arith))

  rows_widen : (m' : Memory) → Grows m m' → allowed m'.size ≡ allowed m.size → good_map m'.size m'.map ≡ good_map m.size m.map
      → Widens ForRoom (tests t m address) (tests t m' address)
  rows_widen m' more both maps =
      widens_append ForRoom (memory_stays ForRoom m m' both maps)
      (λ _. widens_append ForRoom (widens_same ForRoom (text_row t)) (λ _. grows (more.rooms address (length (line_bytes t))) refl (λ _. end)))

-- ---- of the loading's contract

module _ (t : Text) (address : ℕ) (map : Map) (guest more : List ℕ) {r r' : Check} {after after' : List ℕ}
    (before : LineLoads t address map guest r after) (short : length (guest ++ more) ≤ longest) (good : good_map (length guest) map ≡ true)
    (stays : RefusedFor Err ForRoom r → ⊥) where
  pub guest_grows : (map' : Map) → good_map (length (guest ++ more)) map' ≡ true → Grows (memory_of guest map) (memory_of (guest ++ more) map')
      → LineLoads t address map' (guest ++ more) r' after' → (r' ≡ r) × (after' ≡ after ++ more)
  guest_grows map' good' more_Room longer =
      load_kept (plan_of t (memory_of guest map) address) guest after before (RefusedFor Err ForRoom) (memory_of guest map)
      (plan_inside t (memory_of guest map) address) (omega arith)
      (behind_keeps Err ForRoom
      (rows_widen t (memory_of guest map) address (memory_of (guest ++ more) map') more_Room (allowed_longer guest more short) (good' ∙ sym good)) (λ _. same))
      more longer stays

  -- the slice is lengthened alone, or memory is made larger in any of the ways
  pub guest_longer : LineLoads t address map (guest ++ more) r' after' → (r' ≡ r) × (after' ≡ after ++ more)
  guest_longer =
      guest_grows map (good_longer (length guest) (length (guest ++ more)) map (simp length-append (omega arith)) good) (longer_grows guest more map)

  pub guest_larger : (map' : Map) → good_map (length (guest ++ more)) map' ≡ true → Larger (memory_of guest map) (memory_of (guest ++ more) map')
      → LineLoads t address map' (guest ++ more) r' after' → (r' ≡ r) × (after' ≡ after ++ more)
  guest_larger map' good' larger = guest_grows map' good' (larger_grows larger)
