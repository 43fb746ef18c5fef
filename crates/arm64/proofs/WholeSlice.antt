-- "The whole_slice map, or no range over an empty slice", of an arm64 load: over that map the plan is the one of a slice with no map, whatever the image
-- and the base. An empty file, whose room the two ask for differently, is refused before.
use Rattle.std.specs.Prelude.{Ok, Err}
use Prim.Native.Nat.{ℕ, ◌≤◌}
use mathlib.Core.Path.{◌≡◌, sym, ◌∙◌, ap}
use mathlib.Core.Bool.{false}
use mathlib.Core.List.{List, ◌∷◌, ◌++◌}
use native.Mathlib.Omega.{arith}
use native.Mathlib.Decide.{dec_le}
use borrow.Author.Tests.{lt-leb}
use lib.ListN.{length}
use Rattle.answers.specs.Pick.{pick}
use Rattle.answers.specs.Tests.{Test, asked, asked_all, Check, pass}
use Rattle.answers.specs.declared.Refusal.{Refusal}
use Rattle.answers.specs.declared.Refusal.TheVariants.{SliceTooLong, ShortImage}
use Rattle.answers.proofs.TestsLaws.{shut_stays}
use Rattle.guest.specs.Loading.{behind_gate, behind_tests}
use Rattle.guest.specs.Room.{whole_of}
use Rattle.guest.specs.Sizes.{allowed}
use Rattle.guest.proofs.RoomLaws.{whole_room, whole_lent}
use Rattle.arm64.specs.Image.{header_size, start_of}
use Rattle.arm64.specs.Plan.{field_tests, image_tests, place_tests, image_plan, plan_of}
use Rattle.arm64.specs.WholeSlice.{places_within, tests_within, plan_within}

-- after a test that fails the rest is not asked
none_asked : (g : Check) (refusal : Refusal) (ts us : List Test) → asked_all g ((false, refusal) ∷ ts) ≡ asked_all g ((false, refusal) ∷ us)
unfolding asked pick
none_asked (Ok _) refusal ts us = shut_stays ts refusal ∙ sym (shut_stays us refusal)
none_asked (Err first) refusal ts us = shut_stays ts first ∙ sym (shut_stays us first)

module _ (image : List ℕ) (size base : ℕ) where
  -- what is lent, asked as it is with no map
  abbrev lent : Check
  lent = asked (asked pass (allowed (length image)) SliceTooLong) (allowed size) SliceTooLong

  by_length : Dec (1 ≤ length image) → asked_all lent (image_tests image base ++ place_tests image (whole_of size) base) ≡ asked_all pass (tests_within image size base)
  by_length (yes some) = rw (whole_room size (start_of image base) (length image) some)
  by_length (no none) = rw (lt-leb header_size (length image) (omega arith))
      (none_asked lent ShortImage (field_tests image base ++ place_tests image (whole_of size) base) (field_tests image base ++ places_within image size base))

  pub whole_slice : plan_of image (whole_of size) base ≡ plan_within image size base
  unfolding behind_tests
  whole_slice =
      ap (λ gate. behind_gate Err gate (image_plan image base))
      (whole_lent (asked pass (allowed (length image)) SliceTooLong) size (image_tests image base ++ place_tests image (whole_of size) base)
      ∙ by_length (dec_le 1 (length image)))
