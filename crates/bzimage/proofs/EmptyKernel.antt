-- The sentence "a kernel of 0 bytes: accepted at any address, nothing written": where such an image is accepted once, it is accepted at every
-- address and in guest memory of every allowed size, and guest memory stays as it was.
use Rattle.std.specs.Prelude.{Ok, Err, Option}
use Rattle.guest.specs.declared.GuestAddress.{GuestAddress}
use Rattle.guest.specs.Answers.{Answer}
use Prim.Native.Nat.{ℕ}
use mathlib.Core.Path.{◌≡◌, ◌∙◌, refl, ap}
use mathlib.Core.List.{List, [], ◌∷◌, ◌++◌}
use native.Mathlib.Omega.{arith}
use lib.ListN.{length}
use Rattle.answers.specs.Tests.{AllHold}
use Rattle.answers.proofs.TestsLaws.{hold_left, hold_right, hold_append}
use Rattle.guest.specs.declared.Map.{Map}
use Rattle.guest.specs.declared.Memory.{Memory}
use Rattle.guest.specs.Lent.{lent_tests}
use Rattle.guest.specs.Loading.{Plan}
use Rattle.guest.specs.Room.{memory_of}
use Rattle.guest.specs.Stream.{stream_at}
use Rattle.guest.proofs.LoadingLaws.{nothing_written, behind_with}
use Rattle.bzimage.specs.Kernel.{kernel_size, kernel_of, load_of}
use Rattle.bzimage.specs.Plan.{image_tests, room_tests, tests, loaded_as, kernel_plan, plan_of, KernelLoads}
use Rattle.bzimage.proofs.KernelLaws.{length_kernel}
use Rattle.guest.proofs.RoomLaws.{room_for_none}
use Rattle.bzimage.proofs.Refusals.{accepted_where}

no_bytes : (vs : List ℕ) → length vs ≡ 0 → vs ≡ []
no_bytes [] e = refl
no_bytes (v ∷ vs) e = absurd (omega arith)

module _ (image : List ℕ) (offset highmem : Option GuestAddress) (map : Map) (guest : List ℕ) {r : Answer} {after : List ℕ} (loads : KernelLoads image offset highmem map guest r after)
    (empty : kernel_size image ≡ 0) where
  -- where the tests of the image hold once, with any offset and memory
  pub accepted_anywhere : (other : Option GuestAddress) (m : Memory) → AllHold (tests image m other highmem) → AllHold (lent_tests (length image) (memory_of guest map))
      → r ≡ Ok (loaded_as image (load_of image offset))
  accepted_anywhere other m once lent =
      let of_image =
      hold_left (image_tests image highmem) (room_tests image m other)
      (hold_right (lent_tests (length image) m) (image_tests image highmem ++ room_tests image m other) once) in
      let rooms : AllHold (room_tests image (memory_of guest map) offset) = (room_for_none (memory_of guest map) (load_of image offset).0 (kernel_size image) empty, tt) in
      accepted_where image offset highmem map guest loads
      (hold_append (lent_tests (length image) (memory_of guest map)) (image_tests image highmem ++ room_tests image (memory_of guest map) offset) lent
      (hold_append (image_tests image highmem) (room_tests image (memory_of guest map) offset) of_image rooms))

  -- whatever is answered
  pub empty_untouched : after ≡ guest
  unfolding stream_at
  empty_untouched =
      let none = no_bytes (kernel_of image) (length_kernel image ∙ empty) in
      nothing_written (plan_of image (memory_of guest map) offset highmem) guest after loads
      (behind_with Err (tests image (memory_of guest map) offset highmem) (kernel_plan image (load_of image offset)) (λ (p : Plan Answer). p.stream ≡ [])
      (λ _. ap (stream_at (load_of image offset).0) none) (λ _ _. refl))
