-- "The whole_slice map, or no range over an empty slice, gives today's answers", of a bzImage load: over that map the plan is the one of a slice
-- with no map, whatever the image and the options, so every answer, every header and every byte is the same.
use Rattle.std.specs.Prelude.{Option}
use Rattle.guest.specs.declared.GuestAddress.{GuestAddress}
use Prim.Native.Nat.{ℕ}
use mathlib.Core.Path.{◌≡◌, refl}
use mathlib.Core.Bool.{Bool, true, false}
use mathlib.Core.List.{List, ◌++◌}
use native.Mathlib.Omega.{arith}
use borrow.Author.Tests.{eqb-false}
use lib.Dec.{eqb}
use lib.ListN.{length}
use Rattle.answers.specs.Pick.{pick}
use Rattle.answers.specs.Tests.{asked, pass}
use Rattle.answers.specs.declared.Refusal.TheVariants.{SliceTooLong}
use Rattle.guest.specs.Loading.{behind_tests}
use Rattle.guest.specs.Room.{room_for, whole_of}
use Rattle.guest.specs.Sizes.{allowed}
use Rattle.guest.proofs.RoomLaws.{whole_room, whole_lent}
use Rattle.bzimage.specs.Kernel.{kernel_size, load_of}
use Rattle.bzimage.specs.Plan.{image_tests, room_tests, plan_of}
use Rattle.bzimage.specs.WholeSlice.{room_within, plan_within}

room_whole : (size address n : ℕ) → room_for (whole_of size) address n ≡ room_within size address n
unfolding room_for room_within pick
room_whole size address n = by (eqb n 0) refl
  where
    by : (b : Bool) → eqb n 0 ≡ b → room_for (whole_of size) address n ≡ room_within size address n
    by true e = rw e
    by false e = let some = eqb-false n 0 e in rw (whole_room size address n (omega arith))

pub whole_slice : (image : List ℕ) (size : ℕ) (offset highmem : Option GuestAddress) → plan_of image (whole_of size) offset highmem ≡ plan_within image size offset highmem
unfolding behind_tests
whole_slice image size offset highmem =
    rw (
      whole_lent (asked pass (allowed (length image)) SliceTooLong) size (image_tests image highmem ++ room_tests image (whole_of size) offset),
      room_whole size (load_of image offset).0 (kernel_size image),
    )
