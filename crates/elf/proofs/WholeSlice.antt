-- "The whole_slice map, or no range over an empty slice, gives today's answers", of an ELF load: over that map the plan is the one of a slice with
-- no map, whatever the image and the options, so every answer and every byte is the same.
use Rattle.std.specs.Prelude.{Option}
use Rattle.guest.specs.declared.GuestAddress.{GuestAddress}
use Prim.Native.Nat.{ℕ}
use mathlib.Core.Path.{◌≡◌}
use mathlib.Core.List.{List}
use lib.ListN.{length}
use Rattle.answers.specs.Tests.{asked, pass}
use Rattle.answers.specs.declared.Refusal.TheVariants as refusal
use Rattle.fields.specs.Ranges.{lies_within}
use Rattle.guest.specs.Loading.{behind_tests}
use Rattle.guest.specs.Sizes.{allowed}
use Rattle.guest.specs.Room.{room, whole_of}
use Rattle.guest.proofs.RoomLaws.{whole_room, whole_lent}
use Rattle.elf.specs.Header.{header_tests, e_phnum_of}
use Rattle.elf.specs.Pouring.{plan_of}
use Rattle.elf.specs.Survey.{blank, load_address}
use Rattle.elf.specs.WholeSlice.{plan_within}
use Rattle.elf.proofs.SameRooms.{survey_same}

pub whole_slice : (image : List ℕ) (size : ℕ) (offset highmem : Option GuestAddress) → plan_of image (whole_of size) offset highmem ≡ plan_within image size offset highmem
unfolding behind_tests
whole_slice image size offset highmem =
    rw (
      whole_lent (asked pass (allowed (length image)) refusal.SliceTooLong) size (header_tests image offset highmem),
      survey_same (room (whole_of size)) (lies_within size) (whole_room size) (e_phnum_of image) image offset 0 (blank (load_address image offset)),
    )
