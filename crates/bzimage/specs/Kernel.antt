-- The kernel: where it lies in the image, and where it goes.
use Rattle.std.specs.Prelude.{ℕ, ◌+◌, ◌*◌, ◌-◌, ◌<◌, ◌≡◌, List, eqb, length, drop, Option}
use Rattle.answers.specs.Pick.{pick}
use Rattle.fields.specs.Numbers.{le}
use Rattle.guest.specs.declared.GuestAddress.{GuestAddress}
use Rattle.guest.specs.Addresses.{given_or}
use Rattle.bzimage.specs.SetupHeader.{setup_sects, code32_start}

-- the sectors of the setup: an image that says 0 means 4
unfoldable pub sectors_of : List ℕ → ℕ
sectors_of image = pick (eqb (le 1 image setup_sects) 0) 4 (le 1 image setup_sects)

-- what a reader of them answers
pub record Sectors (image : List ℕ) (r : ℕ) : Type 0 where
  pub value : r ≡ sectors_of image
  pub small : r < 256

-- the setup's size: its sectors and one more, of 512 bytes each
unfoldable pub setup_size : List ℕ → ℕ
setup_size image = (sectors_of image + 1) * 512

-- the kernel: the image from the setup size on
unfoldable pub kernel_of : List ℕ → List ℕ
kernel_of image = drop (setup_size image) image

-- its size: what the image has after the setup, and 0 where it ends before
unfoldable pub kernel_size : List ℕ → ℕ
kernel_size image = length image - setup_size image

-- code32_start, as the header says it
unfoldable pub start_of : List ℕ → GuestAddress
start_of image = record { 0 = le 4 image code32_start }

-- the load address: the offset if given, else code32_start
abbrev pub load_of : List ℕ → Option GuestAddress → GuestAddress
load_of image offset = given_or offset (start_of image)
