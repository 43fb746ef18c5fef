-- The checks that every boot has, however it is entered: after those of the pieces' own calls.
use Rattle.std.specs.Prelude.{ℕ, ◌+◌, ◌≤◌, ◌<◌, ◌≡◌, List, [], ◌∷◌, ◌++◌, leb, Some, None, Option}
use Rattle.answers.specs.Tests.{Test, asked_all, Check, pass}
use Rattle.answers.specs.declared.Refusal.TheVariants as refusal
use Rattle.bzimage.specs.Protocol.{line_limit}
use Rattle.guest.specs.Room.{room_for}
use Rattle.guest.specs.declared.Extent.{Extent}
use Rattle.guest.specs.declared.Memory.{Memory}
use Rattle.loads.specs.declared.Format.{Format}
use Rattle.loads.specs.declared.Format.TheVariants.{Elf, BzImage, Arm64}
use Rattle.loads.specs.declared.Options.{Options}
use Rattle.boot.specs.Kernel.{apart_from, kernel_apart, kernel_room, kernel_listed}
use Rattle.boot.specs.Rows.{listed}

-- ---- how long a line the kernel takes, its zero not counted

-- what the caller gives; Linux's own on ELF and arm64 is 2,047
unfoldable pub given_limit : Option ℕ → ℕ
given_limit None = 2047
given_limit (Some n) = n

-- a bzImage says it itself
unfoldable pub limit_by : Format → List ℕ → Option ℕ → ℕ
limit_by Elf image limit = given_limit limit
limit_by BzImage image limit = line_limit image
limit_by Arm64 image limit = given_limit limit

abbrev pub limit_of : List ℕ → Options → Option ℕ → ℕ
limit_of image o limit = limit_by o.format image limit

-- what a reader of it answers
pub record LimitIs (image : List ℕ) (o : Options) (limit : Option ℕ) (r : ℕ) : Type 0 where
  pub value : r ≡ limit_of image o limit
  pub small : r < 4294967296

-- a line of this size, its zero counted
abbrev pub limit_tests : ℕ → ℕ → List Test
limit_tests limit size = (leb size (limit + 1), refusal.LineTooLong) ∷ []

-- what the check of it answers; a line that passes is short enough to be summed
pub record LineChecked (limit size : ℕ) (r : Check) : Type 0 where
  pub checked : r ≡ asked_all pass (limit_tests limit size)
  pub short : r ≡ pass → size ≤ 4294967296

-- ---- the pieces, by their ranges

-- each lies in one range of guest memory
abbrev pub room_tests : Memory → List ℕ → Options → Extent → Extent → List Test
room_tests m image o ramdisk bootData =
    (kernel_room m image o, refusal.KernelOutside)
    ∷ (room_for m ramdisk.at.0 ramdisk.size, refusal.RamdiskOutside)
    ∷ (room_for m bootData.at.0 bootData.size, refusal.BootDataOutside)
    ∷ []

-- no two of them share a byte
abbrev pub apart_tests : List ℕ → Options → Extent → Extent → Extent → List Test
apart_tests image o line ramdisk bootData =
    (kernel_apart image o line, refusal.KernelMeetsLine)
    ∷ (kernel_apart image o ramdisk, refusal.KernelMeetsRamdisk)
    ∷ (kernel_apart image o bootData, refusal.KernelMeetsBootData)
    ∷ (apart_from line ramdisk, refusal.LineMeetsRamdisk)
    ∷ (apart_from line bootData, refusal.LineMeetsBootData)
    ∷ (apart_from ramdisk bootData, refusal.RamdiskMeetsBootData)
    ∷ []

-- kernel, line and ramdisk lie in rows of type 1 of the guest's memory map
abbrev pub row_tests : ℕ → List ℕ → List ℕ → Options → Extent → Extent → List Test
row_tests width rows image o line ramdisk =
    (kernel_listed width rows image o, refusal.KernelNotInRows)
    ∷ (listed width rows line, refusal.LineNotInRows)
    ∷ (listed width rows ramdisk, refusal.RamdiskNotInRows)
    ∷ []

abbrev pub pieces_tests : Memory → List ℕ → Options → ℕ → List ℕ → Extent → Extent → Extent → List Test
pieces_tests m image o width rows line ramdisk bootData =
    room_tests m image o ramdisk bootData ++ (apart_tests image o line ramdisk bootData ++ row_tests width rows image o line ramdisk)
