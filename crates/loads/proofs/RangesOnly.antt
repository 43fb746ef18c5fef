-- A plan depends on the size of memory and on the ranges of its map, and on nothing else: what the unused elements of the map hold makes no difference.
use Rattle.std.specs.Prelude.{Err, Option}
use Rattle.guest.specs.declared.GuestAddress.{GuestAddress}
use Rattle.guest.specs.Answers.{Answer}
use Prim.Native.Nat.{ℕ}
use mathlib.Core.Path.{◌≡◌, sym, ◌∙◌, refl, ap}
use mathlib.Core.Bool.{Bool, true}
use mathlib.Core.List.{List, [], ◌∷◌, ◌++◌}
use lib.Dec.{eqb}
use lib.ListN.{length}
use Rattle.answers.specs.Pick.{pick}
use Rattle.answers.specs.Tests.{Test}
use Rattle.answers.specs.declared.Refusal.TheVariants.{ReadBzImageCompressedKernel, NoRoomForImage, ImageEndWraps}
use Rattle.fields.specs.Ranges.{fits64}
use Rattle.guest.specs.Addresses.{amount_of}
use Rattle.guest.specs.Lent.{lent_tests}
use Rattle.guest.specs.Loading.{behind_tests}
use Rattle.guest.specs.Maps.{ranges_of}
use Rattle.guest.specs.Room.{room, room_for}
use Rattle.guest.specs.declared.Memory.{Memory}
use Rattle.guest.proofs.RoomLaws.{room_ranges, lent_ranges}
use Rattle.elf.specs.Header.{header_tests, e_phnum_of}
use Rattle.elf.specs.Pouring as elf
use Rattle.elf.specs.Survey.{survey_of, blank, load_address}
use Rattle.elf.proofs.SameRooms.{survey_same}
use Rattle.bzimage.specs.Kernel.{kernel_size, load_of}
use Rattle.bzimage.specs.Plan as bzimage
use Rattle.arm64.specs.Image.{start_of, image_size}
use Rattle.arm64.specs.Plan as arm64
use Rattle.loads.specs.Formats.{plan_of}
use Rattle.loads.specs.declared.Format.{Format}
use Rattle.loads.specs.declared.Format.TheVariants.{Elf, BzImage, Arm64}
use Rattle.loads.specs.declared.Options.{Options}
use Rattle.loads.proofs.FormatsLaws.{elf_plan, bzimage_plan, arm64_plan}

module _ (image : List ℕ) (m m' : Memory) (size : m.size ≡ m'.size) (count : m.map.count ≡ m'.map.count)
    (ranges : ranges_of m.map ≡ ranges_of m'.map) where
  rows : lent_tests (length image) m ≡ lent_tests (length image) m'
  rows = lent_ranges m m' size count ranges (length image)

  rooms : (address n : ℕ) → room m address n ≡ room m' address n
  rooms = room_ranges m m' size count ranges

  elf_same : (offset highmem : Option GuestAddress) → elf.plan_of image m offset highmem ≡ elf.plan_of image m' offset highmem
  elf_same offset highmem =
      ap (λ (row : List Test). behind_tests Err (row ++ header_tests image offset highmem) (elf.survey_plan image offset (survey_of image (room m) offset))) rows
      ∙ ap (λ (a : Answer). behind_tests Err (lent_tests (length image) m' ++ header_tests image offset highmem) (elf.survey_plan image offset a))
      (survey_same (room m) (room m') (λ address n _. rooms address n) (e_phnum_of image) image offset 0 (blank (load_address image offset)))

  bzimage_same : (offset highmem : Option GuestAddress) → bzimage.plan_of image m offset highmem ≡ bzimage.plan_of image m' offset highmem
  unfolding room_for
  bzimage_same offset highmem =
      let plan = bzimage.kernel_plan image (load_of image offset) in
      let tested = bzimage.image_tests image highmem in
      ap (λ (row : List Test). behind_tests Err (row ++ tested ++ bzimage.room_tests image m offset) plan) rows
      ∙ ap (λ (b : Bool). behind_tests Err (lent_tests (length image) m' ++ tested ++ ((pick (eqb (kernel_size image) 0) true b, ReadBzImageCompressedKernel) ∷ [])) plan)
      (rooms (load_of image offset).0 (kernel_size image))

  arm64_same : (base : ℕ) → arm64.plan_of image m base ≡ arm64.plan_of image m' base
  arm64_same base =
      let tested = arm64.image_tests image base in
      ap (λ (row : List Test). behind_tests Err (row ++ tested ++ arm64.place_tests image m base) (arm64.image_plan image base)) rows
      ∙ ap
      (λ (b : Bool). behind_tests Err
      (lent_tests (length image) m' ++ tested ++ ((b, NoRoomForImage) ∷ (fits64 (start_of image base) (image_size image), ImageEndWraps) ∷ []))
      (arm64.image_plan image base))
      (rooms (start_of image base) (length image))

  module _ (o : Options) where
    same_by : (f : Format) → o.format ≡ f → plan_of image m o ≡ plan_of image m' o
    same_by Elf e = elf_plan image m o e ∙ elf_same o.kernel_offset o.highmem_start ∙ sym (elf_plan image m' o e)
    same_by BzImage e = bzimage_plan image m o e ∙ bzimage_same o.kernel_offset o.highmem_start ∙ sym (bzimage_plan image m' o e)
    same_by Arm64 e = arm64_plan image m o e ∙ arm64_same (amount_of o.kernel_offset) ∙ sym (arm64_plan image m' o e)

    pub ranges_only : plan_of image m o ≡ plan_of image m' o
    ranges_only = same_by o.format refl
