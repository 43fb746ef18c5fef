-- The plan of a load: the tests in their order, the answer, and the file that is written.
use Rattle.guest.specs.Answers.{Answer}
use Rattle.std.specs.Prelude.{ℕ, ◌%◌, ◌≡◌, List, [], ◌∷◌, ◌++◌, leb, ltb, eqb, length, Ok, Err}
use Rattle.answers.specs.Tests.{Test}
use Rattle.answers.specs.declared.Refusal.{Refusal}
use Rattle.answers.specs.declared.Refusal.TheVariants.{ShortImage, BadImageMagic, BigEndianImage, NoImageSize, UnalignedBase, ImageStartWraps, NoRoomForImage, ImageEndWraps}
use Rattle.fields.specs.Ranges.{fits64}
use Rattle.guest.specs.declared.Map.{Map}
use Rattle.guest.specs.declared.Memory.{Memory}
use Rattle.guest.specs.Lent.{lent_tests}
use Rattle.guest.specs.Loading.{Plan, Loads, behind_tests}
use Rattle.guest.specs.Room.{room, memory_of}
use Rattle.guest.specs.Stream.{stream_at}
use Rattle.guest.specs.declared.KernelLoaderResult.{KernelLoaderResult}
use Rattle.guest.specs.declared.PvhBootCapability.TheVariants.{PvhEntryIgnored}
use Rattle.arm64.specs.Image.{header_size, text_offset, image_size, flags, magic, the_magic, alignment, start_of, end_of}

-- the tests of the header's fields, and of the base
abbrev pub field_tests : List ℕ → ℕ → List Test
field_tests image base =
    (eqb (magic image) the_magic, BadImageMagic)
    -- bit 0: the kernel is big-endian
    ∷ (eqb (flags image % 2) 0, BigEndianImage)
    ∷ (ltb 0 (image_size image), NoImageSize)
    ∷ (eqb (base % alignment) 0, UnalignedBase)
    ∷ (fits64 base (text_offset image), ImageStartWraps)
    ∷ []

-- .. of an image that has a header
abbrev pub image_tests : List ℕ → ℕ → List Test
image_tests image base = (leb header_size (length image), ShortImage) ∷ field_tests image base

-- the file has room in guest memory; the memory that the kernel asks for may pass it, and ends below 2^64
abbrev pub place_tests : List ℕ → Memory → ℕ → List Test
place_tests image m base =
    (room m (start_of image base) (length image), NoRoomForImage) ∷ (fits64 (start_of image base) (image_size image), ImageEndWraps) ∷ []

-- all tests: of what is lent, of the image and its base, and of its place
abbrev pub tests : List ℕ → Memory → ℕ → List Test
tests image m base = lent_tests (length image) m ++ image_tests image base ++ place_tests image m base

-- what is answered where all tests hold
abbrev pub loaded_as : List ℕ → ℕ → KernelLoaderResult
loaded_as image base =
    record {
      kernel_load = record { 0 = start_of image base };
      kernel_end = record { 0 = end_of image base };
      pvh_boot_cap = PvhEntryIgnored;
    }

-- the whole file is written
abbrev pub image_plan : List ℕ → ℕ → Plan Answer
image_plan image base = record { answer = Ok (loaded_as image base); stream = stream_at (start_of image base) image }

abbrev pub plan_of : List ℕ → Memory → ℕ → Plan Answer
plan_of image m base = behind_tests Err (tests image m base) (image_plan image base)

-- the one refusal that more guest memory may lift
abbrev pub ForRoom : Refusal → Type 0
ForRoom refusal = refusal ≡ NoRoomForImage

-- a load of an image at a base into guest memory with a map that held `before`: it answers r and leaves `after`
abbrev pub ImageLoads : List ℕ → ℕ → Map → List ℕ → Answer → List ℕ → Type 0
ImageLoads image base map before r after = Loads (plan_of image (memory_of before map) base) before r after
