-- The plan of a load: the tests in their order, the answer, and the kernel that is written.
use Rattle.guest.specs.Answers.{Answer}
use Rattle.std.specs.Prelude.{ℕ, ◌+◌, ◌%◌, ◌≡◌, List, [], ◌∷◌, ◌++◌, leb, eqb, length, Ok, Err, Option}
use Rattle.answers.specs.Tests.{Test}
use Rattle.answers.specs.declared.Refusal.{Refusal}
use Rattle.answers.specs.declared.Refusal.TheVariants.{InvalidBzImage, Underflow, InvalidKernelStartAddress, ReadBzImageCompressedKernel}
use Rattle.fields.specs.Numbers.{le}
use Rattle.guest.specs.declared.GuestAddress.{GuestAddress}
use Rattle.guest.specs.declared.Map.{Map}
use Rattle.guest.specs.declared.Memory.{Memory}
use Rattle.guest.specs.Addresses.{amount_of}
use Rattle.guest.specs.Lent.{lent_tests}
use Rattle.guest.specs.Loading.{Plan, Loads, behind_tests}
use Rattle.guest.specs.Room.{room_for, memory_of}
use Rattle.guest.specs.Stream.{stream_at}
use Rattle.guest.specs.declared.KernelLoaderResult.{KernelLoaderResult}
use Rattle.guest.specs.declared.PvhBootCapability.TheVariants.{PvhEntryIgnored}
use Rattle.bzimage.specs.SetupHeader.{header_magic, version, loadflags}
use Rattle.bzimage.specs.Kernel.{setup_size, kernel_size, kernel_of, start_of, load_of}

-- the tests of the image, in their order
abbrev pub image_tests : List ℕ → Option GuestAddress → List Test
image_tests image highmem =
    (eqb (le 4 image header_magic) 0x53726448, InvalidBzImage)
    ∷ (leb 0x200 (le 2 image version), InvalidBzImage)
    -- bit 0: the kernel is loaded high
    ∷ (eqb (le 1 image loadflags % 2) 1, InvalidBzImage)
    ∷ (leb (setup_size image) (length image), Underflow)
    -- highmem is held against the header's own address, whatever the offset
    ∷ (leb (amount_of highmem) (start_of image).0, InvalidKernelStartAddress)
    ∷ []

-- the kernel has room in guest memory
abbrev pub room_tests : List ℕ → Memory → Option GuestAddress → List Test
room_tests image m offset = (room_for m (load_of image offset).0 (kernel_size image), ReadBzImageCompressedKernel) ∷ []

-- all tests: of what is lent, of the image, and of room
abbrev pub tests : List ℕ → Memory → Option GuestAddress → Option GuestAddress → List Test
tests image m offset highmem = lent_tests (length image) m ++ image_tests image highmem ++ room_tests image m offset

-- a kernel loaded at an address ends its size after it, and has no PVH entry
abbrev pub loaded_as : List ℕ → GuestAddress → KernelLoaderResult
loaded_as image load =
    record { kernel_load = load; kernel_end = record { 0 = load.0 + kernel_size image }; pvh_boot_cap = PvhEntryIgnored }

-- a kernel loaded at an address is written from there on
abbrev pub kernel_plan : List ℕ → GuestAddress → Plan Answer
kernel_plan image load = record { answer = Ok (loaded_as image load); stream = stream_at load.0 (kernel_of image) }

abbrev pub plan_of : List ℕ → Memory → Option GuestAddress → Option GuestAddress → Plan Answer
plan_of image m offset highmem = behind_tests Err (tests image m offset highmem) (kernel_plan image (load_of image offset))

-- the one refusal that more guest memory may lift
abbrev pub ForRoom : Refusal → Type 0
ForRoom refusal = refusal ≡ ReadBzImageCompressedKernel

-- a load of an image into guest memory with a map that held `before`: it answers r and leaves `after`
abbrev pub KernelLoads : List ℕ → Option GuestAddress → Option GuestAddress → Map → List ℕ → Answer → List ℕ → Type 0
KernelLoads image offset highmem map before r after = Loads (plan_of image (memory_of before map) offset highmem) before r after
