-- What each format gives of a load: its answer, and its parts by number. All else is said of these.
use Rattle.guest.specs.declared.GuestAddress.{GuestAddress}
use Rattle.std.specs.Prelude.{List, [], ℕ, eqb, Option, is_ok}
use Rattle.answers.specs.Pick.{pick}
use Rattle.guest.specs.Addresses.{amount_of}
use Rattle.guest.specs.Answers.{Answer}
use Rattle.guest.specs.Extents.{no_extent}
use Rattle.guest.specs.Loading.{Plan, Loads}
use Rattle.guest.specs.Parts.{no_part, parts_from}
use Rattle.guest.specs.Room as guest
use Rattle.guest.specs.declared.Extent.{Extent}
use Rattle.guest.specs.declared.Map.{Map}
use Rattle.guest.specs.declared.Memory.{Memory}
use Rattle.guest.specs.declared.Part.{Part}
use Rattle.elf.specs.Header.{e_phnum_of}
use Rattle.elf.specs.Pouring as elf
use Rattle.elf.specs.Parts as elf_parts
use Rattle.elf.specs.Memory as elf_memory
use Rattle.bzimage.specs.Plan as bzimage
use Rattle.bzimage.specs.Parts as bzimage_parts
use Rattle.bzimage.specs.Protocol as bzimage_protocol
use Rattle.arm64.specs.Plan as arm64
use Rattle.arm64.specs.Parts as arm64_parts
use Rattle.arm64.specs.Memory as arm64_memory
use Rattle.loads.specs.declared.Format.{Format}
use Rattle.loads.specs.declared.Format.TheVariants.{Elf, BzImage, Arm64}
use Rattle.loads.specs.declared.Options.{Options}

-- the answer
unfoldable pub answer_by : Format → List ℕ → Memory → Option GuestAddress → Option GuestAddress → Answer
answer_by Elf image m offset highmem = (elf.plan_of image m offset highmem).answer
answer_by BzImage image m offset highmem = (bzimage.plan_of image m offset highmem).answer
answer_by Arm64 image m offset highmem = (arm64.plan_of image m (amount_of offset)).answer

-- how many parts it has
unfoldable pub count_by : Format → List ℕ → ℕ
count_by Elf image = e_phnum_of image
count_by BzImage image = 1
count_by Arm64 image = 1

-- element i of a list that has one element only
unfoldable pub only_at : {A : Type 0} → A → A → ℕ → A
only_at one none i = pick (eqb i 0) one none

-- part i
unfoldable pub part_by : Format → List ℕ → Option GuestAddress → ℕ → Part
part_by Elf image offset i = elf_parts.part_of image offset i
part_by BzImage image offset i = only_at (bzimage_parts.part_of image offset) no_part i
part_by Arm64 image offset i = only_at (arm64_parts.part_of image (amount_of offset)) no_part i

-- the memory that part i takes, which may be more than its bytes
unfoldable pub memory_by : Format → List ℕ → Option GuestAddress → ℕ → Extent
memory_by Elf image offset i = elf_memory.memory_of image offset i
memory_by BzImage image offset i = only_at (bzimage_protocol.runtime_memory image offset) no_extent i
memory_by Arm64 image offset i = only_at (arm64_memory.memory_of image (amount_of offset)) no_extent i

-- the same by the options of a load
abbrev pub answer_of : List ℕ → Memory → Options → Answer
answer_of image m o = answer_by o.format image m o.kernel_offset o.highmem_start

abbrev pub count_of : List ℕ → Options → ℕ
count_of image o = count_by o.format image

abbrev pub part_of : List ℕ → Options → ℕ → Part
part_of image o i = part_by o.format image o.kernel_offset i

abbrev pub memory_of : List ℕ → Options → ℕ → Extent
memory_of image o i = memory_by o.format image o.kernel_offset i

-- the plan of a load: its answer, and what is written: its parts, one after the other, if it loads
abbrev pub plan_of : List ℕ → Memory → Options → Plan Answer
plan_of image m o =
    record {
      answer = answer_of image m o;
      stream = pick (is_ok (answer_of image m o)) (parts_from (count_of image o) image (part_of image o) 0) [];
    }

-- a load of an image into guest memory with a map that held `before`: it answers r and leaves `after`
abbrev pub LoadSays : List ℕ → Options → Map → List ℕ → Answer → List ℕ → Type 0
LoadSays image o map before r after = Loads (plan_of image (guest.memory_of before map) o) before r after
