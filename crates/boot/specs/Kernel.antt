-- The memory that a kernel uses: for each part of its load the bytes that are written, and the memory that the kernel takes
-- there. ELF: a segment's memory; bzImage: the memory in which it unpacks itself; arm64: the image size.
use Rattle.std.specs.Prelude.{ℕ, ◌<◌, Bool, ◌&&◌, List}
use Rattle.fields.specs.Every.{every}
use Rattle.fields.specs.Ranges.{apart, Among}
use Rattle.guest.specs.Parts.{parts_from}
use Rattle.guest.specs.Room.{room_for}
use Rattle.guest.specs.Stream.{Poke}
use Rattle.guest.specs.declared.Extent.{Extent}
use Rattle.guest.specs.declared.Memory.{Memory}
use Rattle.guest.specs.declared.Part.{Part}
use Rattle.loads.specs.Formats.{count_of, part_of, memory_of}
use Rattle.loads.specs.declared.Options.{Options}
use Rattle.boot.specs.Rows.{listed}

-- two ranges with no address in common
abbrev pub apart_from : Extent → Extent → Bool
apart_from a b = apart a.at.0 a.size b.at.0 b.size

-- the range that part i is written to
abbrev pub written_to : Part → Extent
written_to p = record { at = p.address; size = p.size }

-- ---- of part i

abbrev pub apart_at : List ℕ → Options → Extent → ℕ → Bool
apart_at image o e i = apart_from (written_to (part_of image o i)) e && apart_from (memory_of image o i) e

abbrev pub room_at : Memory → List ℕ → Options → ℕ → Bool
room_at m image o i = room_for m (memory_of image o i).at.0 (memory_of image o i).size

abbrev pub listed_at : ℕ → List ℕ → List ℕ → Options → ℕ → Bool
listed_at width rows image o i = listed width rows (written_to (part_of image o i)) && listed width rows (memory_of image o i)

-- ---- of the whole kernel

-- is a range apart from all of it?
unfoldable pub kernel_apart : List ℕ → Options → Extent → Bool
kernel_apart image o e = every (apart_at image o e) (count_of image o)

-- has each range of memory that it takes room?
unfoldable pub kernel_room : Memory → List ℕ → Options → Bool
kernel_room m image o = every (room_at m image o) (count_of image o)

-- does each range of it lie in one row of type 1?
unfoldable pub kernel_listed : ℕ → List ℕ → List ℕ → Options → Bool
kernel_listed width rows image o = every (listed_at width rows image o) (count_of image o)

-- what the load writes
abbrev pub kernel_stream : List ℕ → Options → List Poke
kernel_stream image o = parts_from (count_of image o) image (part_of image o) 0

-- an address is the kernel's: it is written there, or the kernel takes that memory
pub data InKernel (image : List ℕ) (o : Options) (a : ℕ) : Type 0 where
  in_part : (i : ℕ) → i < count_of image o → Among a (part_of image o i).address.0 (part_of image o i).size → InKernel image o a
  in_memory : (i : ℕ) → i < count_of image o → Among a (memory_of image o i).at.0 (memory_of image o i).size → InKernel image o a
