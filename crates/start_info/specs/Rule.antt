-- The rule by which a block is accepted, stated without an order; what a caller's numbers are by their types; and what
-- is refused for room only.
use Rattle.std.specs.Prelude.{ℕ, ◌+◌, ◌*◌, ◌^◌, ◌<◌, ◌≡◌, true, List}
use Rattle.answers.specs.declared.Refusal.{Refusal}
use Rattle.answers.specs.declared.Refusal.TheVariants.{BadPart}
use Rattle.fields.specs.Numbers.{le}
use Rattle.fields.specs.Rows.{field_width, rows_length, row_length}
use Rattle.guest.specs.Room.{room, room_for}
use Rattle.guest.specs.declared.Memory.{Memory}
use Rattle.start_info.specs.declared.Start.{Start}
use Rattle.start_info.specs.Kinds.{module_widths, range_widths, magic, version, block_size, version_at, module_count_at, modules_at, ranges_at, range_count_at, reserved_at, count_of}
use Rattle.start_info.specs.Parts.{count_end, list_size}

-- how wide the reserved field of a row is, and where that of the i-th row stands: behind i rows and three fields
abbrev pub last_width : List ℕ → ℕ
last_width widths = field_width widths 3

abbrev pub last_at : List ℕ → ℕ → ℕ → ℕ
last_at widths address i = address + i * row_length widths + rows_length (field_width widths) 3 0

-- a list of so many rows of a kind, one statement for both: it lies in guest memory, if it has rows, and each row's reserved field is 0
pub record RowsRight (widths : List ℕ) (m : Memory) (guest : List ℕ) (address count : ℕ) : Type 0 where
  pub in_memory : 0 < count → room m address (count * row_length widths) ≡ true
  pub reserved : (i : ℕ) → i < count → le (last_width widths) guest (last_at widths address i) ≡ 0

-- the block lies in guest memory, its magic, version and reserved field are right, and so are the lists that it names
pub record StartRight (m : Memory) (guest : List ℕ) (block : ℕ) : Type 0 where
  pub in_memory : room m block block_size ≡ true
  pub right_magic : le 4 guest block ≡ magic
  pub right_version : le 4 guest (block + version_at) ≡ version
  pub reserved : le 4 guest (block + reserved_at) ≡ 0
  pub modules : RowsRight module_widths m guest (le 8 guest (block + modules_at)) (le 4 guest (block + module_count_at))
  pub ranges : RowsRight range_widths m guest (le 8 guest (block + ranges_at)) (le 4 guest (block + range_count_at))

-- flags are a number of 32 bits and addresses of 64, as their types say
pub record FitStart (start : Start) : Type 0 where
  pub flags : start.flags < 2 ^ 32
  pub modules : start.modules.0 < 2 ^ 64
  pub command_line : start.command_line.0 < 2 ^ 64
  pub rsdp : start.rsdp.0 < 2 ^ 64
  pub ranges : start.ranges.0 < 2 ^ 64

-- ---- refused for room

-- the parts of a writer, and those of a block that is checked, lie in guest memory
pub record PartsLie (m : Memory) (start : Start) (modules ranges : List ℕ) : Type 0 where
  pub block_lies : room_for m start.block.0 block_size ≡ true
  pub modules_lie : room_for m start.modules.0 (list_size module_widths modules) ≡ true
  pub ranges_lie : room_for m start.ranges.0 (list_size range_widths ranges) ≡ true

pub record StartLies (m : Memory) (guest : List ℕ) (block : ℕ) : Type 0 where
  pub block_lies : room_for m block block_size ≡ true
  pub modules_lie : room_for m (le 8 guest (block + modules_at)) (le 4 guest (block + module_count_at) * row_length module_widths) ≡ true
  pub ranges_lie : room_for m (le 8 guest (block + ranges_at)) (le 4 guest (block + range_count_at) * row_length range_widths) ≡ true

-- 76 of a writer because a part does not lie in guest memory, not for 2^32 rows nor for an overlap
pub record ForRoom (m : Memory) (start : Start) (modules ranges : List ℕ) (refusal : Refusal) : Type 0 where
  pub is : refusal ≡ BadPart
  pub few_modules : count_of modules < count_end
  pub few_ranges : count_of ranges < count_end
  pub out : PartsLie m start modules ranges → ⊥

-- 76 of a checker, whose every 76 is for a part that does not lie in guest memory
pub record NotInMemory (m : Memory) (guest : List ℕ) (block : ℕ) (refusal : Refusal) : Type 0 where
  pub is : refusal ≡ BadPart
  pub out : StartLies m guest block → ⊥
