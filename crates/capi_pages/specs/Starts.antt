-- What the entry points of the start block answer and leave. Checking one answers the number of its gate.
use Rattle.std.specs.Prelude.{ℕ, ◌≡◌, List, eqb, length}
use Rattle.fields.specs.Rows.{field_width, rows_numbers}
use Rattle.guest.specs.Room.{memory_of}
use Rattle.guest.specs.Stream.{pour}
use Rattle.guest.specs.declared.Map.{Map}
use Rattle.start_info.specs.declared.Start.{Start}
use Rattle.start_info.specs.Answers.{gate_number}
use Rattle.start_info.specs.Kinds.{block_widths, block_fields}
use Rattle.start_info.specs.Writing.{plan_of}
use Rattle.capi.specs.Values.{number_where, left_where}

abbrev pub start_of : ℕ → ℕ → ℕ → ℕ → ℕ → ℕ → Start
start_of block modules ranges flags command_line rsdp =
    record {
      block = record { 0 = block };
      modules = record { 0 = modules };
      ranges = record { 0 = ranges };
      flags = flags;
      command_line = record { 0 = command_line };
      rsdp = record { 0 = rsdp };
    }

-- writing a block with its lists
pub record StartWrites (start : Start) (modules ranges : List ℕ) (map : Map) (before : List ℕ) (r : ℕ) (after : List ℕ) : Type 0 where
  pub answer : r ≡ gate_number (plan_of (memory_of before map) start modules ranges).answer
  pub memory : after ≡ pour (plan_of (memory_of before map) start modules ranges).stream before

-- reading the numbers of one: ten places for them
pub record StartReads (guest : List ℕ) (block : ℕ) (numbers : List ℕ) (r : ℕ) (left : List ℕ) : Type 0 where
  pub answer : r ≡ number_where (eqb (length numbers) block_fields) 0
  pub told : left ≡ left_where (eqb (length numbers) block_fields) (rows_numbers (field_width block_widths) block_fields guest block 0) numbers
