-- What the entry points for single pieces answer and leave.
use Rattle.std.specs.Prelude.{ℕ, ◌≡◌, List, ◌++◌}
use Rattle.answers.specs.Pick.{pick}
use Rattle.answers.specs.Tests.{asked_all, Check, pass}
use Rattle.boot.specs.Checks.{limit_of, limit_tests}
use Rattle.boot.specs.Putting.{put_plan}
use Rattle.capi.specs.Options.{format_tests, options_of}
use Rattle.cmdline.specs.Text.{size_of}
use Rattle.guest.specs.Room.{room_for, memory_of}
use Rattle.guest.specs.Stream.{pour}
use Rattle.guest.specs.declared.Map.{Map}
use Rattle.guest.specs.declared.Memory.{Memory}
use Rattle.start_info.specs.Answers.{gate_number}
use Rattle.capi_boot.specs.Calls.{limit_given}

-- the check of a line by the lengths of its texts: the format, then the limit
unfoldable pub line_gate : List ℕ → ℕ → ℕ → ℕ → ℕ → ℕ → Check
line_gate image format flags limit text init =
    asked_all pass
    (format_tests format
    ++ limit_tests (limit_of image (options_of format flags 0 0) (limit_given flags limit)) (size_of text init))

-- 1 if there is room, else 0
unfoldable pub room_number : Memory → ℕ → ℕ → ℕ
room_number m address n = pick (room_for m address n) 1 0

-- a blob at an address
pub record PutCall (map : Map) (address : ℕ) (bytes before : List ℕ) (r : ℕ) (after : List ℕ) : Type 0 where
  pub answer : r ≡ gate_number (put_plan (memory_of before map) address bytes).answer
  pub memory : after ≡ pour (put_plan (memory_of before map) address bytes).stream before
