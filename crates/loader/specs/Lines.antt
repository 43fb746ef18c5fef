-- A line put into guest memory: the tests in their order, then the line and its zero.
use Rattle.std.specs.Prelude.{ℕ, ◌≡◌, List, [], ◌∷◌, ◌++◌, length, Ok, Err, is_ok}
use Rattle.answers.specs.Catalogue.{number_of}
use Rattle.answers.specs.Tests.{Test, Check, pass}
use Rattle.answers.specs.declared.Refusal.{Refusal}
use Rattle.answers.specs.declared.Refusal.TheVariants.{InvalidCommandLine, CommandLineOverflow}
use Rattle.answers.specs.declared.Refusal.TheVariants.{NoBootArgsInserted, NullTerminator}
use Rattle.cmdline.specs.Text.{Text}
use Rattle.cmdline.specs.Writing.{whole, text_gate, bare}
use Rattle.guest.specs.Lent.{memory_tests}
use Rattle.guest.specs.Loading.{Plan, Loads, behind_tests}
use Rattle.guest.specs.Room.{room, memory_of}
use Rattle.guest.specs.Stream.{pour, stream_at}
use Rattle.guest.specs.declared.Map.{Map}
use Rattle.guest.specs.declared.Memory.{Memory}

-- the line and its zero
abbrev pub line_bytes : Text → List ℕ
line_bytes t = whole t ++ (0 ∷ [])

-- the text: what writing it, given room, would say
abbrev pub text_row : Text → List Test
text_row t = (is_ok (text_gate t), InvalidCommandLine) ∷ []

-- room for the line and its zero
abbrev pub room_row : Text → Memory → ℕ → List Test
room_row t m address = (room m address (length (line_bytes t)), CommandLineOverflow) ∷ []

-- the tests, in their order
abbrev pub tests : Text → Memory → ℕ → List Test
tests t m address = memory_tests m ++ text_row t ++ room_row t m address

-- where they hold the line is written
abbrev pub line_plan : Text → ℕ → Plan Check
line_plan t address = record { answer = pass; stream = stream_at address (line_bytes t) }

abbrev pub plan_of : Text → Memory → ℕ → Plan Check
plan_of t m address = behind_tests Err (tests t m address) (line_plan t address)

-- loading a line into guest memory with a map that held `before`: it answers r and leaves `after`
abbrev pub LineLoads : Text → ℕ → Map → List ℕ → Check → List ℕ → Type 0
LineLoads t address map before r after = Loads (plan_of t (memory_of before map) address) before r after

-- the one refusal that more guest memory may lift
abbrev pub ForRoom : Refusal → Type 0
ForRoom refusal = refusal ≡ CommandLineOverflow

-- writing the line would be refused for its text, by one of the two refusals that there are
pub data TextRefused (t : Text) : Type 0 where
  no_boot_args : text_gate t ≡ Err NoBootArgsInserted → TextRefused t
  null_terminator : text_gate t ≡ Err NullTerminator → TextRefused t

-- the catalogue's number of an answer; a line that is loaded has none, and counts as 0
unfoldable pub line_number : Check → ℕ
line_number (Ok _) = 0
line_number (Err refusal) = number_of refusal

-- the numbers that it may have beside 0, in the order in which they are asked
abbrev pub line_numbers : List ℕ
line_numbers = 60 ∷ 77 ∷ 31 ∷ 32 ∷ []

-- what loading the line of two texts says and leaves, as one list: the number of the answer, then guest memory. The
-- capacity has no part in it
unfoldable pub load_told : ℕ → Map → List ℕ → List ℕ → List ℕ → List ℕ
load_told address map guest boot init =
    line_number (plan_of (bare boot init) (memory_of guest map) address).answer
    ∷ pour (plan_of (bare boot init) (memory_of guest map) address).stream guest
