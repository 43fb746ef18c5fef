-- A line in bytes: what bytes hold a line, and what the entry points of a line answer and leave. What is behind the
-- texts has no part in any of it.
use Rattle.answers.specs.declared.Refusal.{Refusal}
use Rattle.std.specs.Prelude.{ℕ, ◌+◌, ◌*◌, ◌≤◌, ◌<◌, ◌≡◌, List, [], ◌∷◌, ◌++◌, eqb, length, get_or, take, drop, replicate, Ok, Err, Some, None, Option, Result}
use Rattle.std.specs.Result.{result_and}
use Rattle.std.proofs.lemmas.List.Edits.{sets}
use Rattle.answers.specs.Pick.{pick}
use Rattle.answers.specs.Catalogue.{number_of}
use Rattle.answers.specs.Tests.{Test, asked_all, AllHold, Check, pass}
use Rattle.answers.specs.declared.Refusal.TheVariants.{NoRoom}
use Rattle.fields.specs.Numbers.{le, le_bytes}
use Rattle.cmdline.specs.Limit.{limit}
use Rattle.cmdline.specs.Text.{Text}
use Rattle.cmdline.specs.Fitting.{Fits}
use Rattle.cmdline.specs.Growing.{Extends}
use Rattle.cmdline.specs.Insertion.{Plan, answer_of, call_number, settled, with_boot, with_init}
use Rattle.cmdline.specs.Making.{size_tests}
use Rattle.cmdline.specs.Writing.{write_tests, written_of, written_number, written_count, written_bytes, same_line}
use Rattle.guest.specs.declared.Map.{Map}
use Rattle.guest.specs.declared.Memory.{Memory}
use Rattle.guest.specs.Loading as loading
use Rattle.guest.specs.Room.{memory_of}
use Rattle.guest.specs.Stream.{pour}
use Rattle.loader.specs.Lines as lines
use Rattle.cmdline.specs.declared.sizes.Lengths.{Lengths}

-- ---- the bytes of a line

-- three numbers of 8 bytes, the lengths of the two texts and the capacity, and two buffers
abbrev pub line_size : ℕ
line_size = 24 + 2 * limit

-- where the two buffers begin
abbrev pub boot_place : ℕ
boot_place = 24

abbrev pub init_place : ℕ
init_place = 24 + limit

-- the texts that bytes hold
abbrev pub text_in : List ℕ → Text
text_in bytes =
    record { boot = take (le 8 bytes 0) (drop boot_place bytes); init = take (le 8 bytes 8) (drop init_place bytes); capacity = le 8 bytes 16 }

-- the size of the bytes
abbrev pub size_test : List ℕ → Test
size_test bytes = (eqb (length bytes) line_size, NoRoom)

-- what makes bytes a line: their size, a capacity that is allowed, and a counted size within it
unfoldable pub line_tests : List ℕ → List Test
line_tests bytes = size_test bytes ∷ size_tests (le 8 bytes 0) (le 8 bytes 8) (le 8 bytes 16)

abbrev pub IsLine : List ℕ → Type 0
IsLine bytes = AllHold (line_tests bytes)

-- bytes of the right size hold a line of these texts
pub record Holds (bytes : List ℕ) (t : Text) : Type 0 where
  pub size : length bytes ≡ line_size
  pub boots : le 8 bytes 0 ≡ length t.boot
  pub inits : le 8 bytes 8 ≡ length t.init
  pub capacity : le 8 bytes 16 ≡ t.capacity
  pub boot : take (length t.boot) (drop boot_place bytes) ≡ t.boot
  pub init : take (length t.init) (drop init_place bytes) ≡ t.init

-- the same size, numbers and texts; what stands behind the texts may differ
pub record SameLine (a b : List ℕ) : Type 0 where
  pub size : length a ≡ length b
  pub boots : le 8 a 0 ≡ le 8 b 0
  pub inits : le 8 a 8 ≡ le 8 b 8
  pub capacity : le 8 a 16 ≡ le 8 b 16
  pub text : text_in a ≡ text_in b

-- every byte behind a text, in its buffer, is zero
pub record ZeroBehind (bytes : List ℕ) : Type 0 where
  pub boot : (i : ℕ) → le 8 bytes 0 ≤ i → i < limit → get_or bytes (boot_place + i) 0 ≡ 0
  pub init : (i : ℕ) → le 8 bytes 8 ≤ i → i < limit → get_or bytes (init_place + i) 0 ≡ 0

-- the numbers at the front
abbrev pub lengths_in : List ℕ → Lengths
lengths_in bytes = record { boot_len = le 8 bytes 0; init_len = le 8 bytes 8; capacity = le 8 bytes 16 }

-- the numbers of bytes that are a line
unfoldable pub header_of : List ℕ → Result Lengths Refusal
header_of bytes = result_and (asked_all pass (line_tests bytes)) (Ok (lengths_in bytes))

-- ---- bytes with another text

-- a text put from a place on, and its length, of 8 bytes, at another
abbrev pub with_text : ℕ → ℕ → List ℕ → List ℕ → List ℕ
with_text number place bytes text = sets (sets bytes place text) number (le_bytes 8 (length text))

-- the text that a call appends to
pub data Part : Type 0 where
  the_boot : Part
  the_init : Part

-- where the length of a text stands, where its buffer begins, and the text itself
abbrev pub number_place : Part → ℕ
number_place the_boot = 0
number_place the_init = 8

abbrev pub text_place : Part → ℕ
text_place the_boot = boot_place
text_place the_init = init_place

abbrev pub text_of_part : Part → Text → List ℕ
text_of_part the_boot t = t.boot
text_of_part the_init t = t.init

-- texts of which one is taken from others
abbrev pub with_one : Part → Text → Text → Text
with_one the_boot t u = with_boot t u.boot
with_one the_init t u = with_init t u.init

-- the bytes with one text as the texts have it
abbrev pub with_part : Part → List ℕ → Text → List ℕ
with_part part bytes t = with_text (number_place part) (text_place part) bytes (text_of_part part t)

-- n bytes of a new line: its numbers and texts, and zeros
abbrev pub new_line : ℕ → Text → List ℕ
new_line n t = with_part the_init (with_part the_boot (sets (replicate n 0) 16 (le_bytes 8 t.capacity)) t) t

-- ---- what a call says and leaves

-- by how all of its tests end: the number of the answer, and the bytes, new where every test held and unchanged where one failed
pub record LineLeft (gate : Check) (bytes new : List ℕ) (r : ℕ) (left : List ℕ) : Type 0 where
  pub answer : r ≡ call_number (answer_of gate)
  pub line : left ≡ settled gate bytes new

-- a making, over bytes of the right size, whatever they hold
abbrev pub LineMakes : List ℕ → Plan → ℕ → List ℕ → Type 0
LineMakes bytes plan r left = LineLeft (asked_all pass (size_test bytes ∷ plan.tests)) bytes (new_line line_size plan.text) r left

-- a call on the line that bytes hold, which appends to one of its texts: the tests of the bytes, then those of the call
abbrev pub LineCalls : Part → List ℕ → Plan → ℕ → List ℕ → Type 0
LineCalls part bytes plan r left = LineLeft (asked_all pass (line_tests bytes ++ plan.tests)) bytes (with_part part bytes plan.text) r left

-- how the tests of making a line of two texts end: the size of the bytes, then the capacity and the sizes of the texts
abbrev pub make_gate : List ℕ → ℕ → List ℕ → List ℕ → Check
make_gate bytes capacity boot init = asked_all pass (size_test bytes ∷ size_tests (length boot) (length init) capacity)

-- a line of two texts is made over all of the bytes, if those tests hold
pub record Makes (bytes : List ℕ) (capacity : ℕ) (boot init : List ℕ) (said : Check) (left : List ℕ) : Type 0 where
  pub answer : said ≡ make_gate bytes capacity boot init
  pub line : left ≡ settled (make_gate bytes capacity boot init) bytes (new_line (length bytes) (record { boot = boot; init = init; capacity = capacity }))

-- a plan of which the texts fit where its tests hold, begin with what there was, and differ in one part alone
pub record AppendsTo (part : Part) (plan : Text → Plan) : Type 0 where
  pub fits : (t : Text) → AllHold (plan t).tests → Fits (plan t).text
  pub extends : (t : Text) → Extends t (plan t).text
  pub one : (t : Text) → (plan t).text ≡ with_one part t (plan t).text

-- what is told of an insertion in place: the number of its answer, and the length of the new text at its place
abbrev pub appended_number : Result ℕ Refusal → ℕ
appended_number (Ok n) = 0
appended_number (Err refusal) = number_of refusal

abbrev pub appended_bytes : Result ℕ Refusal → ℕ → List ℕ → List ℕ
appended_bytes (Ok n) place bytes = sets bytes place (le_bytes 8 n)
appended_bytes (Err refusal) place bytes = bytes

pub record StoresLength (said : Result ℕ Refusal) (place : ℕ) (bytes : List ℕ) (r : ℕ) (left : List ℕ) : Type 0 where
  pub answer : r ≡ appended_number said
  pub line : left ≡ appended_bytes said place bytes

-- a device's ID: none where the flag is 0
unfoldable pub id_by : ℕ → ℕ → Option ℕ
id_by flag id = pick (eqb flag 0) None (Some id)

-- ---- writing

-- the list for the count has one place; then the tests of the line, and those of writing it
abbrev pub write_row : List ℕ → List ℕ → ℕ → List Test
write_row bytes count room = ((eqb (length count) 1, NoRoom) ∷ line_tests bytes) ++ write_tests (text_in bytes) room

-- how they end
unfoldable pub line_write_gate : List ℕ → List ℕ → ℕ → Check
line_write_gate bytes count room = asked_all pass (write_row bytes count room)

pub record LineWrites (bytes out count : List ℕ) (r : ℕ) (out-left count_left : List ℕ) : Type 0 where
  pub answer : r ≡ written_number (written_of (line_write_gate bytes count (length out)) (text_in bytes))
  pub text : out-left ≡ sets out 0 (written_bytes (line_write_gate bytes count (length out)) (text_in bytes))
  pub told : count_left ≡ sets count 0 (written_count (written_of (line_write_gate bytes count (length out)) (text_in bytes)))

-- ---- comparing

-- the list for the answer has one place; then the tests of the first line, then of the second
unfoldable pub equal_gate : List ℕ → List ℕ → List ℕ → Check
equal_gate a b out = asked_all pass (((eqb (length out) 1, NoRoom) ∷ line_tests a) ++ line_tests b)

-- 1 where the lines are equal, else 0
pub record LinesCompare (a b out : List ℕ) (r : ℕ) (left : List ℕ) : Type 0 where
  pub answer : r ≡ call_number (answer_of (equal_gate a b out))
  pub told : left ≡ settled (equal_gate a b out) out (sets out 0 (pick (same_line (text_in a) (text_in b)) 1 0 ∷ []))

-- ---- loading

-- the tests of the line, then the plan of loading it
abbrev pub load_plan : List ℕ → Memory → ℕ → loading.Plan Check
load_plan bytes m address =
    loading.behind_tests Err (line_tests bytes ++ lines.tests (text_in bytes) m address) (lines.line_plan (text_in bytes) address)

pub record LineLoadsFrom (bytes : List ℕ) (address : ℕ) (map : Map) (guest : List ℕ) (r : ℕ) (after : List ℕ) : Type 0 where
  pub answer : r ≡ lines.line_number (load_plan bytes (memory_of guest map) address).answer
  pub memory : after ≡ pour (load_plan bytes (memory_of guest map) address).stream guest

-- the number of what loading it answers, over guest memory of a size with a map
abbrev pub plan_number : List ℕ → ℕ → Map → ℕ → ℕ
plan_number bytes size map address = lines.line_number (load_plan bytes (record { size = size; map = map }) address).answer
