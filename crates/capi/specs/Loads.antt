-- What the entry points of a load answer and leave, by how the tests of the call end.
use Rattle.loads.specs.declared.Format.{Format}
use Rattle.std.specs.Prelude.{ℕ, ◌≡◌, List, [], ◌∷◌, eqb, length, Some, None, Option}
use Rattle.std.proofs.lemmas.List.Edits.{sets}
use Rattle.answers.specs.Tests.{Test, asked_all, Check, pass}
use Rattle.answers.specs.declared.Refusal.TheVariants.{NoRoom, SliceTooLong}
use Rattle.guest.specs.Answers.{answer_number, answer_values}
use Rattle.guest.specs.Maps.{map_of}
use Rattle.guest.specs.Parts.{kept_part}
use Rattle.guest.specs.Room.{memory_of}
use Rattle.guest.specs.Sizes.{allowed}
use Rattle.guest.specs.Stream.{pour}
use Rattle.guest.specs.declared.Map.{Map}
use Rattle.guest.specs.declared.Memory.{Memory}
use Rattle.elf.specs.Load.{note_number, note_values}
use Rattle.elf.specs.NoteWalk.{public_note}
use Rattle.bzimage.specs.Header.{header_of}
use Rattle.bzimage.specs.SetupHeader.{header_size}
use Rattle.loads.specs.Formats.{answer_of, count_of, part_of, plan_of}
use Rattle.loads.specs.declared.Options.{Options}
use Rattle.capi.specs.Options.{format_code, format_tests}
use Rattle.capi.specs.Parts.{plan_values, part_values}
use Rattle.capi.specs.Values.{number_behind, left_behind, number_where, left_where}

-- the tests of a call: the size of the list for its results, then the format
unfoldable pub call_gate : ℕ → List ℕ → ℕ → Check
call_gate size out format = asked_all pass ((eqb (length out) size, NoRoom) ∷ format_tests format)

-- a load
pub record LoadCall (gate : Check) (image : List ℕ) (o : Options) (map : Map) (guest out : List ℕ) (r : ℕ) (guest-left out-left : List ℕ) : Type 0 where
  pub answer : r ≡ number_behind gate (answer_number (answer_of image (memory_of guest map) o))
  pub memory : guest-left ≡ left_behind gate (pour (plan_of image (memory_of guest map) o).stream guest) guest
  pub told : out-left ≡ left_behind gate (sets out 0 (answer_values (answer_of image (memory_of guest map) o))) out

-- guest memory of a size, whose map is a list of numbers
abbrev pub memory_by : ℕ → List ℕ → Memory
memory_by size numbers = record { size = size; map = map_of numbers }

-- a plan
pub record PlanCall (gate : Check) (image : List ℕ) (m : Memory) (o : Options) (out : List ℕ) (r : ℕ) (left : List ℕ) : Type 0 where
  pub answer : r ≡ number_behind gate (answer_number (answer_of image m o))
  pub told : left ≡ left_behind gate (sets out 0 (plan_values (answer_of image m o) (count_of image o))) out

-- a part by its number, if it lies in the image and has room
pub record PartCall (gate : Check) (image : List ℕ) (m : Memory) (o : Options) (i : ℕ) (out : List ℕ) (r : ℕ) (left : List ℕ) : Type 0 where
  pub answer : r ≡ number_behind gate 0
  pub told : left ≡ left_behind gate (sets out 0 (part_values (kept_part (length image) m (part_of image o i)))) out

-- what an image is: its format's number, 0 if it has none
unfoldable pub kind_number : Option Format → ℕ
kind_number (Some f) = format_code f
kind_number None = 0

-- the tests of a setup header: the size of the buffer, then of the image
abbrev pub header_tests : ℕ → ℕ → List Test
header_tests image_len header_len = (eqb header_len header_size, NoRoom) ∷ (allowed image_len, SliceTooLong) ∷ []

-- how they end
unfoldable pub header_gate : List ℕ → List ℕ → Check
header_gate image header = asked_all pass (header_tests (length image) (length header))

pub record HeaderCall (gate : Check) (image : List ℕ) (load : ℕ) (header : List ℕ) (r : ℕ) (left : List ℕ) : Type 0 where
  pub answer : r ≡ number_behind gate 0
  pub bytes : left ≡ left_behind gate (sets header 0 (header_of image load)) header

-- a note walk
pub record NoteCall (image : List ℕ) (p-offset p-filesz : ℕ) (out : List ℕ) (r : ℕ) (left : List ℕ) : Type 0 where
  pub answer : r ≡ number_where (eqb (length out) 5) (note_number (public_note image (record { 0 = p-offset }) p-filesz))
  pub told : left ≡ left_where (eqb (length out) 5) (sets out 0 (note_values (public_note image (record { 0 = p-offset }) p-filesz))) out
