-- What the entry points of a boot answer and leave, by how the tests of the call end.
use Rattle.boot.specs.Plan.{Answer}
use Rattle.std.specs.Prelude.{ℕ, ◌/◌, ◌%◌, ◌≡◌, Bool, List, [], ◌∷◌, ◌++◌, eqb, Ok, Err, Some, None, Option}
use Rattle.std.proofs.lemmas.List.Edits.{sets}
use Rattle.answers.specs.Catalogue.{number_of}
use Rattle.answers.specs.Pick.{pick}
use Rattle.answers.specs.Tests.{asked_all, Check, pass}
use Rattle.answers.specs.declared.Refusal.TheVariants.{NoRoom}
use Rattle.capi.specs.Options.{format_tests}
use Rattle.capi.specs.Values.{kernel_numbers, number_behind, left_behind}
use Rattle.guest.specs.Loading.{Plan}
use Rattle.guest.specs.Stream.{pour}

-- the tests of a call: the size of the list for its results, then the format
unfoldable pub boot_gate : ℕ → ℕ → Check
boot_gate size format = asked_all pass ((eqb size 7, NoRoom) ∷ format_tests format)

-- bit 2 of the flags gives the limit, bit 3 is the 64-bit entry
unfoldable pub limit_given : ℕ → ℕ → Option ℕ
limit_given flags limit = pick (eqb (flags / 4 % 2) 1) (Some limit) None

abbrev pub is_wide : ℕ → Bool
is_wide flags = eqb (flags / 8 % 2) 1

-- the number of an answer, and its values: the six of a load, then the entry address; a refusal has none
unfoldable pub boot_number : Answer → ℕ
boot_number (Ok b) = 0
boot_number (Err r) = number_of r

unfoldable pub boot_values : Answer → List ℕ
boot_values (Ok b) = kernel_numbers b.kernel ++ (b.entry.0 ∷ [])
boot_values (Err r) = []

-- a boot that is planned, with its answer
pub record PlanCall (gate : Check) (planned : Answer) (out : List ℕ) (r : ℕ) (left : List ℕ) : Type 0 where
  pub answer : r ≡ number_behind gate (boot_number planned)
  pub told : left ≡ left_behind gate (sets out 0 (boot_values planned)) out

-- a boot, with its plan
pub record BootCall (gate : Check) (plan : Plan Answer) (guest out : List ℕ) (r : ℕ)
    (guest-left out-left : List ℕ) : Type 0 where
  pub answer : r ≡ number_behind gate (boot_number plan.answer)
  pub memory : guest-left ≡ left_behind gate (pour plan.stream guest) guest
  pub told : out-left ≡ left_behind gate (sets out 0 (boot_values plan.answer)) out
