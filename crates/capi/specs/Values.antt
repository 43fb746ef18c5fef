-- What an entry point stores in the caller's lists, and what it comes to by the tests of a call.
use Rattle.answers.specs.Tests.{Check}
use Rattle.std.specs.Prelude.{ℕ, ◌≡◌, Bool, List, [], ◌∷◌, Ok, Err}
use Rattle.std.proofs.lemmas.List.Edits.{sets}
use Rattle.answers.specs.Pick.{pick}
use Rattle.answers.specs.Catalogue.{number_of}
use Rattle.answers.specs.declared.Refusal.TheVariants.{NoRoom}
use Rattle.guest.specs.Answers.{pvh_code, pvh_address, pvh_place, pvh_size}
use Rattle.guest.specs.declared.KernelLoaderResult.{KernelLoaderResult}

-- the six numbers of a kernel that is loaded
abbrev pub kernel_numbers : KernelLoaderResult → List ℕ
kernel_numbers k =
    let said = k.pvh_boot_cap in
    k.kernel_load.0 ∷ k.kernel_end.0 ∷ pvh_code said ∷ pvh_address said ∷ pvh_place said ∷ pvh_size said ∷ []

-- an answer's number; its values are stored from the first place on, and a refusal leaves the list as it was
pub record Tells (number : ℕ) (values out : List ℕ) (r : ℕ) (left : List ℕ) : Type 0 where
  pub answer : r ≡ number
  pub told : left ≡ sets out 0 values

-- by how the tests of a call end: what is answered and left if they hold, else the refusal's number and what was there
abbrev pub number_behind : Check → ℕ → ℕ
number_behind (Ok _) number = number
number_behind (Err refusal) number = number_of refusal

abbrev pub left_behind : Check → List ℕ → List ℕ → List ℕ
left_behind (Ok _) left was = left
left_behind (Err refusal) left was = was

-- the same of a call whose one test is that a list has its size
abbrev pub number_where : Bool → ℕ → ℕ
number_where sized number = pick sized number (number_of NoRoom)

abbrev pub left_where : Bool → List ℕ → List ℕ → List ℕ
left_where sized left was = pick sized left was
