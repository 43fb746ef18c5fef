-- The numbers of a plan and of a part.
use Rattle.std.specs.Prelude.{ℕ, List, [], ◌∷◌, ◌++◌, eqb, Ok, Err}
use Rattle.answers.specs.Pick.{pick}
use Rattle.guest.specs.Answers.{answer_values, Answer}
use Rattle.guest.specs.Parts.{no_part}
use Rattle.guest.specs.declared.Part.{Part}

-- the values of a load, and the number of its parts; a refusal has none
unfoldable pub plan_values : Answer → ℕ → List ℕ
plan_values (Ok k) parts = answer_values (Ok k) ++ (parts ∷ [])
plan_values (Err r) parts = []

-- a part that has bytes; of one that has none all numbers are 0
unfoldable pub with_bytes : Part → Part
with_bytes p = pick (eqb p.size 0) no_part p

-- a part's numbers: its guest address, its offset in the image, its size
unfoldable pub part_values : Part → List ℕ
part_values p = (with_bytes p).address.0 ∷ (with_bytes p).place.0 ∷ (with_bytes p).size ∷ []
