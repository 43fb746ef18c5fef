-- The numbers that a load may answer.
use Rattle.std.specs.Prelude.{ℕ, List, [], ◌∷◌}

-- beside 0, in the order in which they are checked
abbrev pub image_numbers : List ℕ
image_numbers = 60 ∷ 77 ∷ 81 ∷ 82 ∷ 83 ∷ 84 ∷ 85 ∷ 86 ∷ 87 ∷ 88 ∷ []
