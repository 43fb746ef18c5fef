-- The numbers that a load may answer.
use Rattle.std.specs.Prelude.{ℕ, List, [], ◌∷◌}

-- beside 0, in the order in which they are checked
abbrev pub bz_image_numbers : List ℕ
bz_image_numbers = 60 ∷ 77 ∷ 21 ∷ 22 ∷ 23 ∷ 24 ∷ []
