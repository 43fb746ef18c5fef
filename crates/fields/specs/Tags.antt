-- Fixed byte strings at a place.
use Rattle.std.specs.Prelude.{Bool, true, false, List, [], ◌∷◌, ℕ, suc, eqb, get_or}
use Rattle.answers.specs.Pick.{pick}

-- do the bytes of s at p begin with these? A byte past the end is 0
unfoldable pub tag_at : List ℕ → List ℕ → ℕ → Bool
tag_at [] s p = true
tag_at (b ∷ bs) s p = pick (eqb (get_or s p 0) b) (tag_at bs s (suc p)) false
