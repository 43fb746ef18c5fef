-- A slug put after a text.
use Rattle.std.specs.Prelude.{ℕ, List, [], ◌∷◌, ◌++◌, eqb, length}
use Rattle.answers.specs.Pick.{pick}
use Rattle.slugs.specs.Bytes.{space}

-- a space after a text of n bytes, unless it is empty
unfoldable pub space_after : ℕ → List ℕ
space_after n = pick (eqb n 0) [] (space ∷ [])

-- s put after a text
abbrev pub joined : List ℕ → List ℕ → List ℕ
joined text s = text ++ (space_after (length text) ++ s)
