-- A text without the blanks at its ends.
use Rattle.std.specs.Prelude.{ℕ, List, [], ◌∷◌}
use Rattle.answers.specs.Pick.{pick}
use Rattle.slugs.specs.Bytes.{blank}

-- without the blanks at the start
unfoldable pub trim_start : List ℕ → List ℕ
trim_start [] = []
trim_start (x ∷ xs) = pick (blank x) (trim_start xs) (x ∷ xs)

-- a byte before a text that has no blanks at its end
unfoldable pub before : ℕ → List ℕ → List ℕ
before x [] = pick (blank x) [] (x ∷ [])
before x (y ∷ ys) = x ∷ y ∷ ys

-- without the blanks at the end
unfoldable pub trim_end : List ℕ → List ℕ
trim_end [] = []
trim_end (x ∷ xs) = before x (trim_end xs)

abbrev pub trim : List ℕ → List ℕ
trim s = trim_end (trim_start s)
