-- Bytes, and tests of them.
use Rattle.std.specs.Prelude.{ℕ, Bool, true, false, ◌&&◌, ◌||◌, List, [], ◌∷◌, leb, eqb}

abbrev pub space : ℕ
space = 32

-- the double quote
abbrev pub quote : ℕ
quote = 34

abbrev pub comma : ℕ
comma = 44

abbrev pub dash : ℕ
dash = 45

abbrev pub colon : ℕ
colon = 58

abbrev pub equals : ℕ
equals = 61

-- bytes 32 to 126
unfoldable pub printable : ℕ → Bool
printable x = leb 32 x && leb x 126

-- bytes 9 to 13 and 32
unfoldable pub blank : ℕ → Bool
blank x = eqb x 32 || (leb 9 x && leb x 13)

-- the test holds at every byte
unfoldable pub all_bytes : (ℕ → Bool) → List ℕ → Bool
all_bytes p [] = true
all_bytes p (x ∷ xs) = p x && all_bytes p xs

-- b is among the bytes
unfoldable pub has : ℕ → List ℕ → Bool
has b [] = false
has b (x ∷ xs) = eqb x b || has b xs
