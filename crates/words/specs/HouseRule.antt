-- The house rule, said of places and without a reader: the theorems on the words of a line are stated with it.
use Rattle.std.specs.Prelude.{◌≡◌, true, List, [], ◌∷◌, ◌++◌, ℕ, ◌-◌, ◌≤◌, ◌<◌, length, get_or, take, replicate}
use Rattle.slugs.specs.Bytes.{space, quote, equals}
use Rattle.slugs.specs.Lists.{part}
use Rattle.slugs.specs.Splitting.{even_quotes}
use Rattle.words.specs.Words.{Word}

-- the byte stands at a place of the line, outside quotes: the number of quotes before it is even
pub record Outside (byte : ℕ) (line : List ℕ) (i : ℕ) : Type 0 where
  pub within : i < length line
  pub stands : get_or line i 0 ≡ byte
  pub even : even_quotes true (take i line) ≡ true

-- from a place up to another there are only spaces outside quotes
abbrev pub Spaces : List ℕ → ℕ → ℕ → Type 0
Spaces line from to = (i : ℕ) → from ≤ i → i < to → Outside space line i

-- the first place from one up to another that has the byte outside quotes; where none has it, the end of the range
pub record FirstOutside (byte : ℕ) (line : List ℕ) (from to place : ℕ) : Type 0 where
  pub least : from ≤ place
  pub most : place ≤ to
  pub none_before : (i : ℕ) → from ≤ i → i < place → Outside byte line i → ⊥
  pub here : place < to → Outside byte line place

-- a word is not empty, ends at the next space outside quotes or at the line's end, and is split by its first equals sign outside quotes, or
-- has its split at its end
pub record IsWord (line : List ℕ) (w : Word) : Type 0 where
  pub some : w.start < w.end
  pub ends : FirstOutside space line w.start (length line) w.end
  pub splits : FirstOutside equals line w.start w.end w.split

-- the line from a place on is spaces and a word in turn, and spaces at last; spaces may be none before the first word and after the last
pub data Parted (line : List ℕ) : ℕ → List Word → Type 0 where
  only_spaces : {i : ℕ} → Spaces line i (length line) → Parted line i []
  next_word : {i : ℕ} {w : Word} {ws : List Word} → i ≤ w.start → Spaces line i w.start → IsWord line w → Parted line w.end ws
      → Parted line i (w ∷ ws)

-- the bytes that words and the spaces between them make, from a place of the line on
unfoldable pub laid_out : List ℕ → ℕ → List Word → List ℕ
laid_out line i [] = replicate (length line - i) space
laid_out line i (w ∷ ws) = replicate (w.start - i) space ++ (part w.start w.end line ++ laid_out line w.end ws)

-- the last quote of a line
pub record LastQuote (line : List ℕ) (place : ℕ) : Type 0 where
  pub within : place < length line
  pub stands : get_or line place 0 ≡ quote
  pub none_after : (i : ℕ) → place < i → i < length line → get_or line i 0 ≡ quote → ⊥
