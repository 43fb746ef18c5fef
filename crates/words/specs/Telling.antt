-- What reading a line says, and what it writes: an unclosed quote is tested first, then whether the lists have room.
use Rattle.std.specs.Prelude.{◌≡◌, Result, Ok, Err, List, [], ◌∷◌, ℕ, min, ltb, length}
use Rattle.answers.specs.Pick.{pick}
use Rattle.answers.specs.Catalogue.{number_of}
use Rattle.answers.specs.declared.Refusal.TheVariants as refusal
use Rattle.words.specs.Words.{Word, words_of, unclosed_of, WordsWritten}
use Rattle.words.specs.declared.ReadError.{ReadError}
use Rattle.words.specs.declared.ReadError.TheVariants.{UnclosedQuote, TooFewPlaces}

-- how many words there are, or why the line is not read
abbrev pub Answer : Type 0
Answer = Result ℕ ReadError

-- what is said where the shortest list has so many places
unfoldable pub answer_for : List ℕ → ℕ → Answer
answer_for line room =
    pick (ltb (unclosed_of line) (length line)) (Err (UnclosedQuote (unclosed_of line)))
    (pick (ltb room (length (words_of line))) (Err TooFewPlaces) (Ok (length (words_of line))))

-- and the words that are written: none beside a refusal
unfoldable pub stored_of : List ℕ → ℕ → List Word
stored_of line room = pick (ltb (unclosed_of line) (length line)) [] (pick (ltb room (length (words_of line))) [] (words_of line))

-- the places of the shortest of three lists
abbrev pub room_of : List ℕ → List ℕ → List ℕ → ℕ
room_of a b c = min (length a) (min (length b) (length c))

-- reading a line: what it says, and what it leaves in the three lists
pub record ReadsLine (line a b c : List ℕ) (r : Answer) (a' b' c' : List ℕ) : Type 0 where
  pub answer : r ≡ answer_for line (room_of a b c)
  pub written : WordsWritten (stored_of line (room_of a b c)) 0 a b c a' b' c'

-- the catalogue's number; words that were read have none, and count as 0
abbrev pub words_number : Answer → ℕ
words_number (Ok n) = 0
words_number (Err (UnclosedQuote at)) = number_of refusal.UnclosedQuote
words_number (Err TooFewPlaces) = number_of refusal.TooFewPlaces

-- the value that is told: how many words, or the place of the quote
unfoldable pub words_values : Answer → List ℕ
words_values (Ok n) = n ∷ []
words_values (Err (UnclosedQuote at)) = at ∷ []
words_values (Err TooFewPlaces) = []
