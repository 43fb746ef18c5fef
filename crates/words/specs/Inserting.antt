-- Lines made only by accepted `insert` calls, and how their insertions are read back.
use Rattle.answers.specs.Tests.{pass}
use Rattle.std.specs.Prelude.{◌≡◌, Ok, true, false, List, [], ◌∷◌, map, ℕ, suc, ◌+◌, ◌≤◌, length, get_or}
use Rattle.slugs.specs.Bytes.{quote, equals, has}
use Rattle.slugs.specs.Lists.{part}
use Rattle.slugs.specs.Values.{quoted, pair}
use Rattle.cmdline.specs.Calls as Calls
use Rattle.words.specs.Words.{Word, words_of, unclosed_of}
use Rattle.words.specs.Telling.{answer_for}

-- what one insertion is given
pub record Insertion : Type 0 where
  pub key : List ℕ
  pub value : List ℕ

abbrev pub insertions : List Insertion → List Calls.Call
insertions = map (λ x. Calls.inserts x.key x.value)

-- no call was refused, the making among them
pub data AllAccepted : List Calls.Said → Type 0 where
  no_call : AllAccepted []
  accepted : {said : List Calls.Said} → AllAccepted said → AllAccepted (Calls.answered pass ∷ said)

-- a value is free of quotes, or has two bytes or more and a quote at each end
pub data ValueQuotes (value : List ℕ) : Type 0 where
  free : has quote value ≡ false → ValueQuotes value
  at_ends : quoted value ≡ true → ValueQuotes value

-- and the key is free of them; of each insertion
pub data WellQuoted : List Insertion → Type 0 where
  no_more : WellQuoted []
  well_quoted : {x : Insertion} {xs : List Insertion} → has quote x.key ≡ false → ValueQuotes x.value → WellQuoted xs → WellQuoted (x ∷ xs)

-- the words that insertions are from a place on, one space between two
unfoldable pub words_at : ℕ → List Insertion → List Word
words_at at [] = []
words_at at (x ∷ xs) =
    record { start = at; end = at + length (pair x.key x.value); split = at + length x.key }
    ∷ words_at (suc (at + length (pair x.key x.value))) xs

-- key and value stand in the line at the places of the word
pub record StandsAs (line : List ℕ) (w : Word) (x : Insertion) : Type 0 where
  pub key : part w.start w.split line ≡ x.key
  pub sign : get_or line w.split 0 ≡ equals
  pub value : part (suc w.split) w.end line ≡ x.value

-- words are insertions, in order
pub data StandInOrder (line : List ℕ) : List Word → List Insertion → Type 0 where
  all_read : StandInOrder line [] []
  next_read : {w : Word} {x : Insertion} {ws : List Word} {xs : List Insertion} → StandsAs line w x → StandInOrder line ws xs
      → StandInOrder line (w ∷ ws) (x ∷ xs)

-- a line is read as these insertions: every quote is closed, and the words are they
pub record ReadsBack (line : List ℕ) (xs : List Insertion) : Type 0 where
  pub closed : unclosed_of line ≡ length line
  pub placed : words_of line ≡ words_at 0 xs
  pub in_order : StandInOrder line (words_of line) xs
  pub told : (room : ℕ) → length xs ≤ room → answer_for line room ≡ Ok (length xs)
