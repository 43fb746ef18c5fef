-- What the entry point of a line's words answers and leaves. The list for the count has one place; with another size nothing is done.
use Rattle.std.specs.Prelude.{ℕ, ◌≡◌, List, [], eqb, length}
use Rattle.std.proofs.lemmas.List.Edits.{sets}
use Rattle.answers.specs.Pick.{pick}
use Rattle.words.specs.Words.{WordsWritten}
use Rattle.words.specs.Telling.{room_of, answer_for, stored_of, words_number, words_values}
use Rattle.capi.specs.Values.{number_where, left_where}

-- the number; the count or the place of the unclosed quote; and the words in the three lists, later places kept
pub record LineWords (line a b c out : List ℕ) (r : ℕ) (a' b' c' out' : List ℕ) : Type 0 where
  pub answer : r ≡ number_where (eqb (length out) 1) (words_number (answer_for line (room_of a b c)))
  pub told : out' ≡ left_where (eqb (length out) 1) (sets out 0 (words_values (answer_for line (room_of a b c)))) out
  pub written : WordsWritten (pick (eqb (length out) 1) (stored_of line (room_of a b c)) []) 0 a b c a' b' c'
