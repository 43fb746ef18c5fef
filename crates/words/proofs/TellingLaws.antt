-- Laws of what is told and written, case by case.
use Prim.Native.Nat.{ℕ, ◌≤◌, ◌<◌}
use mathlib.Core.Path.{◌≡◌, refl, sym, subst, ◌∙◌}
use mathlib.Core.List.{List, []}
use borrow.Author.Tests.{lt-ltb, le-ltb}
use lib.ListN.{length, drop}
use Rattle.answers.specs.Pick.{pick}
use Rattle.words.specs.Readers.{plain_from}
use Rattle.words.specs.Words.{words_of, WordsWritten, unclosed_of}
use Rattle.words.specs.Telling.{answer_for, stored_of}
use Rattle.std.specs.Prelude.{Ok, Err}
use Rattle.words.specs.declared.ReadError.TheVariants.{UnclosedQuote, TooFewPlaces}

unclosed_drop : (line : List ℕ) → plain_from 34 (drop 0 line) 0 ≡ unclosed_of line
unfolding unclosed_of
unclosed_drop line = refl

module _ (line : List ℕ) (room : ℕ) {u : ℕ} (told : u ≡ plain_from 34 (drop 0 line) 0) where
  eu : u ≡ unclosed_of line
  eu = told ∙ unclosed_drop line

  pub unclosed_told : u < length line → Err (UnclosedQuote u) ≡ answer_for line room
  unfolding answer_for pick
  unclosed_told h = rw (sym eu, lt-ltb u (length line) h)

  unclosed_stored : u < length line → [] ≡ stored_of line room
  unfolding stored_of pick
  unclosed_stored h = rw (sym eu, lt-ltb u (length line) h)

  pub unclosed_written : {a b c : List ℕ} → u < length line → WordsWritten (stored_of line room) 0 a b c a b c
  unclosed_written {a} {b} {c} h = subst (λ ws. WordsWritten ws 0 a b c a b c) (unclosed_stored h) (record { starts_at = refl; ends_at = refl; splits_at = refl })

  module _ (h : length line ≤ u) {n r : ℕ} (en : n ≡ length (words_of line)) (er : r ≡ room) where
    pub few_told : r < n → Err TooFewPlaces ≡ answer_for line room
    unfolding answer_for pick
    few_told l = rw (sym eu, le-ltb u (length line) h, sym en, sym er, lt-ltb r n l)

    few_stored : r < n → [] ≡ stored_of line room
    unfolding stored_of pick
    few_stored l = rw (sym eu, le-ltb u (length line) h, sym en, sym er, lt-ltb r n l)

    pub few_written : {a b c : List ℕ} → r < n → WordsWritten (stored_of line room) 0 a b c a b c
    few_written {a} {b} {c} l = subst (λ ws. WordsWritten ws 0 a b c a b c) (few_stored l) (record { starts_at = refl; ends_at = refl; splits_at = refl })

    pub words_told : n ≤ r → Ok n ≡ answer_for line room
    unfolding answer_for pick
    words_told l = rw (sym eu, le-ltb u (length line) h, sym en, sym er, le-ltb r n l)

    words_stored : n ≤ r → words_of line ≡ stored_of line room
    unfolding stored_of pick
    words_stored l = rw (sym eu, le-ltb u (length line) h, sym en, sym er, le-ltb r n l)

    pub words_written : {a b c a' b' c' : List ℕ} → n ≤ r → WordsWritten (words_of line) 0 a b c a' b' c' → WordsWritten (stored_of line room) 0 a b c a' b' c'
    words_written {a} {b} {c} {a'} {b'} {c'} l w = subst (λ ws. WordsWritten ws 0 a b c a' b' c') (words_stored l) w
