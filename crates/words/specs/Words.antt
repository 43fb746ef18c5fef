-- The words of a line, by the word rule.
use Rattle.std.specs.Prelude.{◌≡◌, ◌≤◌, ◌<◌, List, [], ◌∷◌, map, ℕ, zero, suc, eqb, ltb, length, get_or, take, drop}
use Rattle.std.proofs.lemmas.List.Edits.{sets}
use Rattle.answers.specs.Pick.{pick}
use Rattle.slugs.specs.Bytes.{space, quote, equals}
use Rattle.words.specs.Readers.{plain_from}

-- a word: where it starts, the place after its last byte, and where its key ends
pub record Word : Type 0 where
  pub start : ℕ
  pub end : ℕ
  pub split : ℕ

-- where a word that begins at a place ends: at the first space outside quotes, or at the line's end
abbrev pub end_of : List ℕ → ℕ → ℕ
end_of line at = plain_from space (drop at line) at

-- the first equals sign outside quotes of a word from a place up to another, or its end
unfoldable pub split_of : List ℕ → ℕ → ℕ → ℕ
split_of line at end = plain_from equals (drop at (take end line)) at

abbrev pub word_at : List ℕ → ℕ → ℕ → Word
word_at line at end = record { start = at; end = end; split = split_of line at end }

-- the words from a place outside quotes on, at most n turns: spaces are passed over, one in a turn, and then there is a
-- word. Where a quote is never closed, the words before it
unfoldable pub words_from : ℕ → List ℕ → ℕ → List Word
words_from zero line at = []
words_from (suc n) line at =
    pick (ltb at (length line))
    (pick (eqb (get_or line at 0) space)
    (words_from n line (suc at))
    (pick (eqb (get_or line (end_of line at) 0) quote) []
    (word_at line at (end_of line at) ∷ words_from n line (end_of line at))))
    []

-- each turn passes a byte or more
unfoldable pub words_of : List ℕ → List Word
words_of line = words_from (length line) line 0

-- the words from a place outside quotes on, which turns as many as the bytes of the line reach
abbrev pub words_on : List ℕ → ℕ → List Word
words_on line at = words_from (length line) line at

-- the words from a place on begin with the word from start up to end
pub record NextWord (line : List ℕ) (at start end : ℕ) : Type 0 where
  pub ahead : at < end
  pub within : end ≤ length line
  pub words : words_on line at ≡ word_at line start end ∷ words_on line end

-- the quote that none closes, or the line's end: a reader that looks for a quote outside quotes finds none, since each
-- opens a stretch
unfoldable pub unclosed_of : List ℕ → ℕ
unclosed_of line = plain_from quote line 0

abbrev pub starts : List Word → List ℕ
starts = map (λ w. w.start)

abbrev pub ends : List Word → List ℕ
ends = map (λ w. w.end)

abbrev pub splits : List Word → List ℕ
splits = map (λ w. w.split)

-- words in three lists, from a place of them on, each as far as its list goes; every other place is kept
pub record WordsWritten (ws : List Word) (n : ℕ) (a b c a' b' c' : List ℕ) : Type 0 where
  pub starts_at : a' ≡ sets a n (starts ws)
  pub ends_at : b' ≡ sets b n (ends ws)
  pub splits_at : c' ≡ sets c n (splits ws)
