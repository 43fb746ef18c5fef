-- "An unclosed quote is refusal 71 with the place of that opening quote, asked first"; "too few places in any is 72";
-- "both refusals write nothing". Of what `read` returns by its contract: 71 exactly when the quotes are odd in number
-- (`odd_number`, `number_odd`), 72 exactly when they are even and the words of the line by the house rule are more than
-- the shortest list has places (`few_number`, `number_few`), and else the words are counted and written (`read_number`,
-- `number_read`, `words_written`).
use Prim.Native.Nat.{ℕ, ◌≤◌, ◌<◌}
use mathlib.Core.Path.{◌≡◌, refl, sym, ap, subst, subst⁻¹, ◌∙◌}
use mathlib.Core.Bool.{Bool, true, false}
use mathlib.Core.List.{List, [], ◌∷◌}
use native.Mathlib.Omega.{arith}
use borrow.Author.Tests.{lt-ltb, le-ltb, ltb-true, ltb-false}
use lib.Dec.{ltb}
use lib.ListN.{length}
use Rattle.answers.specs.Pick.{pick}
use Rattle.slugs.specs.Splitting.{even_quotes}
use Rattle.words.specs.Words.{Word, words_of, unclosed_of, WordsWritten}
use Rattle.words.specs.Telling.{Answer, answer_for, stored_of, room_of, ReadsLine, words_number, words_values}
use Rattle.words.specs.HouseRule.{LastQuote, Parted}
use Rattle.std.specs.Prelude.{Ok, Err}
use Rattle.words.specs.declared.ReadError.TheVariants.{UnclosedQuote, TooFewPlaces}
use Rattle.words.proofs.OddQuotes.{odd_last, even_closed}
use Rattle.words.proofs.LaidOut.{words_only}

-- the three ways in which reading ends: what is answered, and the words that are written
data Case (line : List ℕ) (room : ℕ) : Answer → List Word → Type 0 where
  unclosed : even_quotes true line ≡ false → LastQuote line (unclosed_of line) → Case line room (Err (UnclosedQuote (unclosed_of line))) []
  few : even_quotes true line ≡ true → room < length (words_of line) → Case line room (Err TooFewPlaces) []
  all : even_quotes true line ≡ true → length (words_of line) ≤ room → Case line room (Ok (length (words_of line))) (words_of line)

case_of : (line : List ℕ) (room : ℕ) → Case line room (answer_for line room) (stored_of line room)
unfolding answer_for stored_of pick
case_of line room = by_quotes (even_quotes true line) refl
  where
    by_room : (t : Bool) → even_quotes true line ≡ true → ltb room (length (words_of line)) ≡ t
        → Case line room (pick t (Err TooFewPlaces) (Ok (length (words_of line)))) (pick t [] (words_of line))
    by_room true even e = few even (ltb-true room (length (words_of line)) e)
    by_room false even e = all even (ltb-false room (length (words_of line)) e)

    by_quotes : (b : Bool) → even_quotes true line ≡ b → Case line room (answer_for line room) (stored_of line room)
    by_quotes true even =
        rw (even_closed line even, le-ltb (length line) (length line) (omega arith)) (by_room (ltb room (length (words_of line))) even refl)
    by_quotes false odd = let l = odd_last line odd in rw (lt-ltb (unclosed_of line) (length line) l.within) (unclosed odd l)

module _ {line : List ℕ} {room : ℕ} where
  odd_case : {r : Answer} {ws : List Word} → Case line room r ws → even_quotes true line ≡ false
      → (words_number r ≡ 71) × ((words_values r ≡ unclosed_of line ∷ []) × LastQuote line (unclosed_of line))
  unfolding words_values
  odd_case (unclosed o l) odd = (refl, (refl, l))
  odd_case (few even h) odd = let w : ◌≡◌ {A = ℕ} 0 1 = cc in absurd (omega arith)
  odd_case (all even h) odd = let w : ◌≡◌ {A = ℕ} 0 1 = cc in absurd (omega arith)

  case_odd : {r : Answer} {ws : List Word} → Case line room r ws → words_number r ≡ 71 → even_quotes true line ≡ false
  case_odd (unclosed o l) e = o
  case_odd (few even h) e = absurd (omega arith)
  case_odd (all even h) e = absurd (omega arith)

  few_case : {r : Answer} {ws : List Word} → Case line room r ws → even_quotes true line ≡ true → room < length (words_of line) → words_number r ≡ 72
  few_case (unclosed odd l) even h = let w : ◌≡◌ {A = ℕ} 0 1 = cc in absurd (omega arith)
  few_case (few e l) even h = refl
  few_case (all e l) even h = absurd (omega arith)

  case_few : {r : Answer} {ws : List Word} → Case line room r ws → words_number r ≡ 72 → (even_quotes true line ≡ true) × (room < length (words_of line))
  case_few (unclosed odd l) e = absurd (omega arith)
  case_few (few even h) e = (even, h)
  case_few (all even h) e = absurd (omega arith)

  all_case : {r : Answer} {ws : List Word} → Case line room r ws → even_quotes true line ≡ true → length (words_of line) ≤ room
      → ((words_number r ≡ 0) × (words_values r ≡ length (words_of line) ∷ [])) × (ws ≡ words_of line)
  unfolding words_values
  all_case (unclosed odd l) even h = let w : ◌≡◌ {A = ℕ} 0 1 = cc in absurd (omega arith)
  all_case (few e l) even h = absurd (omega arith)
  all_case (all e l) even h = ((refl, refl), refl)

  case_all : {r : Answer} {ws : List Word} → Case line room r ws → words_number r ≡ 0 → (even_quotes true line ≡ true) × (length (words_of line) ≤ room)
  case_all (unclosed odd l) e = absurd (omega arith)
  case_all (few even h) e = absurd (omega arith)
  case_all (all even h) e = (even, h)

  case_nothing : {r : Answer} {ws : List Word} → Case line room r ws → (words_number r ≡ 0 → ⊥) → ws ≡ []
  case_nothing (unclosed odd l) n = refl
  case_nothing (few even h) n = refl
  case_nothing (all even h) n = absurd (n refl)

module _ {line a b c : List ℕ} {r : Answer} {a' b' c' : List ℕ} (reads : ReadsLine line a b c r a' b' c') where
  case : Case line (room_of a b c) r (stored_of line (room_of a b c))
  case = subst⁻¹ (λ (x : Answer). Case line (room_of a b c) x (stored_of line (room_of a b c))) reads.answer (case_of line (room_of a b c))

  -- 71, with the place of the last quote, exactly when the quotes are odd in number
  pub odd_number : even_quotes true line ≡ false → (words_number r ≡ 71) × ((words_values r ≡ unclosed_of line ∷ []) × LastQuote line (unclosed_of line))
  odd_number = odd_case case

  pub number_odd : words_number r ≡ 71 → even_quotes true line ≡ false
  number_odd = case_odd case

  module _ (ws : List Word) (parted : Parted line 0 ws) where
    count : even_quotes true line ≡ true → length ws ≡ length (words_of line)
    count even = ap (λ (x : List Word). length x) (words_only line ws even parted)

    -- 72 exactly when the quotes are even in number, and the words of the line are more than the places of the shortest
    -- list
    pub few_number : even_quotes true line ≡ true → room_of a b c < length ws → words_number r ≡ 72
    few_number even h = let n = count even in few_case case even (omega arith)

    pub number_few : words_number r ≡ 72 → (even_quotes true line ≡ true) × (room_of a b c < length ws)
    number_few e = let is = case_few case e in let n = count is.0 in let h = is.1 in (is.0, omega arith)

    -- else the words are counted
    pub read_number : even_quotes true line ≡ true → length ws ≤ room_of a b c → (words_number r ≡ 0) × (words_values r ≡ length ws ∷ [])
    read_number even h =
        let n = count even in let is = (all_case case even (omega arith)).0 in (is.0, is.1 ∙ ap (λ (k : ℕ). k ∷ []) (sym n))

    pub number_read : words_number r ≡ 0 → (even_quotes true line ≡ true) × (length ws ≤ room_of a b c)
    number_read e = let is = case_all case e in let n = count is.0 in let h = is.1 in (is.0, omega arith)

    -- and written
    pub words_written : words_number r ≡ 0 → WordsWritten ws 0 a b c a' b' c'
    words_written e =
        let is = case_all case e in
        subst (λ (x : List Word). WordsWritten x 0 a b c a' b' c') ((all_case case is.0 is.1).1 ∙ sym (words_only line ws is.0 parted)) reads.written

  -- both refusals write nothing
  pub refused_writes_nothing : (words_number r ≡ 0 → ⊥) → (a' ≡ a) × ((b' ≡ b) × (c' ≡ c))
  refused_writes_nothing n =
      let w : WordsWritten [] 0 a b c a' b' c' = subst (λ (x : List Word). WordsWritten x 0 a b c a' b' c') (case_nothing case n) reads.written in
      (w.starts_at, (w.ends_at, w.splits_at))
