-- A line is refused for an unclosed quote exactly when the number of its quotes is odd, and the place told is that of the last one:
-- `odd_refused`, `refused_odd`. Where the number is even, reading ends at the line's end: `even_closed`.
use Prim.Native.Nat.{ℕ, ◌<◌}
use mathlib.Core.Path.{◌≡◌, refl, sym, ap, ◌∙◌}
use mathlib.Core.Bool.{Bool, true, false}
use mathlib.Core.List.{List}
use native.Mathlib.Omega.{arith}
use borrow.Author.Tests.{eqb-false, lt-ltb, le-ltb}
use lib.Dec.{ltb}
use lib.ListN.{length, get_or}
use Rattle.answers.specs.Pick.{pick}
use Rattle.answers.proofs.PickLaws.{pick_with}
use Rattle.slugs.specs.Bytes.{quote}
use Rattle.slugs.specs.Splitting.{even_quotes}
use Rattle.words.specs.Words.{words_of, unclosed_of}
use Rattle.words.specs.Telling.{Answer, answer_for}
use Rattle.words.specs.HouseRule.{LastQuote}
use Rattle.std.specs.Prelude.{Ok, Err}
use Rattle.words.specs.declared.ReadError.TheVariants.{UnclosedQuote, TooFewPlaces}
use Rattle.words.proofs.EndsLaws.{Ends, found, closed, open_here, open_before, plain_ends}

-- 1 of a refusal for an unclosed quote
abbrev kind : Answer → ℕ
kind (Ok n) = 0
kind (Err (UnclosedQuote place)) = 1
kind (Err TooFewPlaces) = 0

same_place : {a b : ℕ} → ◌≡◌ {A = Answer} (Err (UnclosedQuote a)) (Err (UnclosedQuote b)) → b ≡ a
same_place e = cc

module _ (line : List ℕ) where
  ends : Ends quote true line 0 0 (unclosed_of line)
  unfolding unclosed_of
  ends = plain_ends quote line 0 0

  last : {u : ℕ} (k : ℕ) → u ≡ k → k < length line → get_or line k 0 ≡ quote
      → ((j : ℕ) → k < j → j < length line → get_or line j 0 ≡ quote → ⊥) → LastQuote line u
  last k e h g none = record {
    within = omega arith;
    stands = ap (λ (i : ℕ). get_or line i 0) e ∙ g;
    none_after = λ j l m. none j (omega arith) m;
  }

  by_ends : {u : ℕ} → Ends quote true line 0 0 u → even_quotes true line ≡ false → LastQuote line u
  by_ends (found k e h g n v none) odd = absurd (n refl)
  by_ends (closed e v none) odd = absurd (eqb-false 0 0 (sym v ∙ odd) refl)
  by_ends (open_here k e h g v none) odd = last k (omega arith) h g none
  by_ends (open_before e z v none) odd = absurd (eqb-false 0 0 z refl)

  even_ends : {u : ℕ} → Ends quote true line 0 0 u → even_quotes true line ≡ true → u ≡ length line
  even_ends (found k e h g n v none) even = absurd (n refl)
  even_ends (closed e v none) even = omega arith
  even_ends (open_here k e h g v none) even = absurd (eqb-false 0 0 (sym even ∙ v) refl)
  even_ends (open_before e z v none) even = absurd (eqb-false 0 0 z refl)

  -- an odd number of quotes: reading stops at the last one
  pub odd_last : even_quotes true line ≡ false → LastQuote line (unclosed_of line)
  odd_last odd = by_ends ends odd

  -- an even number: it ends at the line's end
  pub even_closed : even_quotes true line ≡ true → unclosed_of line ≡ length line
  even_closed even = even_ends ends even

  -- so the refusal, whatever room there is
  pub odd_refused : (room : ℕ) → even_quotes true line ≡ false → (answer_for line room ≡ Err (UnclosedQuote (unclosed_of line))) × LastQuote line (unclosed_of line)
  unfolding answer_for pick
  odd_refused room odd = let l = odd_last odd in (rw (lt-ltb (unclosed_of line) (length line) l.within), l)

  parity : (b : Bool) → even_quotes true line ≡ b → (even_quotes true line ≡ true → ⊥) → even_quotes true line ≡ false
  parity true e n = absurd (n e)
  parity false e n = e

  -- and no other refusal is that
  closed_kind : (room : ℕ) → even_quotes true line ≡ true → kind (answer_for line room) ≡ 0
  unfolding answer_for pick
  closed_kind room even =
      rw (even_closed even, le-ltb (length line) (length line) (omega arith))
      (pick_with (λ (t : Answer). kind t ≡ 0) (ltb room (length (words_of line))) (λ e. refl) (λ e. refl))

  pub refused_odd : (room place : ℕ) → answer_for line room ≡ Err (UnclosedQuote place) → (even_quotes true line ≡ false) × (place ≡ unclosed_of line)
  refused_odd room place told =
      let odd = parity (even_quotes true line) refl (λ even. let z = sym (closed_kind room even) ∙ ap kind told in absurd (omega arith)) in
      (odd, same_place (sym (odd_refused room odd).0 ∙ told))
