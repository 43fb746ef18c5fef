-- Laws of places: what the readers, which begin at a place outside quotes, say of the bytes from there on, said of the places of the line.
use Prim.Native.Nat.{ℕ, suc, ◌+◌, ◌-◌, ◌≤◌, ◌<◌}
use mathlib.Core.Path.{◌≡◌, refl, sym, ap, ◌∙◌}
use mathlib.Core.Bool.{Bool, true}
use mathlib.Core.List.{List, [], ◌∷◌, ◌++◌}
use native.Mathlib.Omega.{arith}
use borrow.Author.Tests.{ne_eqb, eqb-false}
use lib.ListN.{length, get_or, take, drop, length-drop, take-append-drop}
use lib.Seq.{take-suc, take-add, get_or-drop, get_or-take, take-take, length-take-le}
use Rattle.answers.specs.Pick.{pick}
use Rattle.slugs.specs.Bytes.{quote}
use Rattle.slugs.specs.Splitting.{even_after, even_quotes}
use Rattle.words.specs.Readers.{plain_from}
use Rattle.words.specs.HouseRule.{Outside, FirstOutside}
use Rattle.words.proofs.EndsLaws.{Ends, NoneIn, found, closed, open_here, open_before, plain_ends}

-- ---- the parity of quotes

pub even_append : (e : Bool) (xs ys : List ℕ) → even_quotes e (xs ++ ys) ≡ even_quotes (even_quotes e xs) ys
unfolding even_quotes
even_append e [] ys = refl
even_append e (x ∷ xs) ys = even_append (even_after e x) xs ys

module _ (line : List ℕ) (i : ℕ) (even : even_quotes true (take i line) ≡ true) where
  -- behind a place outside quotes it is that of the bytes from there on
  pub even_from : (k : ℕ) → even_quotes true (take (i + k) line) ≡ even_quotes true (take k (drop i line))
  even_from k =
      ap (λ (l : List ℕ). even_quotes true l) (take-add i k line) ∙ even_append true (take i line) (take k (drop i line))
      ∙ ap (λ (e : Bool). even_quotes e (take k (drop i line))) even

  pub even_rest : even_quotes true line ≡ even_quotes true (drop i line)
  even_rest =
      ap (λ (l : List ℕ). even_quotes true l) (sym (take-append-drop i line)) ∙ even_append true (take i line) (drop i line)
      ∙ ap (λ (e : Bool). even_quotes e (drop i line)) even

  -- a byte that is no quote keeps it
  pub even_next : i < length line → (get_or line i 0 ≡ quote → ⊥) → even_quotes true (take (suc i) line) ≡ true
  unfolding even_quotes even_after pick
  even_next h n =
      ap (λ (l : List ℕ). even_quotes true l) (take-suc line i 0 h) ∙ even_append true (take i line) (get_or line i 0 ∷ [])
      ∙ ap (λ (e : Bool). even_quotes e (get_or line i 0 ∷ [])) even ∙ rw (ne_eqb (get_or line i 0) quote n)

-- ---- a reader that begins at a place outside quotes, and all quotes are closed up to another place

module _ (byte : ℕ) (line : List ℕ) (from to : ℕ) (within : from ≤ to) (in-line : to ≤ length line) (no_quote : byte ≡ quote → ⊥)
    (even : even_quotes true (take from line) ≡ true) (even-to : even_quotes true (take to line) ≡ true) where
  -- the bytes that are read
  abbrev bytes : List ℕ
  bytes = drop from (take to line)

  long : length bytes ≡ to - from
  long = length-drop from (take to line) ∙ ap (λ (n : ℕ). n - from) (length-take-le to line in-line)

  byte_at : (k : ℕ) → from + k < to → get_or bytes k 0 ≡ get_or line (from + k) 0
  byte_at k h = get_or-drop from (take to line) k 0 ∙ get_or-take to line (from + k) 0 h

  even_cut : even_quotes true (take from (take to line)) ≡ true
  even_cut = ap (λ (l : List ℕ). even_quotes true l) (take-take from to line within) ∙ even

  even_at : (k : ℕ) → from + k ≤ to → even_quotes true (take k bytes) ≡ even_quotes true (take (from + k) line)
  even_at k h = sym (even_from (take to line) from even_cut k) ∙ ap (λ (l : List ℕ). even_quotes true l) (take-take (from + k) to line h)

  all_closed : even_quotes true bytes ≡ true
  all_closed = sym (even_rest (take to line) from even_cut) ∙ even-to

  none_there : (n : ℕ) → from + n ≤ to → NoneIn byte true bytes n → (i : ℕ) → from ≤ i → i < from + n → Outside byte line i → ⊥
  none_there n h none i least less o =
      let k : from + (i - from) ≡ i = omega arith in
      let at : get_or bytes (i - from) 0 ≡ byte = byte_at (i - from) (omega arith) ∙ ap (λ (j : ℕ). get_or line j 0) k ∙ o.stands in
      none (i - from) (omega arith) at no_quote
      (even_at (i - from) (omega arith) ∙ ap (λ (j : ℕ). even_quotes true (take j line)) k ∙ o.even)

  by_ends : (place : ℕ) → Ends byte true bytes from 0 place → FirstOutside byte line from to place
  by_ends place (found k e h g n v none) =
      let l = long in
      let there : from + k < to = omega arith in
      record {
        least = omega arith;
        most = omega arith;
        none_before = λ i a b o. none_there k (omega arith) none i a (omega arith) o;
        here = λ z. record {
          within = omega arith;
          stands = ap (λ (j : ℕ). get_or line j 0) e ∙ sym (byte_at k there) ∙ g;
          even = ap (λ (j : ℕ). even_quotes true (take j line)) e ∙ sym (even_at k (omega arith)) ∙ v;
        };
      }
  by_ends place (closed e v none) =
      let l = long in
      record {
        least = omega arith;
        most = omega arith;
        none_before = λ i a b o. none_there (length bytes) (omega arith) none i a (omega arith) o;
        here = λ z. absurd (omega arith);
      }
  by_ends place (open_here k e h g v none) = absurd (eqb-false 0 0 (sym all_closed ∙ v) refl)
  by_ends place (open_before e z v none) = absurd (eqb-false 0 0 z refl)

  pub first_outside : FirstOutside byte line from to (plain_from byte bytes from)
  first_outside = by_ends (plain_from byte bytes from) (plain_ends byte bytes from 0)
