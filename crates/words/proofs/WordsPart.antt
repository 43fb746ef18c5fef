-- Where all quotes are closed, the words of a line part exactly at runs of spaces outside quotes, none is empty, and each is split by its
-- first equals sign outside quotes or has its split at its end: `words_part`.
use Prim.Native.Nat.{ℕ, zero, suc, ◌+◌, ◌≤◌, ◌<◌}
use mathlib.Core.Path.{◌≡◌, refl, sym, ap, subst, subst⁻¹, ◌∙◌}
use mathlib.Core.Bool.{true, false}
use mathlib.Core.List.{List, [], ◌∷◌}
use native.Mathlib.Omega.{arith}
use native.Mathlib.Decide.{ℕ_discrete}
use lib.Dec.{eqb}
use lib.ListN.{length, get_or, take, drop, get_or-eq_default}
use lib.Seq.{take-length}
use Rattle.slugs.specs.Bytes.{space, quote, equals}
use Rattle.slugs.specs.Splitting.{even_quotes}
use Rattle.words.specs.Readers.{plain_from}
use Rattle.words.specs.Words.{Word, end_of, split_of, word_at, words_from, words_of}
use Rattle.words.specs.HouseRule.{Outside, FirstOutside, IsWord, Parted, only_spaces, next_word}
use Rattle.words.proofs.PlacesLaws.{even_next, first_outside}
use Rattle.words.proofs.WordsLaws.{words_end, words_space, words_word}

-- neither is a quote
space_other : space ≡ quote → ⊥
space_other e = absurd (omega (arith, e))

equals_other : equals ≡ quote → ⊥
equals_other e = absurd (omega (arith, e))

-- ---- one space more in front

at_or_behind : (line : List ℕ) (i j : ℕ) → Outside space line i → i ≤ j → (suc i ≤ j → Outside space line j) → Outside space line j
at_or_behind line i j o a f = split (ℕ_discrete j i)
  where
    split : Dec (j ≡ i) → Outside space line j
    split (yes e) = subst⁻¹ (λ (k : ℕ). Outside space line k) e o
    split (no n) = f (omega (arith, n))

wider : (line : List ℕ) (i : ℕ) (ws : List Word) → Outside space line i → Parted line (suc i) ws → Parted line i ws
wider line i [] o (only_spaces s) = only_spaces (λ j a b. at_or_behind line i j o a (λ l. s j l b))
wider line i (w ∷ ws) o (next_word l s is rest) = next_word {i = i} {w = w} (omega arith) (λ j a b. at_or_behind line i j o a (λ m. s j m b)) is rest

module _ (line : List ℕ) (closed : even_quotes true line ≡ true) where
  all_even : even_quotes true (take (length line) line) ≡ true
  all_even = ap (λ (l : List ℕ). even_quotes true l) (take-length line) ∙ closed

  -- ---- the word that begins at a place outside quotes

  module _ (i : ℕ) (h : i < length line) (even : even_quotes true (take i line) ≡ true) (other : get_or line i 0 ≡ space → ⊥) where
    word_ends : FirstOutside space line i (length line) (end_of line i)
    word_ends =
        subst (λ (l : List ℕ). FirstOutside space line i (length line) (plain_from space (drop i l) i)) (take-length line)
        (first_outside space line i (length line) (omega arith) (omega arith) space_other even all_even)

    -- its end lies outside quotes, and no quote stands there
    end_even : even_quotes true (take (end_of line i) line) ≡ true
    end_even = split (ℕ_discrete (end_of line i) (length line))
      where
        split : Dec (end_of line i ≡ length line) → even_quotes true (take (end_of line i) line) ≡ true
        split (yes e) = ap (λ (k : ℕ). even_quotes true (take k line)) e ∙ all_even
        split (no f) = let m = word_ends.most in (word_ends.here (omega (arith, f))).even

    end_free : eqb (get_or line (end_of line i) 0) quote ≡ false
    end_free = split (ℕ_discrete (end_of line i) (length line))
      where
        split : Dec (end_of line i ≡ length line) → eqb (get_or line (end_of line i) 0) quote ≡ false
        split (yes e) = ap (λ (b : ℕ). eqb b quote) (get_or-eq_default line 0 {n = end_of line i} (omega arith))
        split (no f) = let m = word_ends.most in ap (λ (b : ℕ). eqb b quote) (word_ends.here (omega (arith, f))).stands

    word_some : i < end_of line i
    word_some = split (ℕ_discrete (end_of line i) i)
      where
        split : Dec (end_of line i ≡ i) → i < end_of line i
        split (yes e) = absurd (other (ap (λ (k : ℕ). get_or line k 0) (sym e) ∙ (word_ends.here (omega arith)).stands))
        split (no f) = let l = word_ends.least in omega (arith, f)

    word_splits : FirstOutside equals line i (end_of line i) (split_of line i (end_of line i))
    unfolding split_of
    word_splits =
        let s = word_some in
        first_outside equals line i (end_of line i) (omega arith) word_ends.most equals_other even end_even

    is_word : IsWord line (word_at line i (end_of line i))
    is_word = record { some = word_some; ends = word_ends; splits = word_splits }

  -- ---- turn by turn

  from_place : (n i : ℕ) → length line ≤ i + n → i ≤ length line → even_quotes true (take i line) ≡ true → Parted line i (words_from n line i)
  from_place zero i m l even =
      subst⁻¹ (λ (ws : List Word). Parted line i ws) (words_end line i zero (omega arith)) (only_spaces (λ j a b. absurd (omega arith)))
  from_place (suc n) i m l even =
      split (ℕ_discrete i (length line)) (ℕ_discrete (get_or line i 0) space) (λ j a b e. from_place n j a b e)
    where
      split : Dec (i ≡ length line) → Dec (get_or line i 0 ≡ space)
          → ((j : ℕ) → length line ≤ j + n → j ≤ length line → even_quotes true (take j line) ≡ true → Parted line j (words_from n line j))
          → Parted line i (words_from (suc n) line i)
      split (yes e) at rest =
          subst⁻¹ (λ (ws : List Word). Parted line i ws) (words_end line i (suc n) (omega arith)) (only_spaces (λ j a b. absurd (omega arith)))
      split (no f) (yes e) rest =
          let h : i < length line = omega (arith, f) in
          subst⁻¹ (λ (ws : List Word). Parted line i ws) (words_space line i n h e)
          (wider line i (words_from n line (suc i)) (record { within = h; stands = e; even = even })
          (rest (suc i) (omega arith) (omega arith) (even_next line i even h (λ q. space_other (sym e ∙ q)))))
      split (no f) (no g) rest =
          let h : i < length line = omega (arith, f) in
          let some = word_some i h even g in
          let most = (word_ends i h even g).most in
          subst⁻¹ (λ (ws : List Word). Parted line i ws) (words_word line i n h g (end_free i h even g))
          (next_word {i = i} {w = word_at line i (end_of line i)} (omega arith) (λ j a b. absurd (omega arith)) (is_word i h even g)
          (rest (end_of line i) (omega arith) most (end_even i h even g)))

  pub words_part : Parted line 0 (words_of line)
  unfolding words_of even_quotes
  words_part = from_place (length line) 0 (omega arith) (omega arith) refl
