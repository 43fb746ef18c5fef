-- Laws of the words of a line, turn by turn.
use Prim.Native.Nat.{ℕ, zero, suc, ◌+◌, ◌-◌, ◌≤◌, ◌<◌}
use mathlib.Core.Path.{◌≡◌, refl, sym, ap, subst, ◌∙◌}
use mathlib.Core.Bool.{Bool, true, false}
use mathlib.Core.List.{List, [], ◌∷◌}
use native.Mathlib.Omega.{arith}
use native.Mathlib.Decide.{ℕ_discrete, dec_le}
use borrow.Author.Tests.{eq-eqb, ne_eqb, lt-ltb, le-ltb, eqb-false}
use lib.Dec.{eqb}
use lib.ListN.{length, get_or, take, drop, set, length-drop}
use lib.Seq.{sets, get_or-drop}
use Rattle.slugs.proofs.ListLaws.{part_end}
use Rattle.answers.specs.Pick.{pick}
use Rattle.words.specs.Words.{Word, NextWord, end_of, word_at, words_from, words_on, starts, ends, splits, WordsWritten}
use Rattle.words.proofs.ReadersLaws.{plain_between, quoted_between, plain_quote, plain_on}

-- not past the end
pub stop_within : (s : List ℕ) (i : ℕ) → i ≤ length s → end_of s i ≤ length s
stop_within s i h = let b = plain_between (drop i s) 32 i in let l = length-drop i s in omega arith

-- a word that is closed is not empty
pub stop_ahead : (s : List ℕ) (i : ℕ) → i < length s → (get_or s i 0 ≡ 32 → ⊥) → (get_or s (end_of s i) 0 ≡ 34 → ⊥) → i < end_of s i
stop_ahead s i h n m = split (ℕ_discrete (get_or s i 0) 34)
  where
    split : Dec (get_or s i 0 ≡ 34) → i < end_of s i
    split (yes e) =
        let q = quoted_between (drop (suc i) s) 32 (suc i) i (omega arith) in
        let w = plain_quote 32 s i h e in
        let far : (end_of s i ≡ i → ⊥) = λ z. m (ap (λ (j : ℕ). get_or s j 0) z ∙ e) in
        omega (arith, far)
    split (no f) =
        let p = plain_between (drop (suc i) s) 32 (suc i) in
        let w = plain_on 32 s i h f n in
        omega arith

module _ (s : List ℕ) (i : ℕ) where
  pub words_end : (k : ℕ) → length s ≤ i → words_from k s i ≡ []
  unfolding words_from pick
  words_end zero h = refl
  words_end (suc k) h = rw (le-ltb i (length s) h)

  pub words_space : (k : ℕ) → i < length s → get_or s i 0 ≡ 32 → words_from (suc k) s i ≡ words_from k s (suc i)
  unfolding words_from pick
  words_space k h e = rw (lt-ltb i (length s) h, eq-eqb _ _ e)

  words_unclosed : (k : ℕ) → i < length s → (get_or s i 0 ≡ 32 → ⊥) → eqb (get_or s (end_of s i) 0) 34 ≡ true → words_from (suc k) s i ≡ []
  unfolding words_from pick
  words_unclosed k h n e = rw (lt-ltb i (length s) h, ne_eqb _ _ n, e)

  pub words_word : (k : ℕ) → i < length s → (get_or s i 0 ≡ 32 → ⊥) → eqb (get_or s (end_of s i) 0) 34 ≡ false
      → words_from (suc k) s i ≡ word_at s i (end_of s i) ∷ words_from k s (end_of s i)
  unfolding words_from pick
  words_word k h n e = rw (lt-ltb i (length s) h, ne_eqb _ _ n, e)

-- ---- the words from a place on, in as many turns as reach the end

module _ (s : List ℕ) where
  -- more turns than enough say the same
  enough_same : (k m i : ℕ) → length s ≤ i + k → length s ≤ i + m → words_from k s i ≡ words_from m s i
  enough_same zero m i a b = words_end s i zero (omega arith) ∙ sym (words_end s i m (omega arith))
  enough_same (suc k) zero i a b = words_end s i (suc k) (omega arith) ∙ sym (words_end s i zero (omega arith))
  enough_same (suc k) (suc m) i a b = split (dec_le (suc i) (length s)) (ℕ_discrete (get_or s i 0) 32) (eqb (get_or s (end_of s i) 0) 34) refl
      (λ j h. enough_same k m j (omega arith) (omega arith))
    where
      split : Dec (suc i ≤ length s) → Dec (get_or s i 0 ≡ 32) → (q : Bool) → eqb (get_or s (end_of s i) 0) 34 ≡ q
          → ((j : ℕ) → suc i ≤ j → words_from k s j ≡ words_from m s j) → words_from (suc k) s i ≡ words_from (suc m) s i
      split (no h) sp q e on = words_end s i (suc k) (omega arith) ∙ sym (words_end s i (suc m) (omega arith))
      split (yes h) (yes sp) q e on = words_space s i k h sp ∙ on (suc i) (omega arith) ∙ sym (words_space s i m h sp)
      split (yes h) (no n) true e on = words_unclosed s i k h n e ∙ sym (words_unclosed s i m h n e)
      split (yes h) (no n) false e on =
          words_word s i k h n e
          ∙ ap (λ (ws : List Word). word_at s i (end_of s i) ∷ ws) (on (end_of s i) (stop_ahead s i h n (λ f. eqb-false _ _ e f)))
          ∙ sym (words_word s i m h n e)

  turn_on : (i : ℕ) (P : List Word → Type 0) → ((k : ℕ) → length s ≤ suc i + k → P (words_from (suc k) s i)) → P (words_on s i)
  turn_on i P f = subst P (enough_same (suc (length s)) (length s) i (omega arith) (omega arith)) (f (length s) (omega arith))

  -- spaces are passed over
  space_on : (i : ℕ) → i < length s → get_or s i 0 ≡ 32 → words_on s i ≡ words_on s (suc i)
  space_on i h e =
      turn_on i (λ ws. ws ≡ words_on s (suc i)) (λ k l. words_space s i k h e ∙ enough_same k (length s) (suc i) (omega arith) (omega arith))

  spaces_on : (i n : ℕ) → i + n ≤ length s → ((k : ℕ) → k < n → get_or s (i + k) 0 ≡ 32) → words_on s i ≡ words_on s (i + n)
  spaces_on i zero h e = ap (λ (k : ℕ). words_on s k) (let z : i ≡ i + 0 = omega arith in z)
  spaces_on i (suc n) h e =
      spaces_on i n (omega arith) (λ k l. e k (omega arith))
      ∙ space_on (i + n) (omega arith) (e n (omega arith))
      ∙ ap (λ (k : ℕ). words_on s k) (let z : suc (i + n) ≡ i + suc n = omega arith in z)

  -- a byte of the rest from a place on, as a slice has it
  pub rest_at : (i k : ℕ) → get_or (take (length s - i) (drop i s)) k 0 ≡ get_or s (i + k) 0
  rest_at i k = ap (λ (l : List ℕ). get_or l k 0) (part_end s i) ∙ get_or-drop i s k 0

  -- only spaces are left
  pub no_word : (i n : ℕ) → i + n ≡ length s → ((k : ℕ) → k < n → get_or s (i + k) 0 ≡ 32) → words_on s i ≡ []
  no_word i n h e = spaces_on i n (omega arith) e ∙ words_end s (i + n) (length s) (omega arith)

  -- a byte that is no space follows n spaces: the word that begins there
  module _ (i n : ℕ) (within : i + n < length s) (spaces : (k : ℕ) → k < n → get_or s (i + k) 0 ≡ 32) (other : get_or s (i + n) 0 ≡ 32 → ⊥)
      (stop : ℕ) (reads : stop ≡ end_of s (i + n)) where
    -- has a quote that none closes
    pub open_word : eqb (get_or s stop 0) 34 ≡ true → words_on s i ≡ []
    open_word e =
        let q = ap (λ (j : ℕ). eqb (get_or s j 0) 34) (sym reads) ∙ e in
        spaces_on i n (omega arith) spaces
        ∙ turn_on (i + n) (λ ws. ws ≡ []) (λ k l. words_unclosed s (i + n) k within other q)

    -- or is the next word
    pub next_is : eqb (get_or s stop 0) 34 ≡ false → NextWord s i (i + n) stop
    next_is e =
        let q = ap (λ (j : ℕ). eqb (get_or s j 0) 34) (sym reads) ∙ e in
        let ahead = stop_ahead s (i + n) within other (λ f. eqb-false _ _ q f) in
        let inside = stop_within s (i + n) (omega arith) in
        record {
          ahead = omega arith;
          within = omega arith;
          words =
              rw reads
              (spaces_on i n (omega arith) spaces
              ∙ turn_on (i + n) (λ ws. ws ≡ word_at s (i + n) (end_of s (i + n)) ∷ words_on s (end_of s (i + n)))
              (λ k l. words_word s (i + n) k within other q
              ∙ ap (λ (ws : List Word). word_at s (i + n) (end_of s (i + n)) ∷ ws) (enough_same k (length s) (end_of s (i + n)) (omega arith) (omega arith))));
        }

-- ---- words written into three lists: those still to be written, from n on, make of the lists what all make of them as they were

pub record Stands (all ws : List Word) (n : ℕ) (a₀ b₀ c₀ a b c : List ℕ) : Type 0 where
  pub starts_on : sets a n (starts ws) ≡ sets a₀ 0 (starts all)
  pub ends_on : sets b n (ends ws) ≡ sets b₀ 0 (ends all)
  pub splits_on : sets c n (splits ws) ≡ sets c₀ 0 (splits all)

pub stands_start : (all : List Word) (a b c : List ℕ) → Stands all all 0 a b c a b c
stands_start all a b c = record { starts_on = refl; ends_on = refl; splits_on = refl }
