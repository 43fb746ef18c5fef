-- How reading ends, by the parity of the quotes before: at the byte outside quotes, at the end, or with a quote that none closes.
use Prim.Native.Nat.{ℕ, zero, suc, ◌+◌, ◌<◌}
use mathlib.Core.Path.{◌≡◌, refl, sym, ap, ◌∙◌}
use mathlib.Core.Bool.{Bool, true, false, not}
use mathlib.Core.List.{List, [], ◌∷◌}
use native.Mathlib.Omega.{arith}
use native.Mathlib.Nat.{le_of_suc-le-suc, not-suc-le-zero}
use borrow.Author.Tests.{eq-eqb, ne_eqb, eqb-true, eqb-false}
use lib.Dec.{eqb}
use lib.ListN.{length, get_or, take}
use Rattle.answers.specs.Pick.{pick}
use Rattle.answers.proofs.PickLaws.{pick_with}
use Rattle.slugs.specs.Bytes.{quote}
use Rattle.slugs.specs.Splitting.{even_after, even_quotes}
use Rattle.words.specs.Readers.{plain_from, quoted_from}

-- the byte, which is no quote, does not stand outside quotes among the first k, with this parity before them
abbrev pub NoneIn : ℕ → Bool → List ℕ → ℕ → Type 0
NoneIn byte even bs k = (j : ℕ) → j < k → get_or bs j 0 ≡ byte → (byte ≡ quote → ⊥) → even_quotes even (take j bs) ≡ true → ⊥

-- no quote behind a place
abbrev pub NoneAfter : List ℕ → ℕ → Type 0
NoneAfter bs k = (j : ℕ) → k < j → j < length bs → get_or bs j 0 ≡ quote → ⊥

-- reading bytes that begin at a place, a quote opened before them if the parity is odd, gives r
pub data Ends (byte : ℕ) (even : Bool) (bs : List ℕ) (at opened r : ℕ) : Type 0 where
  found : (k : ℕ) → r ≡ at + k → k < length bs → get_or bs k 0 ≡ byte → (byte ≡ quote → ⊥) → even_quotes even (take k bs) ≡ true → NoneIn byte even bs k
      → Ends byte even bs at opened r
  closed : r ≡ at + length bs → even_quotes even bs ≡ true → NoneIn byte even bs (length bs) → Ends byte even bs at opened r
  open_here : (k : ℕ) → r ≡ at + k → k < length bs → get_or bs k 0 ≡ quote → even_quotes even bs ≡ false → NoneAfter bs k → Ends byte even bs at opened r
  open_before : r ≡ opened → even ≡ false → even_quotes even bs ≡ false → ((j : ℕ) → j < length bs → get_or bs j 0 ≡ quote → ⊥) → Ends byte even bs at opened r

-- ---- one byte more in front

module _ (byte : ℕ) (even next : Bool) (b : ℕ) (bs : List ℕ) (at opened opened' r : ℕ) (turns : even_after even b ≡ next)
    (passed : even ≡ true → b ≡ byte → (byte ≡ quote → ⊥) → ⊥) where
  even_on : (xs : List ℕ) → even_quotes even (b ∷ xs) ≡ even_quotes next xs
  unfolding even_quotes
  even_on xs = ap (λ (e : Bool). even_quotes e xs) turns

  none_on : (k : ℕ) → NoneIn byte next bs k → NoneIn byte even (b ∷ bs) (suc k)
  unfolding even_quotes
  none_on k none zero h g n e = passed e g n
  none_on k none (suc j) h g n e = none j (le_of_suc-le-suc h) g n (sym (even_on (take j bs)) ∙ e)

  after_on : (k : ℕ) → NoneAfter bs k → NoneAfter (b ∷ bs) (suc k)
  after_on k none zero h l g = absurd (not-suc-le-zero h)
  after_on k none (suc j) h l g = none j (le_of_suc-le-suc h) (le_of_suc-le-suc l) g

  ends_on : (r ≡ opened' → next ≡ false → even_quotes next bs ≡ false → ((j : ℕ) → j < length bs → get_or bs j 0 ≡ quote → ⊥) → Ends byte even (b ∷ bs) at opened r)
      → Ends byte next bs (suc at) opened' r → Ends byte even (b ∷ bs) at opened r
  ends_on before (found k e h g n v none) = found (suc k) (omega arith) (omega arith) g n (even_on (take k bs) ∙ v) (none_on k none)
  ends_on before (closed e v none) = closed (omega arith) (even_on bs ∙ v) (none_on (length bs) none)
  ends_on before (open_here k e h g v none) = open_here (suc k) (omega arith) (omega arith) g (even_on bs ∙ v) (after_on k none)
  ends_on before (open_before e z v none) = before e z v none

turns_at : (even : Bool) (b : ℕ) → b ≡ quote → even_after even b ≡ not even
unfolding even_after pick
turns_at even b e = rw (eq-eqb b quote e)

stays_at : (even : Bool) (b : ℕ) → (b ≡ quote → ⊥) → even_after even b ≡ even
unfolding even_after pick
stays_at even b n = rw (ne_eqb b quote n)

not_both : {A : Type 0} → true ≡ false → A
not_both e = absurd (eqb-false 0 0 e refl)

nothing_behind : (b : ℕ) (bs : List ℕ) → ((j : ℕ) → j < length bs → get_or bs j 0 ≡ quote → ⊥) → NoneAfter (b ∷ bs) 0
nothing_behind b bs none zero h l g = absurd (not-suc-le-zero h)
nothing_behind b bs none (suc j) h l g = none j (le_of_suc-le-suc l) g

none_in : (b : ℕ) (bs : List ℕ) → (b ≡ quote → ⊥) → ((j : ℕ) → j < length bs → get_or bs j 0 ≡ quote → ⊥)
    → (j : ℕ) → j < length (b ∷ bs) → get_or (b ∷ bs) j 0 ≡ quote → ⊥
none_in b bs n none zero l g = n g
none_in b bs n none (suc j) l g = none j (le_of_suc-le-suc l) g

-- ---- both readers

mutual
  unfolding plain_from quoted_from even_quotes

  pub plain_ends : (byte : ℕ) (bs : List ℕ) (at opened : ℕ) → Ends byte true bs at opened (plain_from byte bs at)
  plain_ends byte [] at opened = closed (omega arith) refl (λ j h. absurd (not-suc-le-zero h))
  plain_ends byte (b ∷ bs) at opened =
      pick_with (λ (r : ℕ). Ends byte true (b ∷ bs) at opened r) (eqb b quote)
      (λ q. ends_on byte true false b bs at opened at (quoted_from byte bs (suc at) at) (turns_at true b (eqb-true b quote q))
      (λ e g n. n (sym g ∙ eqb-true b quote q))
      (λ e z v none. open_here 0 (omega arith) (omega arith) (eqb-true b quote q) (ap (λ (x : Bool). even_quotes x bs) (turns_at true b (eqb-true b quote q)) ∙ v) (nothing_behind b bs none))
      (quoted_ends byte bs (suc at) at))
      (λ q. pick_with (λ (r : ℕ). Ends byte true (b ∷ bs) at opened r) (eqb b byte)
      (λ f. found 0 (omega arith) (omega arith) (eqb-true b byte f) (λ z. eqb-false b quote q (eqb-true b byte f ∙ z)) refl (λ j h. absurd (not-suc-le-zero h)))
      (λ f. ends_on byte true true b bs at opened opened (plain_from byte bs (suc at)) (stays_at true b (eqb-false b quote q))
      (λ e g n. eqb-false b byte f g)
      (λ e z v none. not_both z)
      (plain_ends byte bs (suc at) opened)))

  pub quoted_ends : (byte : ℕ) (bs : List ℕ) (at opened : ℕ) → Ends byte false bs at opened (quoted_from byte bs at opened)
  quoted_ends byte [] at opened = open_before refl refl refl (λ j h. absurd (not-suc-le-zero h))
  quoted_ends byte (b ∷ bs) at opened =
      pick_with (λ (r : ℕ). Ends byte false (b ∷ bs) at opened r) (eqb b quote)
      (λ q. ends_on byte false true b bs at opened opened (plain_from byte bs (suc at)) (turns_at false b (eqb-true b quote q))
      (λ e g n. not_both (sym e))
      (λ e z v none. not_both z)
      (plain_ends byte bs (suc at) opened))
      (λ q. ends_on byte false false b bs at opened opened (quoted_from byte bs (suc at) opened) (stays_at false b (eqb-false b quote q))
      (λ e g n. not_both (sym e))
      (λ e z v none. open_before e refl (ap (λ (x : Bool). even_quotes x bs) (stays_at false b (eqb-false b quote q)) ∙ v) (none_in b bs (eqb-false b quote q) none))
      (quoted_ends byte bs (suc at) opened))
