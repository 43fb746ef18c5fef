-- Laws of the two readers, from a place of a line on.
use Prim.Native.Nat.{ℕ, suc, ◌+◌, ◌≤◌, ◌<◌}
use mathlib.Core.Path.{◌≡◌}
use mathlib.Core.List.{List, [], ◌∷◌}
use native.Mathlib.Omega.{arith}
use borrow.Author.Tests.{eq-eqb, ne_eqb}
use lib.Dec.{eqb}
use lib.ListN.{length, get_or, drop, drop_of_length-le}
use lib.Seq.{drop-cons}
use Rattle.answers.specs.Pick.{pick}
use Rattle.answers.proofs.PickLaws.{pick_with}
use Rattle.words.specs.Readers.{plain_from, quoted_from}

module _ (byte : ℕ) (s : List ℕ) (i : ℕ) where
  pub plain_end : length s ≤ i → plain_from byte (drop i s) i ≡ i
  unfolding plain_from
  plain_end h = rw (drop_of_length-le s h)

  pub plain_quote : i < length s → get_or s i 0 ≡ 34 → plain_from byte (drop i s) i ≡ quoted_from byte (drop (suc i) s) (suc i) i
  unfolding plain_from pick
  plain_quote h e = rw (drop-cons s i 0 h, eq-eqb _ _ e)

  pub plain_found : i < length s → (get_or s i 0 ≡ 34 → ⊥) → get_or s i 0 ≡ byte → plain_from byte (drop i s) i ≡ i
  unfolding plain_from pick
  plain_found h n e = rw (drop-cons s i 0 h, ne_eqb _ _ n, eq-eqb _ _ e)

  pub plain_on : i < length s → (get_or s i 0 ≡ 34 → ⊥) → (get_or s i 0 ≡ byte → ⊥) → plain_from byte (drop i s) i ≡ plain_from byte (drop (suc i) s) (suc i)
  unfolding plain_from pick
  plain_on h n m = rw (drop-cons s i 0 h, ne_eqb _ _ n, ne_eqb _ _ m)

  module _ (opened : ℕ) where
    pub quoted_end : length s ≤ i → quoted_from byte (drop i s) i opened ≡ opened
    unfolding quoted_from
    quoted_end h = rw (drop_of_length-le s h)

    pub quoted_quote : i < length s → get_or s i 0 ≡ 34 → quoted_from byte (drop i s) i opened ≡ plain_from byte (drop (suc i) s) (suc i)
    unfolding quoted_from pick
    quoted_quote h e = rw (drop-cons s i 0 h, eq-eqb _ _ e)

    pub quoted_on : i < length s → (get_or s i 0 ≡ 34 → ⊥) → quoted_from byte (drop i s) i opened ≡ quoted_from byte (drop (suc i) s) (suc i) opened
    unfolding quoted_from pick
    quoted_on h n = rw (drop-cons s i 0 h, ne_eqb _ _ n)

-- ---- where reading stops: from the place on, or from the quote that was open, and not past the end

mutual
  unfolding plain_from quoted_from

  pub plain_between : (bs : List ℕ) (byte at : ℕ) → (at ≤ plain_from byte bs at) × (plain_from byte bs at ≤ at + length bs)
  plain_between [] byte at = (omega arith, omega arith)
  plain_between (b ∷ bs) byte at =
      let q = quoted_between bs byte (suc at) at (omega arith) in
      let p = plain_between bs byte (suc at) in
      pick_with (λ (r : ℕ). (at ≤ r) × (r ≤ at + suc (length bs))) (eqb b 34)
      (λ e. (omega arith, omega arith))
      (λ e. pick_with (λ (r : ℕ). (at ≤ r) × (r ≤ at + suc (length bs))) (eqb b byte) (λ f. (omega arith, omega arith)) (λ f. (omega arith, omega arith)))

  pub quoted_between : (bs : List ℕ) (byte at opened : ℕ) → opened ≤ at → (opened ≤ quoted_from byte bs at opened) × (quoted_from byte bs at opened ≤ at + length bs)
  quoted_between [] byte at opened h = (omega arith, omega arith)
  quoted_between (b ∷ bs) byte at opened h =
      let q = quoted_between bs byte (suc at) opened (omega arith) in
      let p = plain_between bs byte (suc at) in
      pick_with (λ (r : ℕ). (opened ≤ r) × (r ≤ at + suc (length bs))) (eqb b 34) (λ e. (omega arith, omega arith)) (λ e. (omega arith, omega arith))
