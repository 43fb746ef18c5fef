-- A line parts at the first space-dash-dash-space with an even number of quotes before it: at the place there is one (`split_here`), at no
-- earlier place (`split_first`), and where there is none at all the place is the length (`split_within` bounds it).
use Prim.Native.Nat.{ℕ, zero, suc, ◌≤◌, ◌<◌}
use mathlib.Core.Path.{◌≡◌, refl}
use mathlib.Core.Bool.{Bool, true, false}
use mathlib.Core.List.{List, [], ◌∷◌}
use native.Mathlib.Omega.{arith}
use native.Mathlib.Nat.{le_of_suc-le-suc, not-suc-le-zero}
use lib.ListN.{length, take, drop}
use Rattle.answers.specs.Pick.{pick}
use Rattle.slugs.specs.Splitting.{even_after, even_quotes, splits, split_from, split_at}

-- from a text on, with a parity given
at_split : (even : Bool) (s : List ℕ) → split_from even s < length s → splits (even_quotes even (take (split_from even s) s)) (drop (split_from even s) s) ≡ true
unfolding split_from even_quotes pick
at_split even [] h = absurd (not-suc-le-zero h)
at_split even (x ∷ xs) h = by (splits even (x ∷ xs)) refl (λ l. at_split (even_after even x) xs l) h
  where
    by : (b : Bool) → splits even (x ∷ xs) ≡ b
        → (split_from (even_after even x) xs < length xs
        → splits (even_quotes (even_after even x) (take (split_from (even_after even x) xs) xs)) (drop (split_from (even_after even x) xs) xs) ≡ true)
        → pick b 0 (suc (split_from (even_after even x) xs)) < length (x ∷ xs)
        → splits (even_quotes even (take (pick b 0 (suc (split_from (even_after even x) xs))) (x ∷ xs)))
        (drop (pick b 0 (suc (split_from (even_after even x) xs))) (x ∷ xs)) ≡ true
    by true e rest l = e
    by false e rest l = rest (le_of_suc-le-suc l)

none_before : (even : Bool) (s : List ℕ) (p : ℕ) → p < split_from even s → splits (even_quotes even (take p s)) (drop p s) ≡ false
unfolding split_from even_quotes pick
none_before even [] p h = absurd (not-suc-le-zero h)
none_before even (x ∷ xs) p h = by (splits even (x ∷ xs)) refl p (λ q l. none_before (even_after even x) xs q l) h
  where
    by : (b : Bool) → splits even (x ∷ xs) ≡ b → (p : ℕ)
        → ((q : ℕ) → q < split_from (even_after even x) xs → splits (even_quotes (even_after even x) (take q xs)) (drop q xs) ≡ false)
        → p < pick b 0 (suc (split_from (even_after even x) xs)) → splits (even_quotes even (take p (x ∷ xs))) (drop p (x ∷ xs)) ≡ false
    by true e p rest l = absurd (not-suc-le-zero l)
    by false e zero rest l = e
    by false e (suc q) rest l = rest q (le_of_suc-le-suc l)

within : (even : Bool) (s : List ℕ) → split_from even s ≤ length s
unfolding split_from pick
within even [] = omega arith
within even (x ∷ xs) = by (splits even (x ∷ xs)) (within (even_after even x) xs)
  where
    by : (b : Bool) → split_from (even_after even x) xs ≤ length xs → pick b 0 (suc (split_from (even_after even x) xs)) ≤ length (x ∷ xs)
    by true h = omega arith
    by false h = omega arith

pub split_here : (s : List ℕ) → split_at s < length s → splits (even_quotes true (take (split_at s) s)) (drop (split_at s) s) ≡ true
split_here s h = at_split true s h

pub split_first : (s : List ℕ) (p : ℕ) → p < split_at s → splits (even_quotes true (take p s)) (drop p s) ≡ false
split_first s p h = none_before true s p h

pub split_within : (s : List ℕ) → split_at s ≤ length s
split_within s = within true s
