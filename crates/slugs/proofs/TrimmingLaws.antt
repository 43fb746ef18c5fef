-- Laws of trimming, and of texts that trimming leaves as they are.
use Prim.Native.Nat.{ℕ, suc, ◌+◌, ◌-◌, ◌≤◌, ◌<◌}
use mathlib.Core.Path.{◌≡◌, refl, sym, ap, ◌∙◌}
use mathlib.Core.Bool.{Bool, true, false, not, cond}
use mathlib.Core.List.{List, [], ◌∷◌, ◌++◌}
use native.Mathlib.Omega.{arith}
use lib.ListN.{length, take, drop, get_or, length-drop, take-append-drop}
use lib.Seq.{take-suc, take-length, get_or-drop}
use native.Mathlib.Numerals.{add-one}
use Rattle.std.specs.Prelude.{Option, Some, None, unwrap_or}
use Rattle.std.specs.List.{position_or_len}
use lib.Dec.{ltb}
use Rattle.answers.specs.Pick.{pick}
use Rattle.slugs.specs.Bytes.{blank, all_bytes}
use Rattle.slugs.specs.Trimming.{trim_start, trim_end, before}
use Rattle.answers.proofs.BoolLaws.{both_held}
use Rattle.slugs.proofs.ListLaws.{gone}
use Rattle.slugs.proofs.BytesLaws.{every_index}
use native.Mathlib.Decide.{dec_le}

-- ---- at the start

-- the first byte that is not blank, as the library finds it
pub start_place : (s : List ℕ) → drop (position_or_len (λ x. not (blank x)) s) s ≡ trim_start s
unfolding trim_start pick
start_place [] = refl
start_place (x ∷ xs) = by (blank x) (start_place xs)
  where
    by : (b : Bool) → drop (position_or_len (λ y. not (blank y)) xs) xs ≡ trim_start xs
        → drop (cond (not (not b)) (1 + position_or_len (λ y. not (blank y)) xs) 0) (x ∷ xs) ≡ pick b (trim_start xs) (x ∷ xs)
    by true e = let q : 1 + position_or_len (λ y. not (blank y)) xs ≡ suc (position_or_len (λ y. not (blank y)) xs) = omega arith in ap (λ (k : ℕ). drop k (x ∷ xs)) q ∙ e
    by false e = refl

pub start_at : (s : List ℕ) {o : Option ℕ} {n : ℕ}
    → o ≡ cond (ltb (position_or_len (λ x. not (blank x)) s) (length s)) (Some (position_or_len (λ x. not (blank x)) s)) None
    → n ≡ unwrap_or o (length s) → (n ≤ length s) × (drop n s ≡ trim_start s)
start_at s {o} {n} found e =
    let k = position_or_len (λ x. not (blank x)) s in
    by k (dec_le (length s) k) (start_place s) (e ∙ ap (λ p. unwrap_or p (length s)) found)
  where
    by : (k : ℕ) → Dec (length s ≤ k) → drop k s ≡ trim_start s → n ≡ unwrap_or (cond (ltb k (length s)) (Some k) None) (length s)
        → (n ≤ length s) × (drop n s ≡ trim_start s)
    by k (yes h) trimmed e =
        let past : ltb k (length s) ≡ false = grind arith in
        let same : n ≡ length s = rw past at e in
        (omega arith, gone s n (omega arith) ∙ sym (gone s k h) ∙ trimmed)
    by k (no h) trimmed e =
        let within : ltb k (length s) ≡ true = grind arith in
        let same : n ≡ k = rw within at e in
        (omega arith, ap (λ (i : ℕ). drop i s) same ∙ trimmed)

-- ---- at the end

-- blanks alone are trimmed to nothing, and blanks at an end are trimmed off
all_blank : (a : List ℕ) → all_bytes blank a ≡ true → trim_end a ≡ []
unfolding trim_end before all_bytes pick
all_blank [] e = refl
all_blank (x ∷ xs) e = let both = both_held (blank x) (all_bytes blank xs) e in rw (all_blank xs both.1, both.0)

pub end_blanks : (s a : List ℕ) → all_bytes blank a ≡ true → trim_end (s ++ a) ≡ trim_end s
unfolding trim_end
end_blanks [] a e = all_blank a e
end_blanks (x ∷ xs) a e = ap (before x) (end_blanks xs a e)

before_other : (y : ℕ) (xs : List ℕ) → blank y ≡ false → trim_end (xs ++ (y ∷ [])) ≡ xs ++ (y ∷ [])
unfolding trim_end before pick
before_other y [] e = rw e
before_other y (x ∷ []) e = rw e
before_other y (x ∷ (z ∷ xs)) e = rw (before_other y (z ∷ xs) e)

last_of : (s : List ℕ) (i : ℕ) → i < length s → take (i + 1) s ≡ take i s ++ (get_or s i 0 ∷ [])
last_of s i h = rw add-one (take-suc s i 0 h)

-- the bytes from e on are blank
pub end_from : (s : List ℕ) (e : ℕ) → ((k : ℕ) → e ≤ k → k < length s → blank (get_or s k 0) ≡ true) → trim_end (take e s) ≡ trim_end s
end_from s e b =
    let blanks : all_bytes blank (drop e s) ≡ true =
    every_index blank (drop e s) (λ k h. ap blank (get_or-drop e s k 0) ∙ b (e + k) (omega arith) (let l = length-drop e s in omega arith)) in
    sym (end_blanks (take e s) (drop e s) blanks) ∙ ap trim_end (take-append-drop e s)

-- the last byte that is not blank is at i
pub end_place : (s : List ℕ) (i : ℕ) → i < length s → blank (get_or s i 0) ≡ false
    → ((k : ℕ) → i < k → k < length s → blank (get_or s k 0) ≡ true) → take (i + 1) s ≡ trim_end s
end_place s i h e b =
    sym (ap trim_end (last_of s i h) ∙ before_other (get_or s i 0) (take i s) e ∙ sym (last_of s i h))
    ∙ end_from s (i + 1) (λ k l m. b k (omega arith) m)

-- every byte is blank
pub end_none : (s : List ℕ) → ((k : ℕ) → k < length s → blank (get_or s k 0) ≡ true) → take 0 s ≡ trim_end s
unfolding trim_end
end_none s b = end_from s 0 (λ k l m. b k m)

-- ---- texts that trimming leaves as they are

pub start_kept : (s : List ℕ) → blank (get_or s 0 0) ≡ false → trim_start s ≡ s
unfolding trim_start pick
start_kept [] b = refl
start_kept (x ∷ xs) b = rw b

pub end_kept : (s : List ℕ) → 0 < length s → blank (get_or s (length s - 1) 0) ≡ false → trim_end s ≡ s
end_kept s h b =
    let one : length s ≡ length s - 1 + 1 = omega arith in
    let l : s ≡ take (length s - 1) s ++ (get_or s (length s - 1) 0 ∷ []) =
    sym (take-length s) ∙ ap (λ (k : ℕ). take k s) one ∙ last_of s (length s - 1) (omega arith) in
    ap trim_end l ∙ before_other (get_or s (length s - 1) 0) (take (length s - 1) s) b ∙ sym l

-- the end of a text is the end of what follows in it
pub end_append : (s : List ℕ) (y : ℕ) (ys : List ℕ) → trim_end (y ∷ ys) ≡ y ∷ ys → trim_end (s ++ (y ∷ ys)) ≡ s ++ (y ∷ ys)
unfolding trim_end before
end_append [] y ys e = e
end_append (x ∷ []) y ys e = rw e
end_append (x ∷ (z ∷ zs)) y ys e = rw (end_append (z ∷ zs) y ys e)
