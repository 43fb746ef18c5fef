-- Laws of digits, one place after the other.
use Prim.Native.Nat.{ℕ, zero, suc, ◌+◌, ◌-◌, ◌/◌, ◌%◌, ◌^◌, ◌≤◌, ◌<◌}
use mathlib.Core.Path.{◌≡◌, sym, ◌∙◌, subst}
use mathlib.Core.List.{List, ◌∷◌}
use native.Mathlib.Nat.{pow-zero, pow-suc, one-mul, div-lt_iff_lt-mul, not-suc-le-zero}
use native.Mathlib.Omega.{arith}
use lib.Dec.{ltb}
use lib.ListN.{length, take, drop, set, length-set}
use lib.Seq.{drop-cons, get_or-set_same, drop-set-lt}
use borrow.Author.Tests.{lt-ltb, le-ltb, ltb-false}
use Rattle.answers.specs.Pick.{pick}
use Rattle.answers.proofs.PickLaws.{pick_with}
use Rattle.cmdline.specs.Digits.{digit, digits_before}
use Rattle.slugs.proofs.ListLaws.{part_end}

pow_one : (b : ℕ) → b ^ 1 ≡ b
pow_one b = pow-suc b 0 ∙ rw (pow-zero, one-mul)

-- a number that is not below the base has two places or more
pub two_left : (b x i : ℕ) → 1 ≤ i → b ≤ x → x < b ^ i → 2 ≤ i
two_left b x zero l h p = absurd (not-suc-le-zero l)
two_left b x (suc zero) l h p = let e = pow_one b in absurd (omega arith)
two_left b x (suc (suc i)) l h p = omega arith

-- without its last place it has one place less
pub down : (b x i : ℕ) → 0 < b → 1 ≤ i → x < b ^ i → x / b < b ^ (i - 1)
down b x zero z l p = absurd (not-suc-le-zero l)
down b x (suc j) z l p =
    let q : suc j - 1 ≡ j = omega arith in
    rw q ((div-lt_iff_lt-mul z).1 (rw pow-suc at p))

step : (f b x : ℕ) (later : List ℕ) → b ≤ x → 1 ≤ f → digits_before f b x later ≡ digits_before (f - 1) b (x / b) (digit (x % b) ∷ later)
unfolding digits_before pick
step zero b x later h l = absurd (not-suc-le-zero l)
step (suc j) b x later h l = let q : suc j - 1 ≡ j = omega arith in rw (q, le-ltb x b h)

ends_with : (f b x : ℕ) (later : List ℕ) → x < b → 1 ≤ f → digits_before f b x later ≡ digit x ∷ later
unfolding digits_before pick
ends_with zero b x later h l = absurd (not-suc-le-zero l)
ends_with (suc j) b x later h l = rw (lt-ltb x b h)

-- a byte stored before a place of the array
before_place : (d : List ℕ) (i v : ℕ) → 1 ≤ i → i ≤ length d → drop (i - 1) (set d (i - 1) v) ≡ v ∷ drop i d
before_place d i v l h =
    let n = length-set d (i - 1) v in
    let q : suc (i - 1) ≡ i = omega arith in
    drop-cons (set d (i - 1) v) (i - 1) 0 (omega arith)
    ∙ rw (get_or-set_same d (i - 1) v 0 (omega arith), drop-set-lt (suc (i - 1)) d (i - 1) v (omega arith), q)

module _ (d : List ℕ) (b x i v : ℕ) (r : List ℕ) where
  pub digits_turn : v ≡ digit (x % b) → 1 ≤ i → i ≤ length d → b ≤ x → digits_before i b x (drop i d) ≡ r
      → digits_before (i - 1) b (x / b) (drop (i - 1) (set d (i - 1) v)) ≡ r
  digits_turn e l h k q = rw (before_place d i v l h, e) (sym (step i b x (drop i d) k l) ∙ q)

  pub digits_last : v ≡ digit x → 1 ≤ i → i ≤ length d → x < b → digits_before i b x (drop i d) ≡ r → drop (i - 1) (set d (i - 1) v) ≡ r
  digits_last e l h k q = before_place d i v l h ∙ rw e (sym (ends_with i b x (drop i d) k l) ∙ q)

-- the part of an array from a place on
pub part_of : (t : List ℕ) (i n : ℕ) → length t ≡ n → take (n - i) (drop i t) ≡ drop i t
part_of t i n l = subst (λ (k : ℕ). take (k - i) (drop i t) ≡ drop i t) l (part_end t i)

-- ---- how many there are: no more than the places that the number has
pub digits_few : (f b n : ℕ) (later : List ℕ) (k : ℕ) → 0 < b → 1 ≤ k → n < b ^ k → length (digits_before f b n later) ≤ k + length later
unfolding digits_before
digits_few zero b n later k z l p = omega arith
digits_few (suc f) b n later k z l p =
    let more : (j : ℕ) → 1 ≤ j → n / b < b ^ j → length (digits_before f b (n / b) (digit (n % b) ∷ later)) ≤ j + length (digit (n % b) ∷ later) =
    λ j a q. digits_few f b (n / b) (digit (n % b) ∷ later) j z a q in
    pick_with (λ (ds : List ℕ). length ds ≤ k + length later) (ltb n b) (λ e. omega arith)
    (λ e.
    let h = ltb-false n b e in
    let w = two_left b n k l h p in
    let r = more (k - 1) (omega arith) (down b n k z l p) in
    omega arith)
