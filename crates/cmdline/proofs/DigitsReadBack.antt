-- The digits of a number are its shortest writing: read back they are the number (`digits_read`), and the first of them is not 0 unless the
-- number is (`no_leading_zero`).
use Prim.Native.Nat.{ℕ, zero, suc, ◌+◌, ◌-◌, ◌*◌, ◌/◌, ◌%◌, ◌^◌, ◌≤◌, ◌<◌}
use mathlib.Core.Path.{◌≡◌, refl, ap, ◌∙◌}
use mathlib.Core.Bool.{Bool, true, false}
use mathlib.Core.List.{List, [], ◌∷◌}
use native.Mathlib.Nat.{div-add-mod', mod-lt, not-suc-le-zero}
use native.Mathlib.Omega.{arith}
use lib.Dec.{ltb}
use lib.ListN.{get_or}
use borrow.Author.Tests.{lt-ltb, le-ltb, ltb-true, ltb-false}
use Rattle.answers.specs.Pick.{pick}
use Rattle.answers.proofs.PickLaws.{pick_with}
use Rattle.cmdline.specs.Digits.{digit, digits_before, digits, value_of, read_on}
use Rattle.cmdline.proofs.DigitsLaws.{two_left, down}

-- one digit
digit_value : (n : ℕ) → n < 16 → value_of (digit n) ≡ n
unfolding digit value_of pick
digit_value n h = split (ltb n 10) refl
  where
    split : (b : Bool) → ltb n 10 ≡ b → pick (ltb (pick b (48 + n) (87 + n)) 58) (pick b (48 + n) (87 + n) - 48) (pick b (48 + n) (87 + n) - 87) ≡ n
    split true e = let l = ltb-true n 10 e in rw (lt-ltb (48 + n) 58 (omega arith)) (omega arith)
    split false e = let l = ltb-false n 10 e in rw (le-ltb (87 + n) 58 (omega arith)) (omega arith)

-- all of them, whatever comes after
read_before : (f b n : ℕ) (later : List ℕ) → 0 < b → b ≤ 16 → n < b ^ f → 1 ≤ f → read_on b 0 (digits_before f b n later) ≡ read_on b n later
unfolding digits_before read_on
read_before zero b n later lo hi h l = absurd (not-suc-le-zero l)
read_before (suc f) b n later lo hi h l =
    let more : 1 ≤ f → n / b < b ^ f → read_on b 0 (digits_before f b (n / b) (digit (n % b) ∷ later)) ≡ read_on b (n / b) (digit (n % b) ∷ later) =
    λ a q. read_before f b (n / b) (digit (n % b) ∷ later) lo hi q a in
    pick_with (λ (ds : List ℕ). read_on b 0 ds ≡ read_on b n later) (ltb n b)
    (λ e.
    let small = ltb-true n b e in
    ap (λ (k : ℕ). read_on b k later) (let v = digit_value n (omega arith) in let z : 0 * b + value_of (digit n) ≡ n = omega arith in z))
    (λ e.
    let w = two_left b n (suc f) l (ltb-false n b e) h in
    let d : n / b < b ^ (suc f - 1) = down b n (suc f) lo l h in
    let q : suc f - 1 ≡ f = omega arith in
    let r = mod-lt n {m = b} lo in
    more (omega arith) (rw q at d)
    ∙ ap (λ (k : ℕ). read_on b k later) (ap (λ (k : ℕ). n / b * b + k) (digit_value (n % b) (omega arith)) ∙ div-add-mod' n b))

pub digits_read : (b n : ℕ) → 0 < b → b ≤ 16 → n < b ^ 20 → read_on b 0 (digits b n) ≡ n
unfolding read_on
digits_read b n lo hi h = read_before 20 b n [] lo hi h (omega arith)

-- ---- no 0 in front

digit_zero : (n : ℕ) → digit n ≡ 48 → n ≡ 0
unfolding digit
digit_zero n = pick_with (λ (k : ℕ). k ≡ 48 → n ≡ 0) (ltb n 10) (λ e h. omega arith) (λ e h. let l = ltb-false n 10 e in omega arith)

leads : (f b n : ℕ) (later : List ℕ) → 0 < b → n < b ^ f → 1 ≤ f → get_or (digits_before f b n later) 0 0 ≡ 48 → n ≡ 0
unfolding digits_before
leads zero b n later lo h l = absurd (not-suc-le-zero l)
leads (suc f) b n later lo h l =
    let more : 1 ≤ f → n / b < b ^ f → get_or (digits_before f b (n / b) (digit (n % b) ∷ later)) 0 0 ≡ 48 → n / b ≡ 0 =
    λ a q. leads f b (n / b) (digit (n % b) ∷ later) lo q a in
    pick_with (λ (ds : List ℕ). get_or ds 0 0 ≡ 48 → n ≡ 0) (ltb n b) (λ e z. digit_zero n z)
    (λ e z.
    let w = two_left b n (suc f) l (ltb-false n b e) h in
    let d : n / b < b ^ (suc f - 1) = down b n (suc f) lo l h in
    let q : suc f - 1 ≡ f = omega arith in
    let none = more (omega arith) (rw q at d) z in
    let r = mod-lt n {m = b} lo in
    let whole : n / b * b + n % b ≡ n = div-add-mod' n b in
    let whole' : 0 * b + n % b ≡ n = rw none at whole in
    let big = ltb-false n b e in
    absurd (omega arith))

pub no_leading_zero : (b n : ℕ) → 0 < b → n < b ^ 20 → get_or (digits b n) 0 0 ≡ 48 → n ≡ 0
no_leading_zero b n lo h = leads 20 b n [] lo h (omega arith)
