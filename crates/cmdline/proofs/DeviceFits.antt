-- The text of a device has at most 80 bytes, whatever its numbers: `at_most_80`.
use Rattle.std.specs.Prelude.{Some, None, Option}
use Prim.Native.Nat.{ℕ, ◌+◌, ◌/◌, ◌%◌, ◌^◌, ◌≤◌, ◌<◌}
use mathlib.Core.Path.{◌≡◌, refl}
use mathlib.Core.List.{List, [], ◌∷◌, ◌++◌}
use native.Mathlib.Nat.{lt_of_lt_of_le}
use native.Mathlib.Omega.{arith}
use lib.Dec.{eqb, lit<, lit≤}
use lib.ListN.{length, length-append}
use Rattle.answers.proofs.PickLaws.{pick_with}
use Rattle.cmdline.specs.Digits.{decimal, hexadecimal}
use Rattle.cmdline.specs.Device.{size_text, front_text, id_text, device_text}
use Rattle.cmdline.proofs.DigitsLaws.{digits_few}

-- a number of 32 bits has at most 10 decimal digits, one of 64 bits at most 20, and 16 in hexadecimal
pub decimal_few : (n : ℕ) → n < 2 ^ 32 → length (decimal n) ≤ 10
decimal_few n h = digits_few 20 10 n [] 10 (lit< tt) (lit≤ tt) (lt_of_lt_of_le h (lit≤ tt))

hexadecimal_few : (n : ℕ) → n < 2 ^ 64 → length (hexadecimal n) ≤ 16
hexadecimal_few n h = digits_few 20 16 n [] 16 (lit< tt) (lit≤ tt) (lt_of_lt_of_le h (lit≤ tt))

-- a number with a letter after it
lettered : (m k letter : ℕ) → m < 10 ^ k → 1 ≤ k → length (decimal m ++ (letter ∷ [])) ≤ k + 1
lettered m k letter p l = let q = digits_few 20 10 m [] k (lit< tt) l p in let z = length-append (decimal m) (letter ∷ []) in omega arith

size_few : (n : ℕ) → n < 2 ^ 64 → length (size_text n) ≤ 20
unfolding size_text
size_few n h =
    pick_with Few (eqb (n % 0x40000000) 0) (λ e. let w = lettered (n / 0x40000000) 11 71 (omega arith) (lit≤ tt) in omega arith)
    (λ e. pick_with Few (eqb (n % 0x100000) 0) (λ e. let w = lettered (n / 0x100000) 14 77 (omega arith) (lit≤ tt) in omega arith)
    (λ e. pick_with Few (eqb (n % 0x400) 0) (λ e. let w = lettered (n / 0x400) 17 75 (omega arith) (lit≤ tt) in omega arith)
    (λ e. digits_few 20 10 n [] 20 (lit< tt) (lit≤ tt) (lt_of_lt_of_le h (lit≤ tt)))))
  where
    Few : List ℕ → Type 0
    Few s = length s ≤ 20

pub front_few : (size base irq : ℕ) → size < 2 ^ 64 → base < 2 ^ 64 → irq < 2 ^ 32 → length (front_text size base irq) ≤ 69
unfolding front_text
front_few size base irq hs hb hi =
    let s = size_few size hs in
    let h = hexadecimal_few base hb in
    let d = decimal_few irq hi in
    simp length-append (omega arith)

pub at_most_80 : (size base irq : ℕ) (id : Option ℕ) → size < 2 ^ 64 → base < 2 ^ 64 → irq < 2 ^ 32 → ((x : ℕ) → id ≡ Some x → x < 2 ^ 32)
    → length (device_text size base irq id) ≤ 80
unfolding id_text
at_most_80 size base irq None hs hb hi hx = let f = front_few size base irq hs hb hi in simp length-append (omega arith)
at_most_80 size base irq (Some x) hs hb hi hx =
    let f = front_few size base irq hs hb hi in
    let e = decimal_few x (hx x refl) in
    simp length-append (omega arith)
