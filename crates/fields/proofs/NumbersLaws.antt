-- Laws of little-endian numbers, over the width.
use Prim.Native.Nat.{ℕ, zero, suc, ◌+◌, ◌-◌, ◌≤◌, ◌<◌, ◌*◌, ◌/◌, ◌%◌, ◌^◌, min}
use mathlib.Core.Path.{◌≡◌, refl, ap, sym, ◌∙◌, subst⁻¹}
use mathlib.Core.Bool.{true}
use mathlib.Core.List.{List, [], ◌∷◌, ◌++◌}
use native.Mathlib.Omega.{arith}
use native.Mathlib.Decide.{dec_le}
use native.Mathlib.Nat.{pow-suc, add-zero, mul-zero, mul-suc, mul-le-mul_left, add-suc, mul_right_comm, one-le-pow, pow-le-pow_right, lt_of_lt_of_le, mod-one, mod-eq_of_lt}
use borrow.Author.Tests.{lt-ltb, ltb-true}
use lib.Arith.{mod-mul}
use lib.ListN.{length, get_or, set, take, drop, replicate, get_or-append, get_or-eq_default, length-take, length-drop}
use lib.Seq.{sets}
use Rattle.std.specs.Int.{w64, from_le_bytes}
use Rattle.std.proofs.lemmas.Nat.{pow-add}
use Rattle.std.proofs.lemmas.List.{get_or-append_right, get_or-replicate, get_or-drop}
use Rattle.fields.specs.Numbers.{le, ReadAs, le_bytes, fits, HasBytes, a_byte}
use Rattle.fields.proofs.CopyingLaws.{sets_out, sets_none}
use Rattle.fields.proofs.HasBytesLaws.{stored_at}

-- a number of one byte is the byte
pub le_one : (s : List ℕ) (p : ℕ) → le 1 s p ≡ get_or s p 0
unfolding le
le_one s p = omega arith

pub byte_read : (s : List ℕ) (p : ℕ) {r : ℕ} → r ≡ get_or s p 0 → r < 256 → ReadAs 1 s p r
byte_read s p e h = record { value = e ∙ sym (le_one s p); small = h }

-- past the end there is 0
pub byte_past : (s : List ℕ) (p : ℕ) → length s ≤ p → ReadAs 1 s p 0
byte_past s p h = byte_read s p (sym (get_or-eq_default s 0 h)) (omega arith)

-- ---- a number read byte by byte, the last byte first

-- no bytes yet
pub read_none : (n : ℕ) (s : List ℕ) (p : ℕ) → n ≡ 0 → ReadAs n s p 0
unfolding le
read_none n s p e = subst⁻¹ (λ (k : ℕ). ReadAs k s p 0) e (record { value = refl; small = omega arith })

le_next : (n : ℕ) (s : List ℕ) (p : ℕ) {v b : ℕ} → v ≡ le n s (suc p) → b ≡ get_or s p 0 → v * 256 + b ≡ le (suc n) s p
unfolding le
le_next n s p ev eb = rw (ev, eb) (omega arith)

small_next : (n : ℕ) {v b : ℕ} → v < 256 ^ n → b < 256 → v * 256 + b < 256 ^ (suc n)
small_next n hv hb = rw (pow-suc 256 n) (omega arith)

pub read_next : {n m p q v b : ℕ} {s : List ℕ} → m ≡ suc n → q ≡ suc p → ReadAs n s q v → ReadAs 1 s p b → ReadAs m s p (v * 256 + b)
read_next {n} {m} {p} {q} {v} {b} {s} em eq r byte =
    subst⁻¹ (λ (k : ℕ). ReadAs k s p (v * 256 + b)) em
    (record { value = le_next n s p (r.value ∙ ap (le n s) eq) (byte.value ∙ le_one s p); small = small_next n r.small byte.small })

-- a number of fewer than 8 bytes, with one byte more, fits 64 bits
pub fits_next : (n : ℕ) (b : ℕ) {v : ℕ} → n < 8 → v < 256 ^ n → b < 256 → v * 256 + b < 2 ^ 64
fits_next n b hn hv hb = lt_of_lt_of_le (small_next n hv hb) (pow-le-pow_right {n = 256} (omega arith) hn)

-- ---- a number of two parts, the second behind the first

le_joined : (n m k p q : ℕ) (s : List ℕ) → k ≡ n + m → q ≡ p + n → le k s p ≡ le n s p + 256 ^ n * le m s q
unfolding le
le_joined zero m k p q s ek eq =
    let same : k ≡ m = omega arith in
    let here : q ≡ p = omega arith in
    rw (same, here) (omega arith)
le_joined (suc n) m k p q s ek eq =
    let more : k ≡ suc (n + m) = omega arith in
    let rest = le_joined n m (n + m) (suc p) q s refl (omega arith) in
    rw (more, pow-suc 256 n, mul_right_comm (256 ^ n) 256 (le m s q)) (omega arith)

small_joined : (n m k : ℕ) {a b : ℕ} → k ≡ n + m → a < 256 ^ n → b < 256 ^ m → a + 256 ^ n * b < 256 ^ k
small_joined n m k {a} {b} e ha hb =
    let room = mul-le-mul_left (256 ^ n) hb in
    rw (e, pow-add 256 n m) (omega (arith, room, mul-suc (256 ^ n) b))

pub read_joined : (n m : ℕ) {k p q a b : ℕ} {s : List ℕ} → k ≡ n + m → q ≡ p + n → ReadAs n s p a → ReadAs m s q b → ReadAs k s p (a + 256 ^ n * b)
read_joined n m {k} {p} {q} {a} {b} {s} ek eq low high = record {
  value = rw (low.value, high.value) (sym (le_joined n m k p q s ek eq));
  small = small_joined n m k ek low.small high.small;
}

-- ---- bytes added at the end

-- a number that stands in s is the same in s and more
pub le_append : (n : ℕ) (s t : List ℕ) (p : ℕ) → p + n ≤ length s → le n (s ++ t) p ≡ le n s p
unfolding le
le_append zero s t p h = refl
le_append (suc n) s t p h = rw (get_or-append s t 0 p (omega arith), le_append n s t (suc p) (omega arith))

-- past the end there are only zeros
pub le_past : (n : ℕ) (s : List ℕ) (p : ℕ) → length s ≤ p → le n s p ≡ 0
unfolding le
le_past zero s p h = refl
le_past (suc n) s p h = rw (get_or-eq_default s 0 h, le_past n s (suc p) (omega arith))

-- ---- in a part of the bytes

-- a number that stands in the k bytes from a on is read there as in the whole
pub le_within : (n a k : ℕ) (s : List ℕ) (p : ℕ) → p + n ≤ k → le n (take k (drop a s)) p ≡ le n s (a + p)
unfolding le
le_within zero a k s p h = refl
le_within (suc n) a k s p h =
    rw (get_d_take k (drop a s) p (omega arith), get_or-drop a s p 0, le_within n a k s (suc p) (omega arith), add-suc a p)
  where
    get_d_take : (k : ℕ) (l : List ℕ) (i : ℕ) → i < k → get_or (take k l) i 0 ≡ get_or l i 0
    get_d_take zero l i lt = absurd (omega arith)
    get_d_take (suc k) [] i lt = refl
    get_d_take (suc k) (x ∷ l) zero lt = refl
    get_d_take (suc k) (x ∷ l) (suc i) lt = get_d_take k l i (omega arith)

-- ---- a field of n bytes that is in the slice, read with zeros behind it as one of 8

le_small : (n : ℕ) (s : List ℕ) (p : ℕ) → ((k : ℕ) → get_or s k 0 < 256) → le n s p < 256 ^ n
unfolding le
le_small zero s p bytes = omega arith
le_small (suc n) s p bytes =
    let byte = bytes p in
    let rest = le_small n s (suc p) bytes in
    rw (pow-suc 256 n) (omega arith)

le_zeros : (n : ℕ) (s : List ℕ) (p : ℕ) → ((k : ℕ) → p ≤ k → get_or s k 0 ≡ 0) → le n s p ≡ 0
unfolding le
le_zeros zero s p none = refl
le_zeros (suc n) s p none = rw (none p (omega arith), le_zeros n s (suc p) (λ k h. none k (omega arith)))

abbrev zeros : List ℕ
zeros = replicate 8 0

zero_behind : (n : ℕ) (field : List ℕ) → length field ≡ n → (k : ℕ) → n ≤ k → get_or (field ++ drop n zeros) k 0 ≡ 0
zero_behind n field e k h =
    get_or-append_right field (drop n zeros) n k 0 e h ∙ get_or-drop n zeros (k - n) 0 ∙ split (dec_le 8 (n + (k - n)))
  where
    split : Dec (8 ≤ n + (k - n)) → get_or zeros (n + (k - n)) 0 ≡ 0
    split (yes past) = get_or-eq_default zeros 0 past
    split (no low) = get_or-replicate 8 (n + (k - n)) 0 0 (omega arith)

from_bytes : (s : List ℕ) → from_le_bytes w64 s ≡ le 8 s 0
unfolding le
from_bytes s = omega arith

pub read_field : (n m : ℕ) (s field : List ℕ) (p : ℕ) {r : ℕ} → n ≤ 8 → m ≡ n → p + n ≤ length s → ((k : ℕ) → get_or s k 0 < 256)
    → field ≡ take m (drop p s) → r ≡ from_le_bytes w64 (field ++ drop n zeros) → ReadAs n s p r
read_field n m s field p most em room bytes ef er =
    let long : length field ≡ n = ap length ef ∙ length-take m (drop p s) ∙ omega (arith, length-drop p s) in
    let whole = field ++ drop n zeros in
    let parts = le_joined n (8 - n) 8 0 n whole (omega arith) (omega arith) in
    let none = le_zeros (8 - n) whole n (zero_behind n field long) in
    let front : le n whole 0 ≡ le n s p = le_append n field (drop n zeros) 0 (omega arith) ∙ rw (ef, em, le_within n p n s 0 (omega arith), add-zero p) in
    let value = er ∙ from_bytes whole ∙ parts ∙ rw (none, front, mul-zero (256 ^ n), add-zero (le n s p)) in
    record { value = value; small = rw value (le_small n s p bytes) }

-- ---- the bytes of a number

pub length_le_bytes : (n v : ℕ) → length (le_bytes n v) ≡ n
unfolding le_bytes
length_le_bytes zero v = refl
length_le_bytes (suc n) v = ap suc (length_le_bytes n (v / 256))

-- from its n low bytes a number reads back as far as they hold it
pub le_low : (n v : ℕ) (s : List ℕ) (p : ℕ) → HasBytes s p (le_bytes n v) → le n s p ≡ v % 256 ^ n
unfolding le le_bytes
le_low zero v s p here = sym (mod-one v)
le_low (suc n) v s p (a_byte b rest) =
    let low = le_low n (v / 256) s (suc p) rest in
    let parts = mod-mul v {m = 256 ^ n} {c = 256} (one-le-pow n 256 (omega arith)) (omega arith) in
    rw (pow-suc 256 n) (omega arith)

-- and whole where it fits
pub le_bytes_lem : (n v : ℕ) (s : List ℕ) (p : ℕ) → v < 256 ^ n → HasBytes s p (le_bytes n v) → le n s p ≡ v
le_bytes_lem n v s p h here = le_low n v s p here ∙ mod-eq_of_lt h

-- what was written is read back
pub le_written : (n v : ℕ) (s : List ℕ) (p : ℕ) → v < 256 ^ n → p + n ≤ length s → le n (sets s p (le_bytes n v)) p ≡ v
le_written n v s p h room = le_bytes_lem n v (sets s p (le_bytes n v)) p h (stored_at (le_bytes n v) s p (rw (length_le_bytes n v) room))

-- ---- a number written byte by byte: end is where the bytes end, or the slice does

pub put_next : (s : List ℕ) (p v : ℕ) {n m : ℕ} → m ≡ suc n → sets (set s p (v % 256)) (suc p) (le_bytes n (v / 256)) ≡ sets s p (le_bytes m v)
unfolding le_bytes
put_next s p v e = rw e

pub put_done : (s : List ℕ) (p v end : ℕ) → min end (length s) ≤ p → sets s p (le_bytes (end - p) v) ≡ s
put_done s p v end h = split (dec_le end p)
  where
    split : Dec (end ≤ p) → sets s p (le_bytes (end - p) v) ≡ s
    split (yes low) = let none : end - p ≡ 0 = omega arith in sets_none (le_bytes (end - p) v) s p (length_le_bytes (end - p) v ∙ none)
    split (no high) = sets_out (le_bytes (end - p) v) s p (omega arith)

-- ---- a number that fits n bytes

pub fits_small : (n v : ℕ) → fits n v ≡ true → v < 256 ^ n
unfolding fits
fits_small n v e = ltb-true v (256 ^ n) e

pub small_fits : (n v : ℕ) → v < 256 ^ n → fits n v ≡ true
unfolding fits
small_fits n v h = lt-ltb v (256 ^ n) h

-- each number of 64 bits fits a width whose power of 256 passes 64 bits
pub past_fits : (n v : ℕ) {m : ℕ} → m ≡ n → ¬ (256 ^ m < 2 ^ 64) → v < 2 ^ 64 → true ≡ fits n v
past_fits n v {m} e past h =
    let room : 2 ^ 64 ≤ 256 ^ m = omega (arith, past) in
    rw (← e) (sym (small_fits m v (lt_of_lt_of_le h room)))
