-- A copied part is the pouring of its bytes: what is stored at the front of the part of memory that begins at an address, is stored
-- in memory at that address.
use Prim.Native.Nat.{ℕ, suc, ◌+◌, ◌-◌, ◌≤◌, min}
use mathlib.Core.Path.{◌≡◌, sym, ◌∙◌, ap}
use mathlib.Core.List.{List, [], ◌∷◌, ◌++◌, append-nil}
use native.Mathlib.Omega.{arith}
use native.Mathlib.Nat.{add-zero, add-suc}
use native.Mathlib.Decide.{dec_le}
use lib.ListN.{length, set, take, drop, take-append-drop, length-drop, drop_of_length-le}
use lib.Seq.{sets, take-set-le, drop-set-add, take_all, drop-length}
use borrow.Rule.Slice.PartMut.{mid_of, put_mid, Post-is}
use Rattle.guest.specs.Stream.{bytes_at, pour, stream_at}
use Rattle.guest.proofs.StreamLaws.{pour_at, pour_past}

-- a run of stores in the part from a on
sets_from : (vs g : List ℕ) (a i : ℕ) → take a g ++ sets (drop a g) i vs ≡ sets g (a + i) vs
sets_from [] g a i = take-append-drop a g
sets_from (v ∷ vs) g a i =
    rw (← take-set-le a g (a + i) v (omega arith), ← drop-set-add a g i v)
    (sets_from vs (set g (a + i) v) a (suc i) ∙ ap (λ (k : ℕ). sets (set g (a + i) v) k vs) (add-suc a i))

-- the part that is lent, and memory when the part comes back as ys
part_lent : (a : ℕ) (g : List ℕ) → mid_of a (length g - a) g ≡ drop a g
part_lent a g = take_all (length g - a) (drop a g) (simp length-drop (omega arith))

part_back : (a : ℕ) (g ys : List ℕ) → a ≤ length g → put_mid a (length g - a) g ys ≡ take a g ++ ys
part_back a g ys h = rw (Post-is a (length g) g h, drop-length g, append-nil)

part_poured : (a : ℕ) (g vs : List ℕ) {ys : List ℕ} → a ≤ length g → ys ≡ sets (mid_of a (length g - a) g) 0 vs
    → put_mid a (length g - a) g ys ≡ pour (stream_at a vs) g
part_poured a g vs {ys} h e =
    part_back a g ys h
    ∙ ap (λ (l : List ℕ). take a g ++ l) (e ∙ ap (λ (l : List ℕ). sets l 0 vs) (part_lent a g))
    ∙ sets_from vs g a 0
    ∙ ap (λ (k : ℕ). sets g k vs) (add-zero a)
    ∙ sym (pour_at vs g a)

-- ---- as far as the image and memory go

-- clipped to the length, a count and a place take the same
pub take_clipped : (n : ℕ) (l : List ℕ) {k : ℕ} → k ≡ min n (length l) → take k l ≡ take n l
take_clipped n l {k} e = split (dec_le n (length l))
  where
    split : Dec (n ≤ length l) → take k l ≡ take n l
    split (yes h) = ap (λ (m : ℕ). take m l) (let same : k ≡ n = omega arith in same)
    split (no h) = take_all k l (omega arith) ∙ sym (take_all n l (omega arith))

pub drop_clipped : (n : ℕ) (l : List ℕ) {k : ℕ} → k ≡ min n (length l) → drop k l ≡ drop n l
drop_clipped n l {k} e = split (dec_le n (length l))
  where
    split : Dec (n ≤ length l) → drop k l ≡ drop n l
    split (yes h) = ap (λ (m : ℕ). drop m l) (let same : k ≡ n = omega arith in same)
    split (no h) = drop_of_length-le l {i = k} (omega arith) ∙ sym (drop_of_length-le l {i = n} (omega arith))

-- clipped to the length, an address takes the same stores
pour_clipped : (vs g : List ℕ) (address : ℕ) {a : ℕ} → a ≡ min address (length g) → pour (stream_at a vs) g ≡ pour (stream_at address vs) g
pour_clipped vs g address {a} e = split (dec_le address (length g))
  where
    split : Dec (address ≤ length g) → pour (stream_at a vs) g ≡ pour (stream_at address vs) g
    split (yes h) = ap (λ (m : ℕ). pour (stream_at m vs) g) (let same : a ≡ address = omega arith in same)
    split (no h) = pour_past vs g a (omega arith) ∙ sym (pour_past vs g address (omega arith))

-- what is stored in the part of memory that begins at an address, clipped to the length
pub part_clipped : (address : ℕ) (g vs : List ℕ) {a : ℕ} {ys : List ℕ} → a ≡ min address (length g) → ys ≡ sets (mid_of a (length g - a) g) 0 vs
    → put_mid a (length g - a) g ys ≡ pour (stream_at address vs) g
part_clipped address g vs {a} ea ey = part_poured a g vs (omega arith) ey ∙ pour_clipped vs g address ea

-- n bytes from a place of the image, stored in the part of memory that begins at an address, each clipped to its length
pub image_poured : (address place n : ℕ) (g s : List ℕ) {a from to : ℕ} {ys : List ℕ} → a ≡ min address (length g) → from ≡ min place (length s)
    → to ≡ from + min n (length s - from) → ys ≡ sets (mid_of a (length g - a) g) 0 (mid_of from (to - from) s)
    → put_mid a (length g - a) g ys ≡ pour (stream_at address (bytes_at s place n)) g
image_poured address place n g s {a} {from} {to} ea ef et ey =
    let count : to - from ≡ min n (length (drop from s)) = simp length-drop (omega arith) in
    part_clipped address g (mid_of from (to - from) s) ea ey
    ∙ ap (λ (vs : List ℕ). pour (stream_at address vs) g) (take_clipped n (drop from s) count ∙ ap (take n) (drop_clipped place s ef))
