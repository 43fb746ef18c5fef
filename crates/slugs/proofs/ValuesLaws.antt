-- Laws of keys and values: what their tests say, and that trimming leaves a key, a mark and values as they are.
use Prim.Native.Nat.{ℕ, ◌-◌, ◌<◌}
use mathlib.Core.Path.{◌≡◌, refl, sym, ◌∙◌}
use mathlib.Core.Bool.{Bool, true, false, ◌&&◌}
use mathlib.Core.List.{List, [], ◌∷◌, ◌++◌}
use native.Mathlib.Omega.{arith}
use lib.Dec.{leb, eqb}
use lib.ListN.{length, get_or}
use borrow.Author.Tests.{eqb-true, eqb-false, not-true}
use Rattle.answers.specs.Pick.{pick}
use Rattle.answers.specs.Tests.{AllHold}
use Rattle.answers.proofs.TestsLaws.{hold_left, hold_right}
use Rattle.slugs.specs.Bytes.{space, quote, equals, blank, printable, all_bytes, has}
use Rattle.slugs.specs.Trimming.{trim_end, trim}
use Rattle.slugs.specs.Keys.{key_tests}
use Rattle.slugs.specs.Values.{inner, quoted, protected, value_tests, pair}
use Rattle.slugs.proofs.BytesLaws.{both_right, every_at, every_append, has_not_at, not_blank}
use Rattle.slugs.proofs.TrimmingLaws.{start_kept, end_kept, end_append}

-- ---- quotes

module _ (s : List ℕ) where
  pub inner_short : length s < 3 → false ≡ has quote (inner s)
  unfolding has
  inner_short h = let q : length s - 2 ≡ 0 = omega arith in rw q

  quoted_ends : quoted s ≡ true → get_or s (length s - 1) 0 ≡ quote
  unfolding quoted
  quoted_ends q =
      let a : Bool = eqb (get_or s 0 0) quote in
      let b : Bool = eqb (get_or s (length s - 1) 0) quote in
      eqb-true (get_or s (length s - 1) 0) quote (both_right a b (both_right (leb 2 (length s)) (a && b) q))

  -- a space is there only between quotes
  pub space_quoted : protected s ≡ true → quoted s ≡ false → has space s ≡ false
  unfolding protected pick
  space_quoted p q = split (has space s) refl
    where
      split : (b : Bool) → has space s ≡ b → has space s ≡ false
      split false e = e
      split true e = let w : quoted s ≡ true = rw e at p in absurd (eqb-false 0 0 (sym w ∙ q) refl)

-- ---- what the tests say where all hold

pub key_printable : (k : List ℕ) → AllHold (key_tests k) → all_bytes printable k ≡ true
unfolding key_tests
key_printable k h = h.0

pub key_plain : (k : List ℕ) → AllHold (key_tests k) → has space k ≡ false
unfolding key_tests
key_plain k h = not-true (has space k) h.1.0

pub value_printable : (v : List ℕ) → AllHold (value_tests v) → all_bytes printable v ≡ true
unfolding value_tests
value_printable v h = h.0

pub value_protected : (v : List ℕ) → AllHold (value_tests v) → protected v ≡ true
unfolding value_tests
value_protected v h = h.1.1.0

-- ---- trimming

-- the last byte of a mark and a value
last_value : (m : ℕ) (v : List ℕ) → blank m ≡ false → AllHold (value_tests v) → blank (get_or (m ∷ v) (length v) 0) ≡ false
unfolding blank
last_value m [] b h = b
last_value m (y ∷ ys) b h = split (quoted (y ∷ ys)) refl
  where
    at_end : length (y ∷ ys) - 1 ≡ length ys
    at_end = omega arith

    split : (q : Bool) → quoted (y ∷ ys) ≡ q → blank (get_or (y ∷ ys) (length ys) 0) ≡ false
    split true q =
        let l = quoted_ends (y ∷ ys) q in
        let z : get_or (y ∷ ys) (length ys) 0 ≡ quote = rw at_end at l in
        rw z
    split false q =
        not_blank (get_or (y ∷ ys) (length ys) 0) (every_at printable (y ∷ ys) (length ys) (value_printable (y ∷ ys) h) (omega arith))
        (has_not_at space (y ∷ ys) (length ys) (space_quoted (y ∷ ys) (value_protected (y ∷ ys) h) q) (omega arith))

-- the first byte of a key and a mark
first_key : (k : List ℕ) (m : ℕ) (v : List ℕ) → blank m ≡ false → AllHold (key_tests k) → blank (get_or (k ++ (m ∷ v)) 0 0) ≡ false
first_key [] m v b h = b
first_key (x ∷ xs) m v b h =
    not_blank x (every_at printable (x ∷ xs) 0 (key_printable (x ∷ xs) h) (omega arith))
    (has_not_at space (x ∷ xs) 0 (key_plain (x ∷ xs) h) (omega arith))

-- a mark and a value have no blank at their end
pub value_kept : (m : ℕ) (v : List ℕ) → blank m ≡ false → AllHold (value_tests v) → trim_end (m ∷ v) ≡ m ∷ v
value_kept m v b h =
    let q : length (m ∷ v) - 1 ≡ length v = omega arith in
    end_kept (m ∷ v) (omega arith) (rw q (last_value m v b h))

-- a key, a mark and what follows it have no blank at either end, where what follows has none at its end
pub key_kept : (k : List ℕ) (m : ℕ) (v : List ℕ) → blank m ≡ false → AllHold (key_tests k) → trim_end (m ∷ v) ≡ m ∷ v
    → trim (k ++ (m ∷ v)) ≡ k ++ (m ∷ v)
key_kept k m v b h t = rw (start_kept (k ++ (m ∷ v)) (first_key k m v b h)) (end_append k m v t)

-- where the tests of a key and a value hold, trimming leaves key, equals sign and value as they are, and they are printable
pub pair_told : (k v : List ℕ) → AllHold (key_tests k ++ value_tests v) → (trim (pair k v) ≡ pair k v) × (all_bytes printable (pair k v) ≡ true)
unfolding blank all_bytes printable
pair_told k v h =
    let hk = hold_left (key_tests k) (value_tests v) h in
    let hv = hold_right (key_tests k) (value_tests v) h in
    (key_kept k equals v refl hk (value_kept equals v refl hv), every_append printable k (equals ∷ v) (key_printable k hk) (value_printable v hv))
