-- Laws of a list of values: its tests, its parts, its text.
use Rattle.std.specs.Prelude.{Err}
use native.Mathlib.Numerals.{add-one}
use native.Mathlib.Nat.{le_of_suc-le-suc}
use Prim.Native.Nat.{ℕ, zero, suc, ◌+◌, ◌-◌, ◌≤◌, ◌<◌, min}
use mathlib.Core.Path.{◌≡◌, refl, sym, ap, ◌∙◌}
use mathlib.Core.Bool.{true, false}
use mathlib.Core.List.{List, [], ◌∷◌, ◌++◌, append-nil}
use native.Mathlib.Omega.{arith}
use native.Mathlib.Decide.{dec_le}
use lib.Dec.{leb, ltb, eqb}
use lib.ListN.{length, take, drop, get_or, length-append, length-drop, drop_of_length-le}
use lib.Seq.{take_all, take-nil, length-take-le}
use borrow.Author.Tests.{eq-eqb, ne_eqb, le-leb, lt-leb, leb-true, eqb-true, ltb-true}
use Rattle.answers.specs.Pick.{pick}
use Rattle.answers.specs.Tests.{asked_all, AllHold, Check, pass}
use Rattle.answers.specs.declared.Refusal.{Refusal}
use Rattle.answers.specs.declared.Refusal.TheVariants as refusal
use Rattle.answers.proofs.TestsLaws.{asked_append, shut_stays, hold_left, hold_right}
use Rattle.slugs.specs.Bytes.{equals, comma, blank, printable, all_bytes}
use Rattle.slugs.specs.Trimming.{trim_end, trim}
use Rattle.slugs.specs.Keys.{key_tests}
use Rattle.slugs.specs.Values.{value_tests}
use Rattle.slugs.specs.Lists.{rising, good_list, part, list_tests, list_pre, listed}
use Rattle.slugs.proofs.ListLaws.{here, gone, part_end}
use Rattle.slugs.proofs.BytesLaws.{both_left, both_right, and_false, every_append}
use Rattle.slugs.proofs.TrimmingLaws.{end_append}
use Rattle.slugs.proofs.ValuesLaws.{key_printable, value_printable, value_kept, key_kept}

-- ---- ends that rise

-- no end is below the one before it: then the last one decides
rises : (at : ℕ) (es : List ℕ) (n : ℕ) → (0 < length es → at ≤ get_or es 0 0) → ((k : ℕ) → suc k < length es → get_or es k 0 ≤ get_or es (suc k) 0)
    → rising at es n ≡ eqb (get_or (at ∷ es) (length es) 0) n
unfolding rising
rises at [] n first next = refl
rises at (e ∷ es) n first next =
    rw (le-leb at e (first (omega arith)))
    (rises e es n (λ h. next 0 (omega arith)) (λ k h. next (suc k) (omega arith)))

-- one end is: the list is bad
falls : (at : ℕ) (es : List ℕ) (n k : ℕ) → suc k < length es → get_or es (suc k) 0 < get_or es k 0 → rising at es n ≡ false
unfolding rising
falls at [] n k h l = absurd (omega arith)
falls at (e ∷ []) n k h l = absurd (omega arith)
falls at (e ∷ (x ∷ xs)) n zero h l = rw (lt-leb e x l) (and_false (leb at e))
falls at (e ∷ (x ∷ xs)) n (suc k) h l = rw (falls e (x ∷ xs) n k (le_of_suc-le-suc h) l) (and_false (leb at e))

module _ (es : List ℕ) (n : ℕ) where
  pub list_none : length es ≡ 0 → true ≡ good_list es n
  unfolding good_list pick
  list_none z = rw (eq-eqb (length es) 0 z)

  pub list_some : (length es ≡ 0 → ⊥) → rising 0 es n ≡ good_list es n
  unfolding good_list pick
  list_some z = rw (ne_eqb (length es) 0 z)

  pub list_sorted : 0 < length es → ((k : ℕ) → k + 1 < length es → get_or es k 0 ≤ get_or es (k + 1) 0)
      → eqb (get_or es (length es - 1) 0) n ≡ good_list es n
  list_sorted some next =
      let last : length es ≡ suc (length es - 1) = omega arith in
      ap (λ (k : ℕ). eqb (get_or (0 ∷ es) k 0) n) (sym last) ∙ sym (rises 0 es n (λ h. omega arith) (λ k h. let w : get_or es k 0 ≤ get_or es (suc k) 0 = rw (← add-one k) (next k (omega arith)) in w)) ∙ list_some (λ z. omega arith)

  pub list_fallen : (k : ℕ) → k + 1 < length es → get_or es (k + 1) 0 < get_or es k 0 → false ≡ good_list es n
  list_fallen k h l = sym (falls 0 es n k (omega arith) (let w : get_or es (suc k) 0 < get_or es k 0 = rw (← add-one k) l in w)) ∙ list_some (λ z. omega arith)

rising_le : (at : ℕ) (es : List ℕ) (n : ℕ) → rising at es n ≡ true → at ≤ n
unfolding rising
rising_le at [] n e = let z = eqb-true at n e in omega arith
rising_le at (x ∷ xs) n e =
    let l = leb-true at x (both_left (leb at x) (rising x xs n) e) in
    let m = rising_le x xs n (both_right (leb at x) (rising x xs n) e) in
    omega arith

-- ---- a value of the buffer, clipped to it

pub part_clipped : (s : List ℕ) (at end : ℕ) {from to : ℕ} → to ≡ min end (length s) → from ≡ min at to → take (to - from) (drop from s) ≡ part at end s
part_clipped s at end {from} {to} et ef = split (dec_le at end) (dec_le at (length s)) (dec_le end (length s))
  where
    none : to ≡ from → end - at ≡ 0 → take (to - from) (drop from s) ≡ part at end s
    none e z = let w : to - from ≡ 0 = omega arith in rw (w, z)

    split : Dec (at ≤ end) → Dec (at ≤ length s) → Dec (end ≤ length s) → take (to - from) (drop from s) ≡ part at end s
    split (no h) low high = none (omega arith) (omega arith)
    split (yes h) (yes low) (yes high) =
        let a : from ≡ at = omega arith in
        let b : to ≡ end = omega arith in
        rw (a, b)
    split (yes h) (yes low) (no high) =
        let a : from ≡ at = omega arith in
        let b : to ≡ length s = omega arith in
        rw (a, b) (part_end s at ∙ sym (take_all (end - at) (drop at s) (simp length-drop (omega arith))))
    split (yes h) (no low) high =
        let w : to - from ≡ 0 = omega arith in
        rw (w, drop_of_length-le s {i = at} (omega arith)) (sym (take-nil (end - at)))

-- ---- one value more, from a place of the list on

module _ (es s : List ℕ) (at i : ℕ) where
  -- the tests of the value at i hold
  pub tests_on : i < length es → asked_all pass (value_tests (part at (get_or es i 0) s)) ≡ pass
      → asked_all pass (list_tests at (drop i es) s) ≡ asked_all pass (list_tests (get_or es i 0) (drop (i + 1) es) s)
  unfolding list_tests
  tests_on h held =
      rw (here es i h)
      (asked_append pass (value_tests (part at (get_or es i 0) s)) (list_tests (get_or es i 0) (drop (i + 1) es) s)
      ∙ ap (λ (g : Check). asked_all g (list_tests (get_or es i 0) (drop (i + 1) es) s)) held)

  -- one of them fails
  pub tests_stop : {r : Refusal} → i < length es → asked_all pass (value_tests (part at (get_or es i 0) s)) ≡ Err r
      → asked_all pass (list_tests at (drop i es) s) ≡ Err r
  unfolding list_tests
  tests_stop {r} h failed =
      rw (here es i h)
      (asked_append pass (value_tests (part at (get_or es i 0) s)) (list_tests (get_or es i 0) (drop (i + 1) es) s)
      ∙ ap (λ (g : Check). asked_all g (list_tests (get_or es i 0) (drop (i + 1) es) s)) failed
      ∙ shut_stays (list_tests (get_or es i 0) (drop (i + 1) es) s) r)

  pub tests_end : length es ≤ i → asked_all pass (list_tests at (drop i es) s) ≡ pass
  unfolding list_tests
  tests_end h = rw (gone es i h)

  pub listed_on : (mark : ℕ) → i < length es
      → listed mark at (drop i es) s ≡ ((mark ∷ []) ++ part at (get_or es i 0) s) ++ listed comma (get_or es i 0) (drop (i + 1) es) s
  unfolding listed
  listed_on mark h = rw (here es i h)

  pub listed_end : (mark : ℕ) → length es ≤ i → listed mark at (drop i es) s ≡ []
  unfolding listed
  listed_end mark h = rw (gone es i h)

-- ---- the text of the whole list

part_long : (s : List ℕ) (at end : ℕ) → end ≤ length s → length (part at end s) ≡ end - at
part_long s at end h = length-take-le (end - at) (drop at s) (simp length-drop (omega arith))

-- as long as its marks and the buffer
listed_long : (mark at : ℕ) (es s : List ℕ) → rising at es (length s) ≡ true → length (listed mark at es s) + at ≡ length es + length s
unfolding listed rising
listed_long mark at [] s e = let z = eqb-true at (length s) e in omega arith
listed_long mark at (x ∷ xs) s e =
    let l = leb-true at x (both_left (leb at x) (rising x xs (length s)) e) in
    let r = both_right (leb at x) (rising x xs (length s)) e in
    let h = rising_le x xs (length s) r in
    let p = part_long s at x h in
    let q = listed_long comma x xs s r in
    let n = length-append (part at x s) (listed comma x xs s) in
    omega arith

listed_printable : (mark at : ℕ) (es s : List ℕ) → printable mark ≡ true → AllHold (list_tests at es s) → all_bytes printable (listed mark at es s) ≡ true
unfolding listed list_tests all_bytes printable
listed_printable mark at [] s p h = refl
listed_printable mark at (x ∷ xs) s p h =
    rw p
    (every_append printable (part at x s) (listed comma x xs s) (value_printable (part at x s) (hold_left (value_tests (part at x s)) (list_tests x xs s) h))
    (listed_printable comma x xs s refl (hold_right (value_tests (part at x s)) (list_tests x xs s) h)))

listed_kept : (mark at x : ℕ) (xs s : List ℕ) → blank mark ≡ false → AllHold (list_tests at (x ∷ xs) s)
    → trim_end (listed mark at (x ∷ xs) s) ≡ listed mark at (x ∷ xs) s
unfolding listed list_tests blank
listed_kept mark at x [] s b h = rw append-nil (value_kept mark (part at x s) b (hold_left (value_tests (part at x s)) [] h))
listed_kept mark at x (y ∷ ys) s b h =
    end_append (mark ∷ part at x s) comma (part x y s ++ listed comma y ys s)
    (listed_kept comma x y ys s refl (hold_right (value_tests (part at x s)) (list_tests x (y ∷ ys) s) h))

list_kept : (k s es : List ℕ) → AllHold (key_tests k) → (length es ≡ 0 → ⊥) → AllHold (list_tests 0 es s)
    → trim (k ++ listed equals 0 es s) ≡ k ++ listed equals 0 es s
unfolding listed blank
list_kept k s [] hk some hv = absurd (some refl)
list_kept k s (x ∷ xs) hk some hv = key_kept k equals (part 0 x s ++ listed comma x xs s) refl hk (listed_kept equals 0 x xs s refl hv)

-- where every test before the slug holds: trimming leaves the key, the equals sign and the values as they are, they are printable, and
-- they are as long as the key, the marks and the buffer
module _ (k s es : List ℕ) (hold : AllHold (list_pre k s es)) where
  keys : AllHold (key_tests k)
  keys = hold_left (key_tests k) ((ltb 0 (length es), refusal.MissingVal) ∷ list_tests 0 es s) hold.1

  rest : AllHold ((ltb 0 (length es), refusal.MissingVal) ∷ list_tests 0 es s)
  rest = hold_right (key_tests k) ((ltb 0 (length es), refusal.MissingVal) ∷ list_tests 0 es s) hold.1

  some : length es ≡ 0 → ⊥
  some z = let l = ltb-true 0 (length es) rest.0 in omega arith

  pub list_told : (trim (k ++ listed equals 0 es s) ≡ k ++ listed equals 0 es s) × (all_bytes printable (k ++ listed equals 0 es s) ≡ true)
  unfolding printable
  list_told = (
    list_kept k s es keys some rest.1,
    every_append printable k (listed equals 0 es s) (key_printable k keys) (listed_printable equals 0 es s refl rest.1),
  )

  pub list_long : length (k ++ listed equals 0 es s) ≡ length k + length es + length s
  list_long =
      let l = listed_long equals 0 es s (list_some es (length s) some ∙ hold.0) in
      length-append k (listed equals 0 es s) ∙ omega arith
