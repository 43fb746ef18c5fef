-- Laws of the whole text of a line.
use Rattle.std.specs.Prelude.{Ok, Err, Result}
use Prim.Native.Nat.{ℕ, ◌+◌, ◌-◌, ◌^◌, ◌≤◌, ◌<◌, min}
use mathlib.Core.Path.{◌≡◌, refl, sym, ap, ◌∙◌}
use mathlib.Core.Bool.{Bool, true, false, not, ◌&&◌, ◌||◌}
use mathlib.Core.List.{List, [], ◌∷◌, ◌++◌, append-nil, append_assoc}
use native.Mathlib.Omega.{arith}
use native.Mathlib.Decide.{dec_le, ℕ_discrete}
use lib.Dec.{leb, eqb}
use lib.Pointwise.{pointwise}
use lib.ListN.{length, take, drop, get_or, length-append, length-take, get_or-append}
use lib.Seq.{sets, take_all, get_or-append-add}
use borrow.Author.Tests.{leb-true, eq-eqb, ne_eqb}
use Rattle.answers.specs.Pick.{pick}
use Rattle.answers.specs.Tests.{Test, asked, asked_all, Check, pass}
use Rattle.answers.specs.declared.Refusal.{Refusal}
use Rattle.answers.specs.declared.Refusal.TheVariants as refusal
use Rattle.answers.proofs.TestsLaws.{open_all, asked_append, hold_right}
use Rattle.slugs.specs.Bytes.{has}
use Rattle.slugs.specs.Stored.{Stored}
use Rattle.cmdline.specs.Limit.{limit}
use Rattle.cmdline.specs.Text.{Text, size_of}
use Rattle.cmdline.specs.SameLaws.{same_list, list_same}
use Rattle.cmdline.specs.Writing.{bare, whole_line, separator_before, headed, text_tests, write_gate, written_of, written_bytes, Writes, same_bytes, same_line}
use Rattle.slugs.proofs.BytesLaws.{has_append}
use Rattle.slugs.proofs.ListLaws.{here, gone}
use Rattle.slugs.specs.Splitting.{separator}

-- ---- with init text and without

module _ (b i : List ℕ) where
  pub whole_none : length i ≡ 0 → whole_line b i ≡ b
  unfolding whole_line pick
  whole_none z = rw (eq-eqb (length i) 0 z) (append-nil b)

  pub whole_some : (length i ≡ 0 → ⊥) → whole_line b i ≡ b ++ (separator ++ i)
  unfolding whole_line pick
  whole_some z = rw (ne_eqb (length i) 0 z)

  pub some_long : (length i ≡ 0 → ⊥) → length (whole_line b i) ≡ length b + 4 + length i
  some_long z = ap length (whole_some z) ∙ length-append b (separator ++ i) ∙ omega arith

  pub none_long : length i ≡ 0 → length (whole_line b i) ≡ length b
  none_long z = ap length (whole_none z)

  -- with its zero it has the counted size
  pub whole_size : length (whole_line b i) + 1 ≡ size_of (length b) (length i)
  unfolding size_of pick
  whole_size = split (ℕ_discrete (length i) 0)
    where
      split : Dec (length i ≡ 0) → length (whole_line b i) + 1 ≡ length b + 1 + pick (eqb (length i) 0) 0 (4 + length i)
      split (yes z) = rw (eq-eqb (length i) 0 z) (let w = none_long z in omega arith)
      split (no z) = rw (ne_eqb (length i) 0 z) (let w = some_long z in omega arith)

-- texts of different sizes, each counted up to a greatest number, are not the same
pub sizes_differ : (b i b' i' : List ℕ) (most : ℕ) {m n : ℕ} → m ≡ min (size_of (length b) (length i)) most
    → n ≡ min (size_of (length b') (length i')) most → (m ≡ n → ⊥) → false ≡ same_bytes (whole_line b i) (whole_line b' i')
sizes_differ b i b' i' most em en differ = split (same_bytes (whole_line b i) (whole_line b' i')) refl
  where
    split : (t : Bool) → same_bytes (whole_line b i) (whole_line b' i') ≡ t → false ≡ t
    split false e = refl
    split true e =
        let same = ap length (same_list (whole_line b i) (whole_line b' i') e) in
        let one = whole_size b i in
        let other = whole_size b' i' in
        absurd (differ (omega arith))

-- ---- a zero byte in it

or_false : (a : Bool) → a || false ≡ a
or_false true = refl
or_false false = refl

empty_list : (i : List ℕ) → length i ≡ 0 → i ≡ []
empty_list [] z = refl
empty_list (x ∷ xs) z = absurd (omega arith)

pub whole_has : (b i : List ℕ) → has 0 (whole_line b i) ≡ (has 0 b || has 0 i)
unfolding has
whole_has b i = split (ℕ_discrete (length i) 0)
  where
    split : Dec (length i ≡ 0) → has 0 (whole_line b i) ≡ (has 0 b || has 0 i)
    split (yes z) = rw (whole_none b i z, empty_list i z) (sym (or_false (has 0 b)))
    split (no z) = rw (whole_some b i z, has_append)

-- two tests with one refusal
asked_both : (g : Check) (a b : Bool) (r : Refusal) → asked (asked g (not a) r) (not b) r ≡ asked g (not (a || b)) r
unfolding asked pick
asked_both (Err s) a b r = refl
asked_both (Ok _) true true r = refl
asked_both (Ok _) true false r = refl
asked_both (Ok _) false true r = refl
asked_both (Ok _) false false r = refl

-- the tests of the text, with the two parts tested one after the other
pub text_row : (b i : List ℕ)
    → asked (asked (asked pass (headed (length b) (length i)) refusal.NoBootArgsInserted) (not (has 0 b)) refusal.NullTerminator) (not (has 0 i)) refusal.NullTerminator
    ≡ asked_all pass (text_tests b i)
unfolding text_tests
text_row b i =
    asked_both (asked pass (headed (length b) (length i)) refusal.NoBootArgsInserted) (has 0 b) (has 0 i) refusal.NullTerminator ∙ rw (← whole_has b i)

-- ---- the whole text in its parts

pub whole_parts : (b i : List ℕ) → (b ++ separator_before i) ++ i ≡ whole_line b i
unfolding whole_line separator_before pick
whole_parts b i = split (ℕ_discrete (length i) 0)
  where
    split : Dec (length i ≡ 0) → (b ++ pick (eqb (length i) 0) [] separator) ++ i ≡ b ++ pick (eqb (length i) 0) [] (separator ++ i)
    split (yes z) = rw (eq-eqb (length i) 0 z, empty_list i z) (append-nil (b ++ []))
    split (no z) = rw (ne_eqb (length i) 0 z) (append_assoc b separator i)

-- ---- the byte at a place of it

module _ (b i : List ℕ) where
  -- a place past the boot text says that there is init text
  past_some : (k : ℕ) → k < length (whole_line b i) → length b ≤ k → length i ≡ 0 → ⊥
  past_some k h p z = let w = none_long b i z in omega arith

  pub at_boot : (k : ℕ) → k < length b → get_or b k 0 ≡ get_or (whole_line b i) k 0
  unfolding whole_line
  at_boot k h = sym (get_or-append b (pick (eqb (length i) 0) [] (separator ++ i)) 0 k h)

  past : (k : ℕ) → k < length (whole_line b i) → length b ≤ k → get_or (whole_line b i) k 0 ≡ get_or (separator ++ i) (k - length b) 0
  past k h p =
      let q : k ≡ length b + (k - length b) = omega arith in
      rw (whole_some b i (past_some k h p)) (ap (λ (m : ℕ). get_or (b ++ (separator ++ i)) m 0) q ∙ get_or-append-add b (separator ++ i) (k - length b) 0)

  pub at_separator : (k : ℕ) → k < length (whole_line b i) → length b ≤ k → k - length b < 4
      → get_or separator (k - length b) 0 ≡ get_or (whole_line b i) k 0
  at_separator k h p l = sym (past k h p ∙ get_or-append separator i 0 (k - length b) l)

  pub at_init : (k : ℕ) → k < length (whole_line b i) → length b ≤ k → 4 ≤ k - length b
      → get_or i (k - length b - 4) 0 ≡ get_or (whole_line b i) k 0
  at_init k h p l =
      let q : k - length b ≡ 4 + (k - length b - 4) = omega arith in
      sym (past k h p ∙ ap (λ (m : ℕ). get_or (separator ++ i) m 0) q ∙ get_or-append-add separator i (k - length b - 4) 0)

pub whole_most : (b i : List ℕ) → length (whole_line b i) ≤ length b + 4 + length i
whole_most b i = split (ℕ_discrete (length i) 0)
  where
    split : Dec (length i ≡ 0) → length (whole_line b i) ≤ length b + 4 + length i
    split (yes z) = let w = none_long b i z in omega arith
    split (no z) = let w = some_long b i z in omega arith

-- the size of a whole text that a line can hold
pub size_whole : (b i : List ℕ) {n : ℕ} → length b ≤ limit → length i ≤ limit → n ≡ min (size_of (length b) (length i)) (2 ^ 64 - 1)
    → n ≡ length (whole_line b i) + 1
size_whole b i {n} p q e = let most = whole_most b i in let one = whole_size b i in omega arith

-- ---- two texts, from a place on

module _ (s t : List ℕ) (i : ℕ) where
  pub same_stop : i < length s → i < length t → (get_or s i 0 ≡ get_or t i 0 → ⊥) → same_bytes (drop i s) (drop i t) ≡ false
  unfolding same_bytes
  same_stop h k e = rw (here s i h, here t i k, ne_eqb (get_or s i 0) (get_or t i 0) e)

  pub same_on : i < length s → i < length t → get_or s i 0 ≡ get_or t i 0 → same_bytes (drop i s) (drop i t) ≡ same_bytes (drop (i + 1) s) (drop (i + 1) t)
  unfolding same_bytes
  same_on h k e = rw (here s i h, here t i k, eq-eqb (get_or s i 0) (get_or t i 0) e)

  pub same_end : length s ≤ i → length t ≤ i → same_bytes (drop i s) (drop i t) ≡ true
  unfolding same_bytes
  same_end h k = rw (gone s i h, gone t i k)

-- ---- two texts that are split at one place

-- the library's test of two slices
pub slices_same : (s t : List ℕ) → pointwise eqb s t ≡ same_bytes s t
unfolding same_bytes
slices_same [] [] = refl
slices_same [] (y ∷ t) = refl
slices_same (x ∷ s) [] = refl
slices_same (x ∷ s) (y ∷ t) = ap (λ (r : Bool). eqb x y && r) (slices_same s t)

same_append : (s t u v : List ℕ) → length s ≡ length t → same_bytes (s ++ u) (t ++ v) ≡ (same_bytes s t && same_bytes u v)
unfolding same_bytes
same_append [] [] u v e = refl
same_append [] (y ∷ t) u v e = absurd (omega arith)
same_append (x ∷ s) [] u v e = absurd (omega arith)
same_append (x ∷ s) (y ∷ t) u v e = ap (λ (r : Bool). eqb x y && r) (same_append s t u v (omega arith)) ∙ grouped (eqb x y) (same_bytes s t) (same_bytes u v)
  where
    grouped : (a b c : Bool) → (a && (b && c)) ≡ ((a && b) && c)
    grouped true b c = refl
    grouped false b c = refl

pub same_split : (b i b' i' : List ℕ) → length b ≡ length b' → length i ≡ length i'
    → (same_bytes b b' && same_bytes i i') ≡ same_bytes (whole_line b i) (whole_line b' i')
unfolding whole_line pick
same_split b i b' i' p q =
    ap (λ (r : Bool). same_bytes b b' && r) (sym (tail (ℕ_discrete (length i) 0))) ∙ sym (same_append b b' (joined i) (joined i') p)
  where
    joined : List ℕ → List ℕ
    joined t = pick (eqb (length t) 0) [] (separator ++ t)

    tail : Dec (length i ≡ 0) → same_bytes (joined i) (joined i') ≡ same_bytes i i'
    tail (yes z) = rw (eq-eqb (length i) 0 z, eq-eqb (length i') 0 (sym q ∙ z), empty_list i z, empty_list i' (sym q ∙ z)) refl
    tail (no z) =
        rw (ne_eqb (length i) 0 z, ne_eqb (length i') 0 (λ e. z (q ∙ e)))
        (same_append separator separator i i' refl ∙ ap (λ (r : Bool). r && same_bytes i i') (list_same separator))

-- ---- a line that is written

-- a text that is written whole, by how its tests end
module _ (boot init out : List ℕ) {g h : Check} {room : Bool} (text : g ≡ asked_all pass (text_tests boot init))
    (fits : room ≡ leb (size_of (length boot) (length init)) (length out)) (last : h ≡ asked g room refusal.NoRoom) where
  abbrev room_test : Test
  room_test = (leb (length (whole_line boot init) + 1) (length out), refusal.NoRoom)

  write_gate_lem : h ≡ write_gate (bare boot init) (length out)
  write_gate_lem = last ∙ rw (text, fits, ← whole_size boot init) (sym (asked_append pass (text_tests boot init) (room_test ∷ [])))

  pub writes_refused : (r : Refusal) → h ≡ Err r → Writes (bare boot init) out (Err r) out
  writes_refused r e =
      let gate : Err r ≡ write_gate (bare boot init) (length out) = sym e ∙ write_gate_lem in
      record {
        answer = ap (λ (x : Check). written_of x (bare boot init)) gate;
        bytes = ap (λ (x : Check). sets out 0 (written_bytes x (bare boot init))) gate;
      }

  pub writes_whole : {left : List ℕ} {k : ℕ} → h ≡ pass → Stored out 0 (whole_line boot init ++ (0 ∷ [])) left k
      → Writes (bare boot init) out (Ok k) left
  writes_whole {left} {k} e w =
      let gate : pass ≡ write_gate (bare boot init) (length out) = sym e ∙ write_gate_lem in
      let hold = open_all (text_tests boot init ++ (room_test ∷ [])) (sym gate) in
      let enough = leb-true (length (whole_line boot init) + 1) (length out) (hold_right (text_tests boot init) (room_test ∷ []) hold).0 in
      let long = length-append (whole_line boot init) (0 ∷ []) in
      let place = w.place in
      let count : k ≡ length (whole_line boot init) + 1 = omega arith in
      record {
        answer = ap Ok count ∙ ap (λ (x : Check). written_of x (bare boot init)) gate;
        bytes = w.bytes ∙ ap (λ (x : Check). sets out 0 (written_bytes x (bare boot init))) gate;
      }

-- the capacity of a line has no part in how it is written
written_any : (t : Text) (g : Check) → written_of g (bare t.boot t.init) ≡ written_of g t
written_any t (Ok _) = refl
written_any t (Err r) = refl

bytes_any : (t : Text) (g : Check) → written_bytes g (bare t.boot t.init) ≡ written_bytes g t
bytes_any t (Ok _) = refl
bytes_any t (Err r) = refl

pub writes_any : (t : Text) {out left : List ℕ} {r : Result ℕ Refusal} → Writes (bare t.boot t.init) out r left → Writes t out r left
writes_any t {out} w =
    record {
      answer = w.answer ∙ written_any t (write_gate t (length out));
      bytes = w.bytes ∙ ap (λ (s : List ℕ). sets out 0 s) (bytes_any t (write_gate t (length out)));
    }

-- ---- lines that are compared

pub clipped_take : (s : List ℕ) {n : ℕ} → n ≡ min (length s) limit → take n s ≡ take limit s
clipped_take s {n} e = split (dec_le limit (length s))
  where
    split : Dec (limit ≤ length s) → take n s ≡ take limit s
    split (yes h) = ap (λ (k : ℕ). take k s) (let same : n ≡ limit = omega arith in same)
    split (no h) = take_all n s (omega arith) ∙ sym (take_all limit s (omega arith))

pub taken_most : (s : List ℕ) {t : List ℕ} → t ≡ take limit s → length t ≤ limit
taken_most s e = let long = length-take limit s in rw e (omega arith)

-- a text that a line can hold is not clipped
pub clipped_whole : (n : ℕ) (s : List ℕ) → take limit (take (min n limit) s) ≡ take (min n limit) s
clipped_whole n s = let long = length-take (min n limit) s in take_all limit (take (min n limit) s) (omega arith)

pub same_clipped : (p q u v : List ℕ) (n i m j : ℕ) {p' q' u' v' : List ℕ} {r : Bool} → p' ≡ take (min n limit) p → q' ≡ take (min i limit) q
    → u' ≡ take (min m limit) u → v' ≡ take (min j limit) v → r ≡ same_line (bare (take limit p') (take limit q')) (bare (take limit u') (take limit v'))
    → r ≡ same_line (bare (take (min n limit) p) (take (min i limit) q)) (bare (take (min m limit) u) (take (min j limit) v))
same_clipped p q u v n i m j {p'} {q'} {u'} {v'} ep eq eu ev er =
    let a : take limit p' ≡ take (min n limit) p = ap (take limit) ep ∙ clipped_whole n p in
    let b : take limit q' ≡ take (min i limit) q = ap (take limit) eq ∙ clipped_whole i q in
    let d : take limit u' ≡ take (min m limit) u = ap (take limit) eu ∙ clipped_whole m u in
    let f : take limit v' ≡ take (min j limit) v = ap (take limit) ev ∙ clipped_whole j v in
    er
    ∙ ap (λ (s : List ℕ). same_line (bare s (take limit q')) (bare (take limit u') (take limit v'))) a
    ∙ ap (λ (s : List ℕ). same_line (bare (take (min n limit) p) s) (bare (take limit u') (take limit v'))) b
    ∙ ap (λ (s : List ℕ). same_line (bare (take (min n limit) p) (take (min i limit) q)) (bare s (take limit v'))) d
    ∙ ap (λ (s : List ℕ). same_line (bare (take (min n limit) p) (take (min i limit) q)) (bare (take (min m limit) u) s)) f
