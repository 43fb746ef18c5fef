-- Two lines are equal exactly when their written answers, given room, are: `equal_answers` and `answers_equal`. So all lines of init text
-- alone are equal to each other, and so are all lines with boot text and a zero byte: each kind has one refusal.
use Rattle.std.specs.Prelude.{Ok, Err, is_err}
use Rattle.std.specs.Result.{result_eq}
use Rattle.answers.specs.declared.Refusal.{Refusal}
use Prim.Native.Nat.{ℕ, ◌+◌, ◌≤◌}
use mathlib.Core.Path.{◌≡◌, refl, sym, ap, ◌∙◌}
use mathlib.Core.Bool.{Bool, true, false, not}
use mathlib.Core.List.{List, [], ◌∷◌, ◌++◌}
use native.Mathlib.Omega.{arith}
use lib.Dec.{leb}
use lib.ListN.{length}
use borrow.Author.Tests.{le-leb, eqb-false}
use Rattle.answers.specs.Pick.{pick}
use Rattle.answers.specs.Tests.{asked, Check, pass}
use Rattle.answers.specs.declared.Refusal.TheVariants as refusal
use Rattle.answers.proofs.TestsLaws.{asked_append}
use Rattle.slugs.specs.Bytes.{has}
use Rattle.cmdline.specs.Text.{Text}
use Rattle.cmdline.specs.Writing.{whole, headed, text_tests, text_gate, write_gate, same_bytes, same_answer, same_line, SameWritten}
use Rattle.cmdline.specs.SameLaws.{same_list, list_same}

-- ---- texts

-- without its last byte
snoc_same : (s t : List ℕ) (z : ℕ) → s ++ (z ∷ []) ≡ t ++ (z ∷ []) → s ≡ t
snoc_same [] [] z e = refl
snoc_same [] (y ∷ ys) z e = absurd (never ys (cc))
  where
    never : (l : List ℕ) → [] ≡ l ++ (z ∷ []) → ⊥
    never [] p = let w : ◌≡◌ {A = ℕ} 0 1 = cc in omega arith
    never (x ∷ xs) p = let w : ◌≡◌ {A = ℕ} 0 1 = cc in omega arith
snoc_same (x ∷ xs) [] z e = absurd (never xs (cc))
  where
    never : (l : List ℕ) → l ++ (z ∷ []) ≡ [] → ⊥
    never [] p = let w : ◌≡◌ {A = ℕ} 0 1 = cc in omega arith
    never (x ∷ xs) p = let w : ◌≡◌ {A = ℕ} 0 1 = cc in omega arith
snoc_same (x ∷ xs) (y ∷ ys) z e =
    let head : x ≡ y = cc in
    let rest : xs ++ (z ∷ []) ≡ ys ++ (z ∷ []) = cc in
    rw (head, snoc_same xs ys z rest)

-- ---- given room, only the text is asked

given_room : (t : Text) (room : ℕ) → length (whole t) + 1 ≤ room → write_gate t room ≡ text_gate t
unfolding asked pick
given_room t room h =
    asked_append pass (text_tests t.boot t.init) ((leb (length (whole t) + 1) room, refusal.NoRoom) ∷ [])
    ∙ rw (le-leb (length (whole t) + 1) room h) (split (text_gate t))
  where
    split : (g : Check) → asked g true refusal.NoRoom ≡ g
    split (Ok _) = refl
    split (Err r) = refl

-- ---- by cases on the two checks, each passed or failed with one of two refusals

data TextSaid : Check → Type 0 where
  good : TextSaid pass
  alone : TextSaid (Err refusal.NoBootArgsInserted)
  zero_byte : TextSaid (Err refusal.NullTerminator)

told : (t : Text) → TextSaid (text_gate t)
unfolding text_tests asked pick
told t = split (headed (length t.boot) (length t.init)) (not (has 0 (whole t)))
  where
    split : (a b : Bool) → TextSaid (asked (asked pass a refusal.NoBootArgsInserted) b refusal.NullTerminator)
    split true true = good
    split true false = zero_byte
    split false b = alone

-- the two answers compared by the library's `==`, whose tests of what they hold are u and r
module _ (u : Unit {0} → Unit {0} → Bool) (r : Refusal → Refusal → Bool) (uu : u tt tt ≡ true)
    (aa : r refusal.NoBootArgsInserted refusal.NoBootArgsInserted ≡ true) (az : r refusal.NoBootArgsInserted refusal.NullTerminator ≡ false)
    (za : r refusal.NullTerminator refusal.NoBootArgsInserted ≡ false) (zz : r refusal.NullTerminator refusal.NullTerminator ≡ true) (a b : Text) where
  unequal : (g h : Check) → TextSaid g → TextSaid h → (same : Bool) → result_eq u r g h ≡ false → false ≡ same_answer g h same
  unequal _ _ good good same e = absurd (eqb-false 0 0 (sym uu ∙ e) refl)
  unequal _ _ good alone same e = refl
  unequal _ _ good zero_byte same e = refl
  unequal _ _ alone good same e = refl
  unequal _ _ alone alone same e = absurd (eqb-false 0 0 (sym aa ∙ e) refl)
  unequal _ _ alone zero_byte same e = refl
  unequal _ _ zero_byte good same e = refl
  unequal _ _ zero_byte alone same e = refl
  unequal _ _ zero_byte zero_byte same e = absurd (eqb-false 0 0 (sym zz ∙ e) refl)

  refused : (g h : Check) → TextSaid g → TextSaid h → (same : Bool) → result_eq u r g h ≡ true → is_err g ≡ true → true ≡ same_answer g h same
  refused _ _ good h same e k = absurd (eqb-false 0 0 (sym k) refl)
  refused _ _ alone good same e k = sym e
  refused _ _ alone alone same e k = refl
  refused _ _ alone zero_byte same e k = sym e ∙ az
  refused _ _ zero_byte good same e k = sym e
  refused _ _ zero_byte alone same e k = sym e ∙ za
  refused _ _ zero_byte zero_byte same e k = refl

  accepted : (g h : Check) → TextSaid g → TextSaid h → (same : Bool) → result_eq u r g h ≡ true → is_err g ≡ false → same ≡ same_answer g h same
  accepted _ _ good good same e k = refl
  accepted _ _ good alone same e k = absurd (eqb-false 0 0 (sym e) refl)
  accepted _ _ good zero_byte same e k = absurd (eqb-false 0 0 (sym e) refl)
  accepted _ _ alone h same e k = absurd (eqb-false 0 0 k refl)
  accepted _ _ zero_byte h same e k = absurd (eqb-false 0 0 k refl)

  pub unequal_answers : result_eq u r (text_gate a) (text_gate b) ≡ false → false ≡ same_line a b
  unequal_answers = unequal (text_gate a) (text_gate b) (told a) (told b) (same_bytes (whole a) (whole b))

  pub refused_answers : result_eq u r (text_gate a) (text_gate b) ≡ true → is_err (text_gate a) ≡ true → true ≡ same_line a b
  refused_answers = refused (text_gate a) (text_gate b) (told a) (told b) (same_bytes (whole a) (whole b))

  pub accepted_answers : result_eq u r (text_gate a) (text_gate b) ≡ true → is_err (text_gate a) ≡ false → same_bytes (whole a) (whole b) ≡ same_line a b
  accepted_answers = accepted (text_gate a) (text_gate b) (told a) (told b) (same_bytes (whole a) (whole b))

module _ (a b : Text) where
  forth : (g h : Check) → TextSaid g → TextSaid h → same_answer g h (same_bytes (whole a) (whole b)) ≡ true → SameWritten a b g h
  forth _ _ good good e =
      let w = same_list (whole a) (whole b) e in
      record { answer = ap (λ (s : List ℕ). Ok (length s + 1)) w; bytes = ap (λ (s : List ℕ). s ++ (0 ∷ [])) w }
  forth _ _ good alone e = absurd (eqb-false 0 0 (sym e) refl)
  forth _ _ good zero_byte e = absurd (eqb-false 0 0 (sym e) refl)
  forth _ _ alone good e = absurd (eqb-false 0 0 (sym e) refl)
  forth _ _ alone alone e = record { answer = refl; bytes = refl }
  forth _ _ alone zero_byte e = absurd (eqb-false 0 0 (sym e) refl)
  forth _ _ zero_byte good e = absurd (eqb-false 0 0 (sym e) refl)
  forth _ _ zero_byte alone e = absurd (eqb-false 0 0 (sym e) refl)
  forth _ _ zero_byte zero_byte e = record { answer = refl; bytes = refl }

  back : (g h : Check) → TextSaid g → TextSaid h → SameWritten a b g h → same_answer g h (same_bytes (whole a) (whole b)) ≡ true
  back _ _ good good w = rw (snoc_same (whole a) (whole b) 0 w.bytes) (list_same (whole b))
  back _ _ good alone w = let e = w.answer in let z : ◌≡◌ {A = ℕ} 0 1 = cc in absurd (omega arith)
  back _ _ good zero_byte w = let e = w.answer in let z : ◌≡◌ {A = ℕ} 0 1 = cc in absurd (omega arith)
  back _ _ alone good w = let e = w.answer in let z : ◌≡◌ {A = ℕ} 0 1 = cc in absurd (omega arith)
  back _ _ alone alone w = refl
  back _ _ alone zero_byte w = let e = w.answer in let z : ◌≡◌ {A = ℕ} 0 1 = cc in absurd (omega arith)
  back _ _ zero_byte good w = let e = w.answer in let z : ◌≡◌ {A = ℕ} 0 1 = cc in absurd (omega arith)
  back _ _ zero_byte alone w = let e = w.answer in let z : ◌≡◌ {A = ℕ} 0 1 = cc in absurd (omega arith)
  back _ _ zero_byte zero_byte w = refl

  module _ (room : ℕ) (ra : length (whole a) + 1 ≤ room) (rb : length (whole b) + 1 ≤ room) where
    pub equal_answers : same_line a b ≡ true → SameWritten a b (write_gate a room) (write_gate b room)
    equal_answers e = rw (given_room a room ra, given_room b room rb) (forth (text_gate a) (text_gate b) (told a) (told b) e)

    pub answers_equal : SameWritten a b (write_gate a room) (write_gate b room) → same_line a b ≡ true
    answers_equal w = back (text_gate a) (text_gate b) (told a) (told b) (rw (given_room a room ra, given_room b room rb) at w)
