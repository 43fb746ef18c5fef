-- Laws of equality by written answers: it is symmetric and transitive, so `==` of a line has the laws of `PartialEq`.
use Rattle.std.specs.Prelude.{Ok, Err}
use Rattle.std.specs.Cmp.{IsPartialEquivalence, both_ways}
use Prim.Native.Nat.{ℕ}
use mathlib.Core.Path.{◌≡◌, refl, sym, ◌∙◌}
use mathlib.Core.Bool.{Bool, true}
use mathlib.Core.List.{List, [], ◌∷◌}
use lib.Dec.{eqb}
use borrow.Author.Tests.{eqb-true, eq-eqb, eqb-false}
use Rattle.answers.specs.Catalogue.{number_of}
use Rattle.answers.specs.Tests.{Check}
use Rattle.slugs.proofs.BytesLaws.{both_left, both_right}
use Rattle.cmdline.specs.Writing.{whole, text_gate, same_bytes, same_answer, same_line}

-- ---- texts

pub same_list : (s t : List ℕ) → same_bytes s t ≡ true → s ≡ t
unfolding same_bytes
same_list [] [] e = refl
same_list [] (y ∷ ys) e = absurd (eqb-false 0 0 (sym e) refl)
same_list (x ∷ xs) [] e = absurd (eqb-false 0 0 (sym e) refl)
same_list (x ∷ xs) (y ∷ ys) e =
    let head = eqb-true x y (both_left (eqb x y) (same_bytes xs ys) e) in
    let tail = same_list xs ys (both_right (eqb x y) (same_bytes xs ys) e) in
    rw (head, tail)

pub list_same : (s : List ℕ) → same_bytes s s ≡ true
unfolding same_bytes
list_same [] = refl
list_same (x ∷ xs) = rw (eq-eqb x x refl) (list_same xs)

same_back : (s t : List ℕ) → same_bytes s t ≡ true → same_bytes t s ≡ true
same_back s t e = rw (same_list s t e) (list_same t)

same_then : (s t u : List ℕ) → same_bytes s t ≡ true → same_bytes t u ≡ true → same_bytes s u ≡ true
same_then s t u e f = rw (same_list s t e, same_list t u f) (list_same u)

-- ---- answers

eqb_back : (m n : ℕ) → eqb m n ≡ eqb n m
eqb_back m n =
    both_ways (eqb m n) (eqb n m) (λ e. eq-eqb n m (sym (eqb-true m n e))) (λ e. eq-eqb m n (sym (eqb-true n m e)))

answer_back : (g h : Check) {p q : Bool} → p ≡ q → same_answer g h p ≡ same_answer h g q
answer_back (Ok _) (Ok _) e = e
answer_back (Ok _) (Err s) e = refl
answer_back (Err r) (Ok _) e = refl
answer_back (Err r) (Err s) e = eqb_back (number_of r) (number_of s)

answer_then : (g h k : Check) {p q r : Bool} → (p ≡ true → q ≡ true → r ≡ true) → same_answer g h p ≡ true
    → same_answer h k q ≡ true → same_answer g k r ≡ true
answer_then (Ok _) (Ok _) (Ok _) all e f = all e f
answer_then (Ok _) (Ok _) (Err s) all e f = f
answer_then (Ok _) (Err s) k all e f = absurd (eqb-false 0 0 (sym e) refl)
answer_then (Err r) (Ok _) k all e f = absurd (eqb-false 0 0 (sym e) refl)
answer_then (Err r) (Err s) (Ok _) all e f = f
answer_then (Err r) (Err s) (Err t) all e f =
    eq-eqb (number_of r) (number_of t) (eqb-true (number_of r) (number_of s) e ∙ eqb-true (number_of s) (number_of t) f)

-- ---- lines

pub same_laws : IsPartialEquivalence same_line
same_laws =
    record {
      symm = λ a b.
          answer_back (text_gate a) (text_gate b)
          (both_ways (same_bytes (whole a) (whole b)) (same_bytes (whole b) (whole a)) (same_back (whole a) (whole b))
          (same_back (whole b) (whole a)));
      trans = λ a b d. answer_then (text_gate a) (text_gate b) (text_gate d) (same_then (whole a) (whole b) (whole d));
    }
