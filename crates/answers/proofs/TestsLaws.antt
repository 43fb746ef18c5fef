-- A row of tests, read without its order of work: it passes exactly if every test holds, and it refuses exactly with
-- the refusal of the first test that fails. This is the sentence "a number is given exactly when its turn comes and its
-- condition holds".
use Rattle.std.specs.Prelude.{Ok, Err}
use Prim.Native.Nat.{ℕ}
use mathlib.Core.Path.{◌≡◌, sym, ◌∙◌, refl, ap}
use mathlib.Core.Bool.{Bool, true, false}
use mathlib.Core.List.{List, [], ◌∷◌, ◌++◌}
use native.Mathlib.Omega.{arith}
use Rattle.answers.specs.Pick.{pick}
use Rattle.answers.specs.Tests.{Test, asked, asked_all, AllHold, FirstFails, here, later, Check, pass}
use Rattle.answers.specs.declared.Refusal.{Refusal}

-- tests that have refused refuse with the same refusal, whatever comes after
pub shut_stays : (ts : List Test) (refusal : Refusal) → asked_all (Err refusal) ts ≡ Err refusal
unfolding asked
shut_stays [] refusal = refl
shut_stays (t ∷ ts) refusal = shut_stays ts refusal

-- the first test of a row, where it holds and where it fails
pub first_held : (t : Test) (ts : List Test) → t.0 ≡ true → asked_all pass (t ∷ ts) ≡ asked_all pass ts
unfolding asked pick
first_held t ts e = rw e

-- a test that holds changes nothing
pub holds_passed : (gate : Check) (refusal : Refusal) → asked gate true refusal ≡ gate
unfolding asked pick
holds_passed (Ok _) refusal = refl
holds_passed (Err first) refusal = refl

pub first_failed : (t : Test) (ts : List Test) → t.0 ≡ false → asked_all pass (t ∷ ts) ≡ Err t.1
unfolding asked pick
first_failed t ts e = ap (λ b. asked_all (asked pass b t.1) ts) e ∙ shut_stays ts t.1

-- what is told of a row, by its first test
module _ {P : Type 0} (t : Test) (ts : List Test) where
  split : (b : Bool) → t.0 ≡ b → (t.0 ≡ true → P) → (t.0 ≡ false → P) → P
  split true e yes-case no-case = yes-case e
  split false e yes-case no-case = no-case e

  pub by_first : (t.0 ≡ true → P) → (t.0 ≡ false → P) → P
  by_first = split t.0 refl

open_not_shut : {refusal : Refusal} → Err refusal ≡ pass → ⊥
open_not_shut e = let w : ◌≡◌ {A = ℕ} 0 1 = cc in omega arith

same_refusal : {r s : Refusal} → ◌≡◌ {A = Check} (Err r) (Err s) → r ≡ s
same_refusal e = cc

-- ---- it passes exactly if every test holds

pub open_all : (ts : List Test) → asked_all pass ts ≡ pass → AllHold ts
open_all [] e = tt
open_all (t ∷ ts) e =
    by_first t ts (λ h. (h, open_all ts (sym (first_held t ts h) ∙ e))) (λ f. absurd (open_not_shut (sym (first_failed t ts f) ∙ e)))

pub all_open : (ts : List Test) → AllHold ts → asked_all pass ts ≡ pass
all_open [] h = refl
all_open (t ∷ ts) h = first_held t ts h.0 ∙ all_open ts h.1

-- ---- it refuses exactly with the first that fails

pub shut_first : (ts : List Test) (refusal : Refusal) → asked_all pass ts ≡ Err refusal → FirstFails refusal ts
shut_first [] refusal e = absurd (open_not_shut (sym e))
shut_first (t ∷ ts) refusal e =
    by_first t ts (λ h. later h (shut_first ts refusal (sym (first_held t ts h) ∙ e))) (λ f. here f (same_refusal (sym (first_failed t ts f) ∙ e)))

pub first_shut : (ts : List Test) (refusal : Refusal) → FirstFails refusal ts → asked_all pass ts ≡ Err refusal
first_shut [] refusal x' = elim x' [ ]
first_shut (t ∷ ts) refusal (here f e) = first_failed t ts f ∙ ap Err e
first_shut (t ∷ ts) refusal (later h rest) = first_held t ts h ∙ first_shut ts refusal rest

-- ---- one row after another

pub asked_append : (gate : Check) (ts us : List Test) → asked_all gate (ts ++ us) ≡ asked_all (asked_all gate ts) us
asked_append gate [] us = refl
asked_append gate (t ∷ ts) us = asked_append (asked gate t.0 t.1) ts us

pub hold_left : (ts us : List Test) → AllHold (ts ++ us) → AllHold ts
hold_left [] us h = tt
hold_left (t ∷ ts) us h = (h.0, hold_left ts us h.1)

pub hold_right : (ts us : List Test) → AllHold (ts ++ us) → AllHold us
hold_right [] us h = h
hold_right (t ∷ ts) us h = hold_right ts us h.1

pub hold_append : (ts us : List Test) → AllHold ts → AllHold us → AllHold (ts ++ us)
hold_append [] us h k = k
hold_append (t ∷ ts) us h k = (h.0, hold_append ts us h.1 k)

-- a test that fails in the first row, or in the second after all of the first held
pub fails_left : {r : Refusal} (ts us : List Test) → FirstFails r ts → FirstFails r (ts ++ us)
fails_left [] us x' = elim x' [ ]
fails_left (t ∷ ts) us (here f e) = here f e
fails_left (t ∷ ts) us (later h rest) = later h (fails_left ts us rest)

pub fails_right : {r : Refusal} (ts us : List Test) → AllHold ts → FirstFails r us → FirstFails r (ts ++ us)
fails_right [] us h f = f
fails_right (t ∷ ts) us h f = later h.0 (fails_right ts us h.1 f)
