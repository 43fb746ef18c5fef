-- Tests in order, of which the first that fails refuses.
use Rattle.std.specs.Prelude.{◌≡◌, Bool, true, false, List, [], ◌∷◌, Result, Ok, Err}
use Rattle.answers.specs.Pick.{pick}
use Rattle.answers.specs.declared.Refusal.{Refusal}

-- a test, and what is answered where it fails
abbrev pub Test : Type 0
Test = Bool × Refusal

-- what tests answer: that none refused, or the refusal of the first that did
abbrev pub Check : Type 0
Check = Result (Unit {0}) Refusal

abbrev pub pass : Check
pass = Ok tt

-- one more test, if none before it refused
unfoldable pub asked : Check → Bool → Refusal → Check
asked (Ok _) ok refusal = pick ok pass (Err refusal)
asked (Err first) ok refusal = Err first

-- a row of tests, in order
abbrev pub asked_all : Check → List Test → Check
asked_all check [] = check
asked_all check (t ∷ ts) = asked_all (asked check t.0 t.1) ts

-- every test of the row holds
abbrev pub AllHold : List Test → Type 0
AllHold [] = Unit {0}
AllHold (t ∷ ts) = (t.0 ≡ true) × AllHold ts

-- the first test of the row that fails has this refusal
pub data FirstFails (refusal : Refusal) : List Test → Type 0 where
  here : {t : Test} {ts : List Test} → t.0 ≡ false → t.1 ≡ refusal → FirstFails refusal (t ∷ ts)
  later : {t : Test} {ts : List Test} → t.0 ≡ true → FirstFails refusal ts → FirstFails refusal (t ∷ ts)
