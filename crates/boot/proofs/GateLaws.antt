-- Laws of rows of checks, one after another, of which each ends with `?`.
use Rattle.std.specs.Prelude.{Ok, Err}
use Prim.Native.Nat.{ℕ}
use mathlib.Core.Path.{◌≡◌, sym, ◌∙◌, refl, ap}
use mathlib.Core.Bool.{Bool, true, false}
use mathlib.Core.List.{List, ◌++◌}
use native.Mathlib.Omega.{arith}
use Rattle.answers.specs.Pick.{pick}
use Rattle.answers.specs.Tests.{Test, asked, asked_all, Check, pass}
use Rattle.answers.specs.declared.Refusal.{Refusal}
use Rattle.answers.proofs.TestsLaws.{shut_stays, asked_append}

-- a row, and the rows after it: if it passes, they say what is answered; if it refuses, so do all
module _ (ts us : List Test) {r : Check} (is : r ≡ asked_all pass ts) where
  row_first : asked_all pass (ts ++ us) ≡ asked_all r us
  row_first = asked_append pass ts us ∙ ap (λ (g : Check). asked_all g us) (sym is)

  pub goes : r ≡ pass → asked_all pass (ts ++ us) ≡ asked_all pass us
  goes e = row_first ∙ ap (λ (g : Check). asked_all g us) e

  pub stops : {refusal : Refusal} → r ≡ Err refusal → asked_all pass (ts ++ us) ≡ Err refusal
  stops {refusal} e = row_first ∙ ap (λ (g : Check). asked_all g us) e ∙ shut_stays us refusal

-- a check that was passed holds
pub passed : (g : Check) (b : Bool) (refusal : Refusal) → asked g b refusal ≡ pass → b ≡ true
unfolding asked pick
passed (Ok u) true refusal e = refl
passed (Ok u) false refusal e = let z : ◌≡◌ {A = ℕ} 0 1 = cc in absurd (omega arith)
passed (Err r) b refusal e = let z : ◌≡◌ {A = ℕ} 0 1 = cc in absurd (omega arith)
