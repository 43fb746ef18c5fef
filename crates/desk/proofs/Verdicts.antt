-- The one refusal of a job, and that the table of a job that passes the tests lies in it.
use Prim.Native.Nat.{ℕ, ◌+◌, ◌*◌, ◌≤◌}
use mathlib.Core.Path.{◌≡◌, sym, ◌∙◌}
use mathlib.Core.Bool.{true, ◌&&◌}
use mathlib.Core.Logic.{◌⊎◌, inl, inr}
use mathlib.Core.List.{List}
use native.Mathlib.Omega.{arith}
use lib.Dec.{eqb}
use lib.ListN.{length}
use borrow.Author.Tests.{eqb-true}
use Rattle.answers.specs.Tests.{AllHold, FirstFails, here, later}
use Rattle.answers.specs.declared.Refusal.{Refusal}
use Rattle.answers.specs.declared.Refusal.TheVariants.{BadJob}
use Rattle.answers.proofs.BoolLaws.{both_held, one_held}
use Rattle.desk.specs.declared.table.Row.{Row}
use Rattle.desk.specs.Table.{count_of, count_good, row_of, first_row, second_row, one_placed, two_placed, places_good, job_tests}
use Rattle.desk.proofs.TableLaws.{places_one, places_two}

-- whichever rule is broken, the refusal is the same
pub only_bad_job : {refusal : Refusal} (job : List ℕ) → FirstFails refusal (job_tests job) → refusal ≡ BadJob
only_bad_job {refusal = refusal} job (later t (later t' (later t'' (later _ x15)))) = elim x15 [ ]
only_bad_job job (here f e) = sym e
only_bad_job job (later t (here f e)) = sym e
only_bad_job job (later t (later t' (here f e))) = sym e
only_bad_job job (later t (later t' (later t'' (here f e)))) = sym e

-- ---- the table of a good job lies in it

one_long : (a : Row) (len : ℕ) → one_placed a len ≡ true → 16 ≤ len
unfolding one_placed
one_long a len e = let size = eqb-true (16 + a.size) len (both_held (eqb a.place.0 16) (eqb (16 + a.size) len) e).1 in omega arith

two_long : (a b : Row) (len : ℕ) → two_placed a b len ≡ true → 28 ≤ len
unfolding two_placed
two_long a b len e =
    let end = eqb (28 + a.size + b.size) len in
    let rest = (both_held (eqb a.place.0 28) (eqb b.place.0 (28 + a.size) && end) e).1 in
    let size = eqb-true (28 + a.size + b.size) len (both_held (eqb b.place.0 (28 + a.size)) end rest).1 in
    omega arith

pub table_inside : (job : List ℕ) → AllHold (job_tests job) → 4 + 12 * count_of job ≤ length job
unfolding count_good
table_inside job h = by (one_held (eqb (count_of job) 1) (eqb (count_of job) 2) h.1.0)
  where
    places : places_good (count_of job) (row_of job first_row) (row_of job second_row) (length job) ≡ true
    places = h.1.1.1.0

    by : (eqb (count_of job) 1 ≡ true) ⊎ (eqb (count_of job) 2 ≡ true) → 4 + 12 * count_of job ≤ length job
    by (inl e) =
        let one = eqb-true (count_of job) 1 e in
        let long = one_long (row_of job first_row) (length job) (sym (places_one (row_of job first_row) (row_of job second_row) (length job) (count_of job) one) ∙ places) in
        omega arith
    by (inr e) =
        let two = eqb-true (count_of job) 2 e in
        let other : count_of job ≡ 1 → ⊥ = λ one. let both : ◌≡◌ {A = ℕ} 1 2 = sym one ∙ two in absurd (omega arith) in
        let long = two_long (row_of job first_row) (row_of job second_row) (length job) (sym (places_two (row_of job first_row) (row_of job second_row) (length job) (count_of job) other) ∙ places) in
        omega arith
