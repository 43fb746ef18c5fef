-- The tests of a job, which the code asks in its own order, hold exactly where the job is good, sentence by sentence
-- (`GoodJob`); a good job prints what its bodies give (`good_prints`).
use Rattle.std.specs.Prelude.{Err}
use Rattle.guest.specs.Answers.{Answer}
use Prim.Native.Nat.{ℕ, ◌+◌, ◌*◌, ◌≤◌}
use mathlib.Core.Path.{◌≡◌, sym, ◌∙◌, refl, ap, subst, subst⁻¹}
use mathlib.Core.Bool.{Bool, true, false, ◌&&◌, ◌||◌}
use mathlib.Core.Logic.{inl, inr, ⊎_elim}
use mathlib.Core.List.{List, [], ◌∷◌}
use native.Mathlib.Omega.{arith}
use lib.Dec.{eqb}
use lib.ListN.{length}
use borrow.Author.Tests.{eqb-true, eq-eqb, ne_eqb, leb-true, le-leb}
use Rattle.answers.specs.Pick.{pick}
use Rattle.answers.specs.Tests.{AllHold}
use Rattle.answers.proofs.BoolLaws.{both_held, hold_both, one_held, left_holds, right_holds}
use Rattle.guest.specs.Loading.{Plan}
use Rattle.guest.specs.Room.{whole_of}
use Rattle.guest.proofs.LoadingLaws.{all_planned}
use Rattle.desk.specs.Table.{image_row, most, count_of, row_of, first_row, second_row, count_good, is_image, kinds_good, one_placed, two_placed, places_good, job_tests}
use Rattle.desk.specs.GoodJob.{rows_from, rows_of, table_size, is_line, is_kind, count_with, Bodies, no_rest, no_gap, GoodJob}
use Rattle.desk.specs.Work.{image_format, bodies_plan, job_plan}
use Rattle.desk.specs.Printing.{answer_text, printed}
use Rattle.desk.specs.declared.table.Row.{Row}
use Rattle.desk.proofs.TableLaws.{kinds_one, places_one, places_two}
use Rattle.desk.proofs.Verdicts.{table_inside}

-- ---- kinds, by what each row is: an image, a line, or neither

-- an image is no line
image_no_line : (kind : ℕ) → is_image kind ≡ true → is_line kind ≡ false
unfolding is_image is_line
image_no_line kind e =
    ne_eqb kind 3
    (λ line. ⊎_elim (λ one. let n = eqb-true kind 1 one in absurd (omega arith)) (λ two. let n = eqb-true kind 2 two in absurd (omega arith)) (one_held (eqb kind 1) (eqb kind 2) e))

one : Bool → ℕ
one b = pick b 1 0

-- two rows, each an image (i), a line (l) or neither
record TwoKinds (i l i' l' : Bool) : Type 0 where
  known : one (i || l) + (one (i' || l') + 0) ≡ 2
  one_image : one i + (one i' + 0) ≡ 1
  one_line : one l + (one l' + 0) ≤ 1

two_kinds : (i l i' l' : Bool) → (i ≡ true → l ≡ false) → (i' ≡ true → l' ≡ false) → pick i l' (pick l i' false) ≡ true → TwoKinds i l i' l'
unfolding one pick
two_kinds true false true l' d d' e = let x = d' refl in let w : ◌≡◌ {A = ℕ} 0 1 = cc in absurd (omega arith)
two_kinds true false false true d d' e = record { known = refl; one_image = refl; one_line = omega arith }
two_kinds true false false false d d' e = let w : ◌≡◌ {A = ℕ} 0 1 = cc in absurd (omega arith)
two_kinds true true i' l' d d' e = let x = d refl in let w : ◌≡◌ {A = ℕ} 0 1 = cc in absurd (omega arith)
two_kinds false true true false d d' e = record { known = refl; one_image = refl; one_line = omega arith }
two_kinds false true true true d d' e = let x = d' refl in let w : ◌≡◌ {A = ℕ} 0 1 = cc in absurd (omega arith)
two_kinds false true false l' d d' e = let w : ◌≡◌ {A = ℕ} 0 1 = cc in absurd (omega arith)
two_kinds false false i' l' d d' e = let w : ◌≡◌ {A = ℕ} 0 1 = cc in absurd (omega arith)

kinds_two : (i l i' l' : Bool) → TwoKinds i l i' l' → pick i l' (pick l i' false) ≡ true
unfolding one pick
kinds_two true l i' true k = refl
kinds_two true l true false k = let n = k.one_image in absurd (omega arith)
kinds_two true l false false k = let n = k.known in absurd (omega arith)
kinds_two false true true l' k = refl
kinds_two false true false l' k = let n = k.one_image in absurd (omega arith)
kinds_two false false true true k = let n = k.known in absurd (omega arith)
kinds_two false false true false k = let n = k.known in absurd (omega arith)
kinds_two false false false l' k = let n = k.one_image in absurd (omega arith)

-- ---- the counts over one row and over two
count_one : (test : ℕ → Bool) (a : Row) → count_with test (a ∷ []) ≡ one (test a.kind) + 0
unfolding count_with one
count_one test a = refl

count_two : (test : ℕ → Bool) (a b : Row) → count_with test (a ∷ b ∷ []) ≡ one (test a.kind) + (one (test b.kind) + 0)
unfolding count_with one
count_two test a b = refl

one_true : {b : Bool} → b ≡ true → one b ≡ 1
unfolding one pick
one_true e = rw e

one_false : {b : Bool} → b ≡ false → one b ≡ 0
unfolding one pick
one_false e = rw e

true_one : (b : Bool) → one b ≡ 1 → b ≡ true
unfolding one pick
true_one true e = refl
true_one false e = absurd (omega arith)

image_kind : (kind : ℕ) → is_image kind ≡ true → is_kind kind ≡ true
unfolding is_kind
image_kind kind e = left_holds (is_image kind) (is_line kind) e

-- ---- bodies, one after the other

body_end : {end at : ℕ} → Bodies end at [] → at ≡ end
body_end no_rest = refl

body_next : {end at : ℕ} {r : Row} {rs : List Row} → Bodies end at (r ∷ rs) → (r.place.0 ≡ at) × Bodies end (at + r.size) rs
body_next (no_gap p rest) = (p, rest)

-- ---- the rows of a job

module _ (job : List ℕ) where
  abbrev first : Row
  first = row_of job first_row

  abbrev second : Row
  second = row_of job second_row

  rows_one : count_of job ≡ 1 → rows_of job ≡ first ∷ []
  unfolding rows_from
  rows_one e = rw e

  rows_two : count_of job ≡ 2 → rows_of job ≡ first ∷ second ∷ []
  unfolding rows_from
  rows_two e = rw e

  not_one : count_of job ≡ 2 → count_of job ≡ 1 → ⊥
  not_one two f = let w : ◌≡◌ {A = ℕ} 1 2 = sym f ∙ two in absurd (omega arith)

  -- ---- the tests say that a job is good

  module _ (hold : AllHold (job_tests job)) where
    module _ (e : count_of job ≡ 1) where
      is_image_lem : is_image first.kind ≡ true
      is_image_lem = sym (kinds_one (count_of job) first.kind second.kind e) ∙ hold.1.1.0

      placed : (first.place.0 ≡ 16) × (16 + first.size ≡ length job)
      unfolding one_placed
      placed =
          let both = both_held (eqb first.place.0 16) (eqb (16 + first.size) (length job)) (sym (places_one first second (length job) (count_of job) e) ∙ hold.1.1.1.0) in
          (eqb-true first.place.0 16 both.0, eqb-true (16 + first.size) (length job) both.1)

      one_good : GoodJob job
      one_good =
          record {
            short = leb-true (length job) most hold.0;
            rows = inl e;
            in_job = table_inside job hold;
            known = rw (rows_one e) (count_one is_kind first ∙ ap (λ n. n + 0) (one_true (image_kind first.kind is_image_lem)));
            one_image = rw (rows_one e) (count_one is_image first ∙ ap (λ n. n + 0) (one_true is_image_lem));
            one_line = rw (rows_one e) (let n = count_one is_line first ∙ ap (λ k. k + 0) (one_false (image_no_line first.kind is_image_lem)) in omega arith);
            bodies =
                subst⁻¹ (λ rs. Bodies (length job) (table_size job) rs) (rows_one e)
                (subst⁻¹ (λ n. Bodies (length job) (4 + 12 * n) (first ∷ [])) e (no_gap placed.0 (subst (λ n. Bodies n (16 + first.size) []) placed.1 no_rest)));
          }

    module _ (e : count_of job ≡ 2) where
      kinds : TwoKinds (is_image first.kind) (is_line first.kind) (is_image second.kind) (is_line second.kind)
      unfolding kinds_good is_line pick
      kinds =
          two_kinds (is_image first.kind) (is_line first.kind) (is_image second.kind) (is_line second.kind) (image_no_line first.kind) (image_no_line second.kind)
          (sym (ap (λ t. pick t (is_image first.kind) (pick (is_image first.kind) (eqb second.kind 3) (pick (eqb first.kind 3) (is_image second.kind) false))) (ne_eqb (count_of job) 1 (not_one e))) ∙ hold.1.1.0)

      both_placed : (first.place.0 ≡ 28) × ((second.place.0 ≡ 28 + first.size) × (28 + first.size + second.size ≡ length job))
      unfolding two_placed
      both_placed =
          let end = eqb (28 + first.size + second.size) (length job) in
          let all = both_held (eqb first.place.0 28) (eqb second.place.0 (28 + first.size) && end) (sym (places_two first second (length job) (count_of job) (not_one e)) ∙ hold.1.1.1.0) in
          let rest = both_held (eqb second.place.0 (28 + first.size)) end all.1 in
          (eqb-true first.place.0 28 all.0, (eqb-true second.place.0 (28 + first.size) rest.0, eqb-true (28 + first.size + second.size) (length job) rest.1))

      two_good : GoodJob job
      unfolding is_kind
      two_good =
          record {
            short = leb-true (length job) most hold.0;
            rows = inr e;
            in_job = table_inside job hold;
            known = rw (rows_two e) (count_two is_kind first second ∙ kinds.known);
            one_image = rw (rows_two e) (count_two is_image first second ∙ kinds.one_image);
            one_line = rw (rows_two e) (let n = count_two is_line first second in let k = kinds.one_line in omega arith);
            bodies =
                subst⁻¹ (λ rs. Bodies (length job) (table_size job) rs) (rows_two e)
                (subst⁻¹ (λ n. Bodies (length job) (4 + 12 * n) (first ∷ second ∷ [])) e
                (no_gap both_placed.0 (no_gap both_placed.1.0 (subst (λ n. Bodies n (28 + first.size + second.size) []) both_placed.1.1 no_rest))));
          }

  -- ---- a good job passes the tests

  module _ (good : GoodJob job) where
    rows_bodies : (n : ℕ) {rs : List Row} → count_of job ≡ n → rows_of job ≡ rs → Bodies (length job) (4 + 12 * n) rs
    rows_bodies n e er = subst (λ rs. Bodies (length job) (4 + 12 * n) rs) er (subst (λ n. Bodies (length job) (4 + 12 * n) (rows_of job)) e good.bodies)

    module _ (e : count_of job ≡ 1) where
      one_kind : kinds_good (count_of job) first.kind second.kind ≡ true
      one_kind =
          kinds_one (count_of job) first.kind second.kind e
          ∙ true_one (is_image first.kind) (let n = sym (count_one is_image first) ∙ sym (ap (count_with is_image) (rows_one e)) ∙ good.one_image in omega arith)

      one_place : places_good (count_of job) first second (length job) ≡ true
      unfolding one_placed
      one_place =
          let body = body_next (rows_bodies 1 e (rows_one e)) in
          places_one first second (length job) (count_of job) e
          ∙ hold_both (eqb first.place.0 16) (eqb (16 + first.size) (length job)) (eq-eqb first.place.0 16 body.0) (eq-eqb (16 + first.size) (length job) (body_end body.1))

    module _ (e : count_of job ≡ 2) where
      two_counts : (test : ℕ → Bool) → count_with test (rows_of job) ≡ one (test first.kind) + (one (test second.kind) + 0)
      two_counts test = ap (count_with test) (rows_two e) ∙ count_two test first second

      two_kind : kinds_good (count_of job) first.kind second.kind ≡ true
      unfolding kinds_good is_line is_kind pick
      two_kind =
          ap (λ t. pick t (is_image first.kind) (pick (is_image first.kind) (eqb second.kind 3) (pick (eqb first.kind 3) (is_image second.kind) false))) (ne_eqb (count_of job) 1 (not_one e))
          ∙ kinds_two (is_image first.kind) (is_line first.kind) (is_image second.kind) (is_line second.kind)
          (record {
            known = sym (two_counts is_kind) ∙ good.known ∙ ap (λ (rs : List Row). length rs) (rows_two e);
            one_image = sym (two_counts is_image) ∙ good.one_image;
            one_line = subst (λ n. n ≤ 1) (two_counts is_line) good.one_line;
          })

      two_place : places_good (count_of job) first second (length job) ≡ true
      unfolding two_placed
      two_place =
          let body = body_next (rows_bodies 2 e (rows_two e)) in
          let rest = body_next body.1 in
          places_two first second (length job) (count_of job) (not_one e)
          ∙ hold_both (eqb first.place.0 28) (eqb second.place.0 (28 + first.size) && eqb (28 + first.size + second.size) (length job)) (eq-eqb first.place.0 28 body.0)
          (hold_both (eqb second.place.0 (28 + first.size)) (eqb (28 + first.size + second.size) (length job)) (eq-eqb second.place.0 (28 + first.size) rest.0)
          (eq-eqb (28 + first.size + second.size) (length job) (body_end rest.1)))

pub tests_good : (job : List ℕ) → AllHold (job_tests job) → GoodJob job
unfolding count_good
tests_good job hold =
    ⊎_elim (λ e. one_good job hold (eqb-true (count_of job) 1 e)) (λ e. two_good job hold (eqb-true (count_of job) 2 e))
    (one_held (eqb (count_of job) 1) (eqb (count_of job) 2) hold.1.0)

pub good_tests : (job : List ℕ) → GoodJob job → AllHold (job_tests job)
unfolding count_good
good_tests job good =
    ⊎_elim
    (λ e. (le-leb (length job) most good.short, (left_holds (eqb (count_of job) 1) (eqb (count_of job) 2) (eq-eqb (count_of job) 1 e), (one_kind job good e, (one_place job good e, tt)))))
    (λ e. (le-leb (length job) most good.short, (right_holds (eqb (count_of job) 1) (eqb (count_of job) 2) (eq-eqb (count_of job) 2 e), (two_kind job good e, (two_place job good e, tt)))))
    good.rows

pub good_prints : (job : List ℕ) (size : ℕ) → GoodJob job → printed job size ≡ answer_text (image_format (image_row job).kind) (bodies_plan job (whole_of size)).answer
unfolding job_plan
good_prints job size good =
    ap (λ (p : Plan Answer). answer_text (image_format (image_row job).kind) p.answer) (all_planned Err (job_tests job) (bodies_plan job (whole_of size)) (good_tests job good))
