-- Laws of a page that is read.
use Rattle.std.specs.Prelude.{Ok, is_ok}
use Prim.Native.Nat.{ℕ, ◌*◌, ◌≤◌, min}
use mathlib.Core.Path.{◌≡◌, sym, ap, ◌∙◌}
use mathlib.Core.List.{List, ◌++◌}
use native.Mathlib.Omega.{arith}
use native.Mathlib.Nat.{zero-add}
use lib.ListN.{length, take, drop, length-take}
use lib.Seq.{sets, sets-eq}
use Rattle.answers.specs.Pick.{pick}
use Rattle.answers.specs.Tests.{asked_all, Check, pass}
use Rattle.fields.specs.Rows.{field_width, rows_numbers}
use Rattle.fields.proofs.RowsLaws.{numbers_count}
use Rattle.boot_page.specs.declared.Page.{Page}
use Rattle.boot_page.specs.Places.{rows_at}
use Rattle.boot_page.specs.Map.{row_widths, count_in, rows_in}
use Rattle.boot_page.specs.Reading.{read_tests, fields_in, read_by, Reads}

-- the rows, put into the first n numbers of the list
pub rows_read : (page list : List ℕ) {n k : ℕ} {ys : List ℕ} → k ≡ count_in page → n ≡ min (k * 3) (length list)
    → ys ≡ rows_numbers (field_width row_widths) (length (take n list)) page rows_at 0
    → ys ++ drop n list ≡ sets list 0 (rows_in page (length list))
rows_read page list {n} {k} ek en ey =
    let numbers = rows_numbers (field_width row_widths) n page rows_at 0 in
    let as_many : length (take n list) ≡ n = simp length-take (omega arith) in
    let count = numbers_count (field_width row_widths) n page rows_at 0 in
    rw (ey, as_many)
    (ap (λ (j : ℕ). numbers ++ drop j list) (sym count)
    ∙ sym (at_front numbers list (omega arith))
    ∙ ap (λ (j : ℕ). sets list 0 (rows_numbers (field_width row_widths) j page rows_at 0)) (en ∙ ap (λ (j : ℕ). min (j * 3) (length list)) ek))
  where
    at_front : (vs list : List ℕ) → length vs ≤ length list → sets list 0 vs ≡ vs ++ drop (length vs) list
    at_front vs list h = sets-eq vs list 0 (omega arith) ∙ ap (λ (j : ℕ). vs ++ drop j list) (zero-add (length vs))

module _ (page before : List ℕ) where
  -- tests that pass read the page
  pub reads_open : {gate : Check} {found : Page} {after : List ℕ} → gate ≡ asked_all pass (read_tests page) → gate ≡ pass → found ≡ fields_in page
      → after ≡ sets before 0 (rows_in page (length before)) → Reads page before (Ok found) after
  unfolding read_by pick
  reads_open asked is er ea =
      let opens = sym asked ∙ is in
      record {
        answer = ap Ok er ∙ ap (λ g. read_by g page) (sym opens);
        rows = ea ∙ ap (λ g. pick (is_ok g) (sets before 0 (rows_in page (length before))) before) (sym opens);
      }
