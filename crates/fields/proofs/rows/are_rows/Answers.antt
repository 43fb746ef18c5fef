-- `rows::are_rows`: the numbers are whole rows, and each fits its field.
use Rattle.std.proofs.Common.{◌∙◌, ◌≡◌, ◌%◌, length, ℕ, rules, arith}
use Rattle.std.proofs.lemmas.Iterator.{YieldsList-from_slice}
use Rattle.std.proofs.lemmas.Iterator.Consumers.{YieldsList-from_enumerate}
use Rattle.std.proofs.lemmas.Iterator.Search.{all_from_yields_List}
use Rattle.fields.specs.Numbers.{fits}
use Rattle.fields.specs.Rows.{field_width}
use Rattle.fields.proofs.AreRowsLaws.{rows_part, rows_all}
use Rattle.fields.proofs.rows.are_rows.Goals as goal

pub returns-then-is_multiple_of : goal.returns-then-is_multiple_of
returns-then-is_multiple_of c =
    let args = c.args in
    let e : length args.numbers.now % length args.widths.now ≡ 0 = grind (arith, c.is_multiple_of.ensures) in
    all_from_yields_List (λ (p : ℕ × ℕ). fits (field_width args.widths.now p.0) p.1) _ _ _ c.all.ensures.ran
    (YieldsList-from_enumerate (YieldsList-from_slice args.numbers.now cc) cc) (λ x b q k. search rules)
    ∙ rows_all args.widths.now args.numbers.now e

pub returns-else-is_multiple_of : goal.returns-else-is_multiple_of
returns-else-is_multiple_of c =
    let args = c.args in
    let e : ¬ (length args.numbers.now % length args.widths.now ≡ 0) = grind (arith, c.is_multiple_of.ensures) in
    grind (arith, rows_part args.widths.now args.numbers.now e)
