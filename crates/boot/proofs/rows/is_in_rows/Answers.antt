-- `rows::is_in_rows`: each row is looked at.
use Rattle.std.proofs.Common.{◌∙◌, sym, rules, refl, arith, length, ◌/◌, ℕ}
use Rattle.std.proofs.lemmas.Iterator.{YieldsList-from_range}
use Rattle.std.proofs.lemmas.Iterator.Search.{any_from_yields_List}
use Rattle.boot.specs.Rows.{in_row}
use Rattle.boot.proofs.RowsLaws.{any_rows, some_bytes}
use Rattle.boot.proofs.rows.is_in_rows.Goals as goal

pub returns-else-range-eq0 : goal.returns-else-range-eq0
returns-else-range-eq0 c =
    let args = c.args in
    let rows = args.rows.numbers.now in
    let width = args.rows.width in
    let k = length rows / width in
    let wide = args.rows.wide in
    any_from_yields_List (λ (i : ℕ). in_row width rows i args.range.at.0 args.range.size) _ _ _ c.any.ensures.ran
    (YieldsList-from_range 0 k k refl (omega arith)) (λ x b q k. search rules)
    ∙ any_rows width rows k 0 args.range.at.0 args.range.size
    ∙ sym (some_bytes width rows (λ none. absurd (omega arith)) args.range.at.0 args.range.size c.if-range-eq0.false)
