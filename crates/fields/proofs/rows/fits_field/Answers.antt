-- `rows::fits_field`: the width of a field is at most 8.
use Rattle.std.proofs.Common.{◌≡◌, ◌∙◌, ℕ, min, ap, arith}
use Rattle.fields.specs.Numbers.{fits}
use Rattle.fields.specs.Rows.{field_width}
use Rattle.fields.proofs.RowsLaws.{width_small}
use Rattle.fields.proofs.rows.fits_field.Goals as goal

pub returns : goal.returns
returns c =
    let small = width_small c.args.widths.now c.args.i in
    let same : min c.field_width.result 8 ≡ field_width c.args.widths.now c.args.i = omega (arith, c.field_width.ensures) in
    c.is_within.ensures ∙ ap (λ (k : ℕ). fits k c.args.v) same
