-- `rows::field_width`: without widths each is 0.
use Rattle.std.proofs.Common.{ℕ, ◌%◌, ◌≤◌, min, length, sym, ap, arith}
use lib.ListN.{get_or-eq_default}
use Rattle.fields.specs.Rows.{field_width}
use Rattle.fields.proofs.rows.field_width.Goals as goal

pub returns-then-is_empty : goal.returns-then-is_empty
unfolding field_width
returns-then-is_empty c =
    let args = c.args in
    let none : length args.widths.now ≤ args.i % length args.widths.now = grind arith in
    sym (ap (λ (k : ℕ). min k 8) (get_or-eq_default args.widths.now 0 none))

pub returns : goal.returns
unfolding field_width
returns c = c.bytes_of.ensures
