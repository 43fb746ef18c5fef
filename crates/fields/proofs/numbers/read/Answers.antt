-- `numbers::read`: by either way the same number.
use Rattle.std.proofs.Common.{◌+◌, ◌-◌, sym, ◌∙◌, arith}
use Rattle.fields.proofs.NumbersLaws.{read_field}
use Rattle.fields.proofs.RangesLaws.{within_sum}
use Rattle.fields.proofs.numbers.read.Goals as goal

pub overflow_add-from : goal.overflow_add-from
overflow_add-from g c = let h = within_sum _ _ _ (sym c.within.ensures ∙ c.if-not-within.false) in omega (arith, h)

pub slice_bounds-copy_from_slice-end-2 : goal.slice_bounds-copy_from_slice-end-2
slice_bounds-copy_from_slice-end-2 g c = let h = within_sum _ _ _ (sym c.within.ensures ∙ c.if-not-within.false) in omega (arith, h)

pub returns : goal.returns
returns g c =
    let s = c.args.s.now in
    let at = c.args.at in
    read_field g.row.N (at + g.row.N - at) s _ at (omega arith) (omega arith) (within_sum _ _ _ (sym c.within.ensures ∙ c.if-not-within.false))
    (λ k. omega (arith, c.type_inv.s k)) c.copy_from_slice.ensures.after c.from_le_bytes.ensures
