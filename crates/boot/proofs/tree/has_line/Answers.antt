-- `tree::has_line`: the text lies in the tree, then its zero does, then the bytes.
use Rattle.std.proofs.Common.{rules, ◌∙◌, sym, arith}
use borrow.Author.Tests.{eqb-true, eqb-false}
use lib.ListN.{length}
use Rattle.fields.proofs.RangesLaws.{within_sum}
use Rattle.boot.proofs.TreeLaws.{no_zero, text_there, text_out, zero_out}
use Rattle.boot.proofs.tree.has_line.Goals as goal
use Rattle.boot.proofs.tree.has_line.Goals.{then-within, else-within, then-within-2, else-within-2}

pub overflow_add-at : goal.overflow_add-at
overflow_add-at c =
    let args = c.args in
    omega (arith, within_sum (length args.tree.now) args.at (length args.text.now) (sym c.within.ensures ∙ c.if-within.true))

pub returns-then-byte_at-eq0 : goal.returns-then-byte_at-eq0
returns-then-byte_at-eq0 c =
    let args = c.args in
    elim c.if-within-2.branch [
      | then-within-2 w ↦ elim c.if-within.branch [
        | then-within v ↦ text_there args.tree.now args.at args.text.now (sym c.within.ensures ∙ v.if-within.true)
            (sym v.within-then-within.ensures ∙ sym v.value-is ∙ w.if-within-2.true) w.byte_at.ensures
            (eqb-true w.byte_at.result 0 (sym w.value-is ∙ c.if-byte_at-eq0.true)) c.is_tag.ensures
        | else-within v ↦ absurd (search rules)
      ]
      | else-within-2 w ↦ absurd (search rules)
    ]

pub returns-else-byte_at-eq0 : goal.returns-else-byte_at-eq0
returns-else-byte_at-eq0 c =
    let args = c.args in
    c.if-byte_at-eq0.false ∙ elim c.if-within.branch [
      | then-within v ↦ elim c.if-within-2.branch [
        | then-within-2 w ↦ no_zero args.tree.now args.at args.text.now (sym c.within.ensures ∙ v.if-within.true)
            (sym v.within-then-within.ensures ∙ sym v.value-is ∙ w.if-within-2.true) w.byte_at.ensures
            (eqb-false w.byte_at.result 0 (sym w.value-is ∙ c.if-byte_at-eq0.false))
        | else-within-2 w ↦ zero_out args.tree.now args.at args.text.now (sym c.within.ensures ∙ v.if-within.true)
            (sym v.within-then-within.ensures ∙ sym v.value-is ∙ w.if-within-2.false)
      ]
      | else-within v ↦ text_out args.tree.now args.at args.text.now (sym c.within.ensures ∙ v.if-within.false)
    ]
