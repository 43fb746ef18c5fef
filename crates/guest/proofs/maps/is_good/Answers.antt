-- `maps::is_good`: what is left of the ranges decides as the whole does.
use Rattle.std.proofs.Common.{suc, ◌+◌, ◌-◌, sym, ◌∙◌, ap, arith}
use native.Mathlib.Nat.{sub-zero}
use Rattle.answers.proofs.BoolLaws.{and_failed, and_held}
use Rattle.guest.specs.Maps.{floor_of, good_range, good_ranges, ranges_from}
use Rattle.guest.specs.declared.Extent.{Extent}
use Rattle.guest.proofs.MapsLaws.{good_next, good_end, good_means, too_many, not_too_many}
use Rattle.guest.proofs.maps.is_good.Goals as goal

pub returns-then-map : goal.returns-then-map
returns-then-map c = sym (too_many c.args.len c.args.map.now c.if-map.true)

pub loop-i-init : goal.loop-i-init
unfolding floor_of
loop-i-init c = rw sub-zero

pub returns-then-not-is_good_range : goal.returns-then-not-is_good_range
returns-then-not-is_good_range c =
    let args = c.args in
    let turn = c.loop-i in
    let map = args.map.now in
    let floor = floor_of turn.end in
    let tested = c.is_good_range.ensures ∙ ap (λ (r : Extent). good_range args.len floor r.at.0 r.size) c.range-range.ensures in
    let next = good_next map.starts map.sizes turn.i (c.len-i-end.result - (turn.i + 1)) (turn.i + 1) args.len floor (omega arith) (omega arith) tested in
    sym (not_too_many args.len map c.if-map.false c.len-i-end.ensures ∙ sym turn.invariant ∙ and_failed _ next c.if-not-is_good_range.true)

pub overflow_add-end : goal.overflow_add-end
overflow_add-end c = let right = good_means _ _ _ _ (sym c.is_good_range.ensures ∙ c.if-not-is_good_range.false) in omega arith

pub loop-i-preserved : goal.loop-i-preserved
unfolding floor_of
loop-i-preserved c =
    let args = c.args in
    let turn = c.loop-i in
    let map = args.map.now in
    let floor = floor_of turn.end in
    let tested = c.is_good_range.ensures ∙ ap (λ (r : Extent). good_range args.len floor r.at.0 r.size) c.range-range.ensures in
    let left = c.len-i-end.result - (turn.i + 1) in
    let next = good_next map.starts map.sizes turn.i left (turn.i + 1) args.len floor (omega arith) (omega arith) tested in
    ap (λ (r : Extent). good_ranges args.len (suc (r.at.0 + r.size)) (ranges_from left map.starts map.sizes (turn.i + 1))) c.range-range.ensures
    ∙ sym (and_held next c.if-not-is_good_range.false)
    ∙ turn.invariant

pub returns : goal.returns
returns c =
    let args = c.args in
    let last = c.loop-i in
    sym (not_too_many args.len args.map.now c.if-map.false c.len-i-end.ensures ∙ sym last.invariant
    ∙ good_end args.map.now.starts args.map.now.sizes last.i args.len (floor_of last.end) (omega arith))
