-- `kinds::are_zero_at`: the reserved numbers before i are 0, and p is the place of the i-th.
use mathlib.Core.Path.{refl, sym, ◌∙◌}
use native.Mathlib.Omega.{arith}
use native.Mathlib.Numerals.{add-one}
use Rattle.fields.specs.Rows.{field_width}
use Rattle.fields.proofs.EveryLaws.{every_none, every_next}
use Rattle.fields.proofs.RowsLaws.{width_small}
use Rattle.start_info.proofs.KindsLaws.{zero_at, standing, place_first, place_next, stand_told, stand_fails, stand_all}
use Rattle.start_info.proofs.kinds.are_zero_at.Goals as goal

pub loop-i-init : goal.loop-i-init
loop-i-init c =
    let args = c.args in
    let width = field_width args.widths.now in
    (place_first width args.n args.s.now args.at.0, every_none (zero_at (standing width args.n args.s.now args.at.0)) refl)

pub returns-then-not-is_zero : goal.returns-then-not-is_zero
returns-then-not-is_zero c =
    let args = c.args in
    let turn = c.loop-i in
    let width = field_width args.widths.now in
    let told =
    stand_told width args.n args.s.now args.at.0 turn.p turn.i c.loop-i-test.true (width_small args.widths.now turn.i) turn.invariant.0 c.field_width-width.ensures
    c.read_le.ensures.value c.is_zero.ensures in
    sym (stand_fails width args.n args.s.now args.at.0 turn.i c.loop-i-test.true (sym told ∙ c.if-not-is_zero.true))

pub loop-i-preserved : goal.loop-i-preserved
loop-i-preserved c =
    let args = c.args in
    let turn = c.loop-i in
    let width = field_width args.widths.now in
    let told =
    stand_told width args.n args.s.now args.at.0 turn.p turn.i c.loop-i-test.true (width_small args.widths.now turn.i) turn.invariant.0 c.field_width-width.ensures
    c.read_le.ensures.value c.is_zero.ensures in (
      rw add-one (place_next width args.n args.s.now args.at.0 turn.p turn.i turn.invariant.0 c.field_width-width.ensures c.sum_up_to-p.ensures),
      rw add-one (every_next (zero_at (standing width args.n args.s.now args.at.0)) turn.i turn.invariant.1 (sym told ∙ c.if-not-is_zero.false)),
    )

pub returns : goal.returns
returns c =
    let args = c.args in
    let last = c.loop-i in
    sym (stand_all (field_width args.widths.now) args.n args.s.now args.at.0 {i = last.i} (omega arith) last.invariant.1)
