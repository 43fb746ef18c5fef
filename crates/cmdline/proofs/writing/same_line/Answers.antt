-- `writing::same_line`: the answers of the two texts, and whether the whole texts are the same.
use Rattle.std.proofs.Common.{◌∙◌, sym, refl, ap, take}
use Rattle.std.specs.Prelude.{is_err}
use Rattle.cmdline.specs.Limit.{limit}
use Rattle.cmdline.specs.Writing.{bare}
use Rattle.cmdline.proofs.WritingLaws.{taken_most}
use Rattle.cmdline.proofs.EqualLines.{unequal_answers, refused_answers, accepted_answers}
use Rattle.cmdline.proofs.writing.same_line.Goals as goal

pub returns-then-is_err : goal.returns-then-is_err
returns-then-is_err c =
    let args = c.args in
    let gate = rw (c.clipped-init.ensures, c.clipped-boot.ensures) at c.text_gate-first.ensures in
    let gate2 = rw (c.clipped-init2.ensures, c.clipped-boot2.ensures) at c.text_gate.ensures in
    let eq = rw (gate, gate2) at c.eq.ensures in
    c.if-is_err.true
    ∙ refused_answers _ _ refl refl refl refl refl (bare (take limit args.boot.now) (take limit args.init.now))
    (bare (take limit args.boot2.now) (take limit args.init2.now)) (sym eq ∙ c.if-eq.true) (ap is_err (sym gate) ∙ sym c.is_err.ensures.value ∙ c.if-is_err.true)

pub returns-else-is_err : goal.returns-else-is_err
returns-else-is_err c =
    let args = c.args in
    let gate = rw (c.clipped-init.ensures, c.clipped-boot.ensures) at c.text_gate-first.ensures in
    let gate2 = rw (c.clipped-init2.ensures, c.clipped-boot2.ensures) at c.text_gate.ensures in
    let eq = rw (gate, gate2) at c.eq.ensures in
    (rw (c.clipped-init.ensures, c.clipped-boot.ensures, c.clipped-init2.ensures, c.clipped-boot2.ensures) at c.same_whole.ensures)
    ∙ accepted_answers _ _ refl refl refl refl refl (bare (take limit args.boot.now) (take limit args.init.now))
    (bare (take limit args.boot2.now) (take limit args.init2.now)) (sym eq ∙ c.if-eq.true) (ap is_err (sym gate) ∙ sym c.is_err.ensures.value ∙ c.if-is_err.false)

pub returns-else-eq : goal.returns-else-eq
returns-else-eq c =
    let args = c.args in
    let gate = rw (c.clipped-init.ensures, c.clipped-boot.ensures) at c.text_gate-first.ensures in
    let gate2 = rw (c.clipped-init2.ensures, c.clipped-boot2.ensures) at c.text_gate.ensures in
    let eq = rw (gate, gate2) at c.eq.ensures in
    c.if-eq.false
    ∙ unequal_answers _ _ refl refl refl refl refl (bare (take limit args.boot.now) (take limit args.init.now))
    (bare (take limit args.boot2.now) (take limit args.init2.now)) (sym eq ∙ c.if-eq.false)

pub same_whole-requires : goal.same_whole-requires
same_whole-requires c =
    (taken_most _ c.clipped-boot.ensures, taken_most _ c.clipped-init.ensures, taken_most _ c.clipped-boot2.ensures, taken_most _ c.clipped-init2.ensures)
