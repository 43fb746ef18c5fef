-- `writing::same_whole`: texts of different sizes differ; else the bytes before i are the same, so the rest decides.
use Rattle.std.proofs.Common.{◌-◌, ◌^◌, ◌∙◌, Bool, ◌&&◌, ap, sym, arith}
use Rattle.cmdline.specs.Writing.{whole_line, same_bytes}
use Rattle.cmdline.proofs.WritingLaws.{slices_same, same_split, sizes_differ, size_whole, same_end, same_on, same_stop}
use Rattle.cmdline.proofs.writing.same_whole.Goals as goal
use Rattle.cmdline.proofs.writing.same_whole.Goals.{then-eq, else-eq}

pub returns-then-init-init2 : goal.returns-then-init-init2
returns-then-init-init2 c =
    let args = c.args in
    let inits = same_bytes args.init.now args.init2.now in
    let boots = sym (slices_same args.boot.now args.boot2.now) ∙ sym c.eq.ensures in
    let whole = same_split args.boot.now args.init.now args.boot2.now args.init2.now c.if-boot-boot2.true c.if-init-init2.true in
    elim c.if-eq.branch [
      | then-eq w ↦
          w.result-is ∙ w.eq-then-eq.ensures ∙ slices_same args.init.now args.init2.now ∙ sym (ap (λ (r : Bool). r && inits) (boots ∙ w.if-eq.true)) ∙ whole
      | else-eq w ↦ w.result-is ∙ w.if-eq.false ∙ sym (ap (λ (r : Bool). r && inits) (boots ∙ w.if-eq.false)) ∙ whole
    ]

pub returns-then-n-size : goal.returns-then-n-size
returns-then-n-size c =
    let args = c.args in
    sizes_differ args.boot.now args.init.now args.boot2.now args.init2.now (2 ^ 64 - 1) c.size-n.ensures c.size.ensures c.if-n-size.true

pub overflow_sub-i-end : goal.overflow_sub-i-end
overflow_sub-i-end c =
    let args = c.args in
    let long = size_whole args.boot.now args.init.now c.requires.0 c.requires.1 c.size-n.ensures in
    omega arith

pub byte_at-requires : goal.byte_at-requires
byte_at-requires c =
    let args = c.args in
    let long = size_whole args.boot.now args.init.now c.requires.0 c.requires.1 c.size-n.ensures in
    omega arith

pub byte_at-requires-in-loop-i : goal.byte_at-requires-in-loop-i
byte_at-requires-in-loop-i c =
    let args = c.args in
    let long = size_whole args.boot2.now args.init2.now c.requires.2 c.requires.3 (c.if-n-size.false ∙ c.size.ensures) in
    omega arith

pub returns-then-byte_at : goal.returns-then-byte_at
returns-then-byte_at c =
    let args = c.args in
    let turn = c.loop-i in
    let long = size_whole args.boot.now args.init.now c.requires.0 c.requires.1 c.size-n.ensures in
    let long2 = size_whole args.boot2.now args.init2.now c.requires.2 c.requires.3 (c.if-n-size.false ∙ c.size.ensures) in
    sym
    (turn.invariant
    ∙ same_stop (whole_line args.boot.now args.init.now) (whole_line args.boot2.now args.init2.now) turn.i (omega arith) (omega arith)
    (λ e. c.if-byte_at.true (c.byte_at.ensures ∙ e ∙ sym c.byte_at-in-loop-i.ensures)))

pub loop-i-preserved : goal.loop-i-preserved
loop-i-preserved c =
    let args = c.args in
    let turn = c.loop-i in
    let long = size_whole args.boot.now args.init.now c.requires.0 c.requires.1 c.size-n.ensures in
    let long2 = size_whole args.boot2.now args.init2.now c.requires.2 c.requires.3 (c.if-n-size.false ∙ c.size.ensures) in
    turn.invariant
    ∙ same_on (whole_line args.boot.now args.init.now) (whole_line args.boot2.now args.init2.now) turn.i (omega arith) (omega arith)
    (sym c.byte_at.ensures ∙ c.if-byte_at.false ∙ c.byte_at-in-loop-i.ensures)

pub returns : goal.returns
returns c =
    let args = c.args in
    let end = c.loop-i in
    let long = size_whole args.boot.now args.init.now c.requires.0 c.requires.1 c.size-n.ensures in
    let long2 = size_whole args.boot2.now args.init2.now c.requires.2 c.requires.3 (c.if-n-size.false ∙ c.size.ensures) in
    sym (end.invariant ∙ same_end (whole_line args.boot.now args.init.now) (whole_line args.boot2.now args.init2.now) end.i (omega arith) (omega arith))
