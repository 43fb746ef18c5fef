-- `load_texts`: by the plan's answer; where it loads, the line is stored in the part of memory at its address.
use Rattle.std.proofs.Common.{rules, ◌≡◌, ◌∙◌, ap}
use Rattle.std.specs.Prelude.{Err}
use Rattle.cmdline.specs.Writing.{bare}
use Rattle.guest.proofs.PartLaws.{part_clipped}
use Rattle.guest.specs.declared.Memory.{Memory}
use Rattle.loader.specs.Lines.{line_bytes, plan_of}
use Rattle.loader.proofs.LinesLaws.{refused_loads, written_loads}
use Rattle.loader.proofs.load_texts.Goals as goal

pub returns-in_err-plan_texts : goal.returns-in_err-plan_texts
returns-in_err-plan_texts c =
    let args = c.args in
    let same : c.from_residual.result ≡ Err c.in_err-plan_texts.field-0.0 = search rules in
    rw same (refused_loads (bare args.boot.now args.init.now) args.guest_addr.0 args.map args.guest.now (c.plan_texts.ensures ∙ ap (λ (m : Memory). (plan_of (bare args.boot.now args.init.now) m args.guest_addr.0).answer) c.of.ensures) c.in_err-plan_texts.was)

pub returns : goal.returns
returns c =
    let args = c.args in
    let t = bare args.boot.now args.init.now in
    written_loads t args.guest_addr.0 args.map args.guest.now (c.plan_texts.ensures ∙ ap (λ (m : Memory). (plan_of (bare args.boot.now args.init.now) m args.guest_addr.0).answer) c.of.ensures) c.in_ok-plan_texts.was
    (part_clipped args.guest_addr.0 args.guest.now (line_bytes t) c.min-at.ensures c.write.ensures.bytes)
