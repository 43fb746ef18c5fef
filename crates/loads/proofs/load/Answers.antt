-- `load`: a refusal leaves everything; else all parts are written.
use Rattle.std.proofs.Common.{◌≡◌, ◌∙◌, sym, ap, refl, rules}
use Rattle.std.specs.Prelude.{Err}
use Rattle.guest.specs.Room.{memory_of}
use Rattle.guest.specs.declared.Memory.{Memory}
use Rattle.loads.specs.Formats.{answer_of}
use Rattle.loads.proofs.FormatsLaws.{load_refused, load_accepted, table_stands}
use Rattle.loads.proofs.load.Goals as goal

pub returns-in_err-kernel : goal.returns-in_err-kernel
returns-in_err-kernel c =
    let args = c.args in
    let same : c.from_residual.result ≡ Err c.in_err-kernel.field-0.0 = search rules in
    rw same
    (load_refused args.image.now (memory_of args.guest.now args.map) args.options args.guest.now
    (sym c.in_err-kernel.was ∙ c.plan.ensures ∙ ap (λ (m : Memory). answer_of args.image.now m args.options) c.of.ensures) refl)

pub copy_all-requires : goal.copy_all-requires
copy_all-requires c =
    let args = c.args in
    table_stands args.image.now (memory_of args.guest.now args.map) args.options
    (sym c.in_ok-kernel.was ∙ c.plan.ensures ∙ ap (λ (m : Memory). answer_of args.image.now m args.options) c.of.ensures) refl

pub returns : goal.returns
returns c =
    let args = c.args in
    load_accepted args.image.now (memory_of args.guest.now args.map) args.options
    (sym c.in_ok-kernel.was ∙ c.plan.ensures ∙ ap (λ (m : Memory). answer_of args.image.now m args.options) c.of.ensures) refl c.copy_all.ensures
