-- `plan_texts`: the tests, as the definition has them.
use Rattle.std.proofs.Common.{rules, ◌≡◌, ◌∙◌, sym, ap, length, true, false}
use Rattle.std.specs.Prelude.{Ok, Err, is_ok}
use Rattle.answers.specs.Pick.{pick}
use Rattle.answers.specs.Tests.{asked}
use Rattle.answers.specs.declared.Refusal.TheVariants.{InvalidCommandLine, CommandLineOverflow}
use Rattle.cmdline.specs.Text.{size_of}
use Rattle.cmdline.specs.Writing.{bare, text_gate}
use Rattle.guest.specs.Room.{room}
use Rattle.loader.proofs.LinesLaws.{row_tests, answer_as}
use Rattle.loader.proofs.plan_texts.Goals as goal

pub returns-in_err-ask_memory : goal.returns-in_err-ask_memory
unfolding asked
returns-in_err-ask_memory c =
    let args = c.args in
    let same : c.from_residual.result ≡ Err c.in_err-ask_memory.field-0.0 = search rules in
    let text = is_ok (text_gate (bare args.boot.now args.init.now)) in
    let fits = room args.memory.now args.guest_addr.0 (size_of (length args.boot.now) (length args.init.now)) in
    same ∙ answer_as (bare args.boot.now args.init.now) args.memory.now args.guest_addr.0
    (ap (λ g. asked (asked g text InvalidCommandLine) fits CommandLineOverflow) (sym c.in_err-ask_memory.was ∙ c.ask_memory.ensures)
    ∙ row_tests args.boot.now args.init.now args.memory.now args.guest_addr.0)

pub returns-in_err-map_err : goal.returns-in_err-map_err
unfolding asked pick
returns-in_err-map_err c =
    let args = c.args in
    let t = bare args.boot.now args.init.now in
    let same : c.from_residual-in_err-map_err.result ≡ Err c.in_err-map_err.field-0.0 = search rules in
    let refusal : c.in_err-map_err.field-0.0 ≡ InvalidCommandLine = search rules in
    let fits = room args.memory.now args.guest_addr.0 (size_of (length args.boot.now) (length args.init.now)) in
    let first = sym c.in_ok-ask_memory.was ∙ c.ask_memory.ensures in
    let bad : is_ok (text_gate t) ≡ false = ap is_ok (sym c.text_gate.ensures) ∙ sym c.map_err.ensures.variant ∙ ap is_ok c.in_err-map_err.was in
    same ∙ ap Err refusal ∙ answer_as t args.memory.now args.guest_addr.0
    (ap (λ b. asked (asked (Ok tt) b InvalidCommandLine) fits CommandLineOverflow) (sym bad)
    ∙ ap (λ g. asked (asked g (is_ok (text_gate t)) InvalidCommandLine) fits CommandLineOverflow) first
    ∙ row_tests args.boot.now args.init.now args.memory.now args.guest_addr.0)

pub returns : goal.returns
unfolding asked pick
returns c =
    let args = c.args in
    let t = bare args.boot.now args.init.now in
    let fits = room args.memory.now args.guest_addr.0 (size_of (length args.boot.now) (length args.init.now)) in
    let first = sym c.in_ok-ask_memory.was ∙ c.ask_memory.ensures in
    let good : is_ok (text_gate t) ≡ true = ap is_ok (sym c.text_gate.ensures) ∙ sym c.map_err.ensures.variant ∙ ap is_ok c.in_ok-map_err.was in
    answer_as t args.memory.now args.guest_addr.0
    (c.require.ensures ∙ ap (λ b. asked (Ok tt) b CommandLineOverflow) c.line_has_room-has_room.ensures
    ∙ ap (λ b. asked (asked (Ok tt) b InvalidCommandLine) fits CommandLineOverflow) (sym good)
    ∙ ap (λ g. asked (asked g (is_ok (text_gate t)) InvalidCommandLine) fits CommandLineOverflow) first
    ∙ row_tests args.boot.now args.init.now args.memory.now args.guest_addr.0)
