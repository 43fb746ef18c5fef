-- `Cmdline::new`: one test, and the empty line.
use Rattle.std.proofs.Common.{rules, ◌≡◌, ◌∙◌, sym, ap}
use Rattle.std.specs.Prelude.{Err}
use Rattle.answers.specs.Tests.{pass, asked}
use Rattle.answers.specs.declared.Refusal.TheVariants as refusal
use Rattle.cmdline.specs.Making.{new}
use Rattle.cmdline.proofs.MakingLaws.{made_not, made_all}
use Rattle.cmdline.proofs.Cmdline.new.Goals as goal

pub returns-in_err-require : goal.returns-in_err-require
unfolding new
returns-in_err-require c =
    let same : c.from_residual.result ≡ Err c.in_err-require.field-0.0 = search rules in
    same ∙ made_not (new c.args.capacity) (ap (λ b. asked pass b refusal.InvalidCapacity) (sym c.is_capacity.ensures) ∙ sym c.require.ensures ∙ c.in_err-require.was)

pub returns : goal.returns
unfolding new
returns c =
    made_all (new c.args.capacity)
    (ap (λ b. asked pass b refusal.InvalidCapacity) (sym c.is_capacity.ensures) ∙ sym c.require.ensures ∙ c.in_ok-require.was) c.blank.ensures
