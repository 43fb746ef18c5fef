-- `lines::put`: the line is read from its text; one that is accepted holds what the plan says, and is loaded.
use Rattle.std.proofs.Common.{rules, ◌≡◌}
use Rattle.std.specs.Prelude.{Err}
use Rattle.desk.proofs.WorkLaws.{line_refused, line_accepted}
use Rattle.desk.proofs.lines.put.Goals as goal

pub returns-in_err-line : goal.returns-in_err-line
returns-in_err-line c =
    let args = c.args in
    let same : c.from_residual.result ≡ Err c.in_err-line.field-0.0 = search rules in
    rw same (line_refused args.text.now args.guest.now args.at.0 c.try_from.ensures c.in_err-line.was)

pub returns : goal.returns
returns c =
    let args = c.args in
    line_accepted args.text.now args.guest.now args.at.0 c.try_from.ensures c.in_ok-line.was c.whole.ensures
    c.load_cmdline.ensures
