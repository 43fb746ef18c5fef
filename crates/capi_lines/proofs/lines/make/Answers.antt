-- `lines::make`: zeros, then the capacity and the two texts; a refusal changes nothing.
use Rattle.std.proofs.Common.{rules, ◌≡◌, ◌∙◌, sym, length}
use Rattle.std.specs.Prelude.{Err}
use Rattle.cmdline.specs.Making.{size_tests}
use Rattle.capi_lines.proofs.LinesLaws.{unsized, sized, make_refused, make_all, new_line_lem}
use Rattle.capi_lines.proofs.lines.make.Goals as goal

pub returns-in_err-require : goal.returns-in_err-require
returns-in_err-require c =
    let args = c.args in
    let same : c.from_residual.result ≡ Err c.in_err-require.field-0.0 = search rules in
    rw same
    (make_refused args.bytes.now args.boot.now args.init.now args.capacity
    (unsized args.bytes.now (size_tests (length args.boot.now) (length args.init.now) args.capacity) (sym c.require.ensures ∙ c.in_err-require.was)))

pub returns-in_err-check : goal.returns-in_err-check
returns-in_err-check c =
    let args = c.args in
    let same : c.from_residual-in_err-check.result ≡ Err c.in_err-check.field-0.0 = search rules in
    rw same
    (make_refused args.bytes.now args.boot.now args.init.now args.capacity
    (sized args.bytes.now (size_tests (length args.boot.now) (length args.init.now) args.capacity) (sym c.require.ensures ∙ c.in_ok-require.was)
    ∙ sym c.check.ensures ∙ c.in_err-check.was))

pub returns : goal.returns
returns c =
    let args = c.args in
    make_all args.bytes.now args.boot.now args.init.now args.capacity
    (sized args.bytes.now (size_tests (length args.boot.now) (length args.init.now) args.capacity) (sym c.require.ensures ∙ c.in_ok-require.was)
    ∙ sym c.check.ensures ∙ c.in_ok-check.was)
    (new_line_lem args.bytes.now args.boot.now args.init.now args.capacity (c.fill.ensures.after (λ y e. search rules)) c.put_le.ensures c.put_text.ensures
    c.put_text-2.ensures)
