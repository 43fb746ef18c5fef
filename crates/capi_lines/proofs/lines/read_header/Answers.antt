-- `lines::read_header`: the tests in their order, and then three numbers.
use Rattle.std.proofs.Common.{rules, ◌≡◌, ◌∙◌, sym}
use Rattle.std.specs.Prelude.{Err}
use Rattle.cmdline.specs.Making.{size_tests}
use Rattle.fields.specs.Numbers.{le}
use Rattle.capi_lines.proofs.LinesLaws.{unsized, sized, header_unread, header_read}
use Rattle.capi_lines.proofs.lines.read_header.Goals as goal

pub returns-in_err-require : goal.returns-in_err-require
returns-in_err-require c =
    let bytes = c.args.bytes.now in
    let same : c.from_residual.result ≡ Err c.in_err-require.field-0.0 = search rules in
    same ∙ header_unread bytes (unsized bytes (size_tests (le 8 bytes 0) (le 8 bytes 8) (le 8 bytes 16)) (sym c.require.ensures ∙ c.in_err-require.was))

pub returns-in_err-check : goal.returns-in_err-check
returns-in_err-check c =
    let bytes = c.args.bytes.now in
    let same : c.from_residual-in_err-check.result ≡ Err c.in_err-check.field-0.0 = search rules in
    let check = rw (c.read_u64.ensures.value, c.read_u64-2.ensures.value, c.read_u64-3.ensures.value) at c.check.ensures in
    same
    ∙ header_unread bytes
    (sized bytes (size_tests (le 8 bytes 0) (le 8 bytes 8) (le 8 bytes 16)) (sym c.require.ensures ∙ c.in_ok-require.was) ∙ sym check ∙ c.in_err-check.was)

pub returns : goal.returns
returns c =
    let bytes = c.args.bytes.now in
    let check = rw (c.read_u64.ensures.value, c.read_u64-2.ensures.value, c.read_u64-3.ensures.value) at c.check.ensures in
    rw (c.read_u64.ensures.value, c.read_u64-2.ensures.value, c.read_u64-3.ensures.value)
    (header_read bytes
    (sized bytes (size_tests (le 8 bytes 0) (le 8 bytes 8) (le 8 bytes 16)) (sym c.require.ensures ∙ c.in_ok-require.was) ∙ sym check ∙ c.in_ok-check.was))
