-- `load_bodies`: the image, and then the line if there is one.
use Rattle.std.proofs.Common.{rules, ◌≡◌, ◌∙◌, sym}
use Rattle.std.specs.Prelude.{Err}
use Rattle.desk.proofs.WorkLaws.{image_of, line_of, image_alone, image_and_line, image_refused, line_stands, line_fails}
use Rattle.desk.proofs.load_bodies.Goals as goal

pub returns-in_err-kernel : goal.returns-in_err-kernel
returns-in_err-kernel c =
    let args = c.args in
    let image = image_of args.job.now args.guest.now c.rows.ensures.0 c.body.ensures c.load_image.ensures in
    let same : c.from_residual.result ≡ Err c.in_err-kernel.field-0.0 = search rules in
    rw same (image_refused args.job.now args.guest.now (rw c.in_err-kernel.was at image))

pub returns-in_err-put : goal.returns-in_err-put
returns-in_err-put c =
    let args = c.args in
    let kernel = c.in_ok-kernel.kernel in
    let same : c.from_residual-in_err-put.result ≡ Err c.in_err-put.field-0.0 = search rules in
    rw same
    (image_and_line args.job.now args.guest.now (sym c.has_line.ensures ∙ c.if-has_line.true)
    (image_of args.job.now args.guest.now c.rows.ensures.0 c.body.ensures c.load_image.ensures)
    (line_of args.job.now c.load_image.new.guest kernel c.rows.ensures.1 c.body-then-has_line.ensures
    c.in_ok-kernel.was c.put.ensures (line_fails kernel c.in_err-put.was)))

pub returns-in_ok-put : goal.returns-in_ok-put
returns-in_ok-put c =
    let args = c.args in
    let kernel = c.in_ok-kernel.kernel in
    image_and_line args.job.now args.guest.now (sym c.has_line.ensures ∙ c.if-has_line.true)
    (image_of args.job.now args.guest.now c.rows.ensures.0 c.body.ensures c.load_image.ensures)
    (line_of args.job.now c.load_image.new.guest kernel c.rows.ensures.1 c.body-then-has_line.ensures
    c.in_ok-kernel.was c.put.ensures (line_stands kernel c.in_ok-put.was))

pub returns-else-has_line : goal.returns-else-has_line
returns-else-has_line c =
    let args = c.args in
    let image = image_of args.job.now args.guest.now c.rows.ensures.0 c.body.ensures c.load_image.ensures in
    image_alone args.job.now args.guest.now (sym c.has_line.ensures ∙ c.if-has_line.false) (rw c.in_ok-kernel.was at image)
