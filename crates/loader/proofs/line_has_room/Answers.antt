-- `line_has_room`: a line that passes memory has no room; the size of another is below 2 ^ 64.
use Rattle.std.proofs.Common.{◌≡◌, ◌∙◌, sym, ap, arith}
use borrow.Author.Tests.{leb-true}
use Rattle.cmdline.specs.Text.{size_of}
use Rattle.guest.specs.Room.{room}
use Rattle.loader.proofs.LinesLaws.{long_line}
use Rattle.loader.proofs.line_has_room.Goals as goal

pub returns-then-fits : goal.returns-then-fits
returns-then-fits c =
    let args = c.args in
    let short = leb-true (size_of args.boot_len args.init_len) args.memory.now.size (sym c.fits.ensures ∙ c.if-fits.true) in
    let same : c.size.result ≡ size_of args.boot_len args.init_len = omega arith in
    c.has_room.ensures ∙ ap (room args.memory.now args.address.0) same

pub returns-else-fits : goal.returns-else-fits
returns-else-fits c =
    let args = c.args in
    c.if-fits.false
    ∙ sym (long_line args.memory.now args.address.0 args.boot_len args.init_len (sym c.fits.ensures ∙ c.if-fits.false))
