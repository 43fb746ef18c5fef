-- `reading::setup_header`: zeros, with what the page has from the header's place on copied over them.
use mathlib.Core.Path.{◌∙◌}
use Rattle.bzimage.specs.SetupHeader.{header_size, header_start}
use Rattle.bzimage.proofs.HeaderLaws.{read_over}
use Rattle.boot_page.proofs.reading.setup_header.Goals as goal

pub returns : goal.returns
returns c = c.copy.ensures ∙ read_over header_size header_start c.args.page.now c.min-from.ensures
