-- `zero_page::build`: by the format; the checks of the page hold.
use mathlib.Core.Path.{sym, ◌∙◌, ap}
use Rattle.boot_page.specs.Building.{page_of}
use Rattle.loads.specs.declared.Format.{Format}
use Rattle.boot.specs.ZeroPage.{setup_by}
use Rattle.boot.proofs.ZeroPageLaws.{built}
use Rattle.boot.proofs.zero_page.build.Goals as goal

pub returns-in-Elf : goal.returns-in-Elf
unfolding setup_by
returns-in-Elf c =
    let args = c.args in
    built c.build.ensures c.requires
    ∙ ap (λ (f : Format). page_of (setup_by f args.image.now args.load) args.named args.rows.now) (sym c.in-Elf.is)

pub returns-in-BzImage : goal.returns-in-BzImage
unfolding setup_by
returns-in-BzImage c =
    let args = c.args in
    built c.build-in-BzImage.ensures c.requires
    ∙ ap (λ header. page_of header args.named args.rows.now) c.header_with-own.ensures
    ∙ ap (λ (f : Format). page_of (setup_by f args.image.now args.load) args.named args.rows.now) (sym c.in-BzImage.is)

pub returns-in-Arm64 : goal.returns-in-Arm64
unfolding setup_by
returns-in-Arm64 c =
    let args = c.args in
    built c.build-in-Arm64.ensures c.requires
    ∙ ap (λ (f : Format). page_of (setup_by f args.image.now args.load) args.named args.rows.now) (sym c.in-Arm64.is)
