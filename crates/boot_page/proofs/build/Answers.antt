-- `build`: if the tests pass, the page has its size and is filled.
use Rattle.boot_page.proofs.BuildingLaws.{builds_open}
use Rattle.boot_page.proofs.build.Goals as goal

pub returns : goal.returns
returns c =
    let args = c.args in
    builds_open args.setup_header.now args.addresses args.rows.now args.page.now c.check.ensures c.in_ok-check.was c.fill.ensures
