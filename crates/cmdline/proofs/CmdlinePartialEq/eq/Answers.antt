-- `==` of two lines: no text is longer than the limit.
use Rattle.cmdline.proofs.WritingLaws.{same_clipped}
use Rattle.cmdline.proofs.CmdlinePartialEq.eq.Goals as goal

pub returns : goal.returns
returns c =
    let a = c.args.self.now in
    let b = c.args.other.now in
    same_clipped a.boot a.init b.boot b.init a.boots a.inits b.boots b.inits
    c.boot_text.ensures c.init_text.ensures c.boot_text-2.ensures c.init_text-2.ensures c.same_line.ensures
