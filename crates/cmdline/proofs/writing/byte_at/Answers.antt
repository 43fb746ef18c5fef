-- `writing::byte_at`: the place lies in the boot text, the separator or the init text.
use Rattle.std.proofs.Common.{arith}
use Rattle.cmdline.proofs.WritingLaws.{at_boot, at_separator, at_init, whole_most}
use Rattle.cmdline.proofs.writing.byte_at.Goals as goal

pub returns-then-at-boot : goal.returns-then-at-boot
returns-then-at-boot c = let args = c.args in at_boot args.boot.now args.init.now args.at c.if-at-boot.true

pub returns-then-past-lt4 : goal.returns-then-past-lt4
returns-then-past-lt4 c = let args = c.args in at_separator args.boot.now args.init.now args.at c.requires c.if-at-boot.false c.if-past-lt4.true

pub bounds-init-past : goal.bounds-init-past
bounds-init-past c = let most = whole_most c.args.boot.now c.args.init.now in omega arith

pub returns : goal.returns
returns c = let args = c.args in at_init args.boot.now args.init.now args.at c.requires c.if-at-boot.false c.if-past-lt4.false
