-- `Room::check`: the sum is small.
use Rattle.std.proofs.Common.{arith}
use Rattle.cmdline.proofs.TextLaws.{boot_gap_most}
use Rattle.cmdline.proofs.sizes.Room.check.Goals as goal

pub overflow_add-text : goal.overflow_add-text
overflow_add-text c = let gap = boot_gap_most c.args.self.text in omega arith
