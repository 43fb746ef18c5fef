-- `Lengths::boot_room`: the sums are small.
use Rattle.std.proofs.Common.{◌≡◌, arith}
use Rattle.cmdline.specs.Text.{size_of}
use Rattle.cmdline.proofs.TextLaws.{size_most, boot_gap_most}
use Rattle.cmdline.proofs.sizes.Lengths.boot_room.Goals as goal

pub overflow_add-result : goal.overflow_add-result
overflow_add-result c =
    let size = size_most c.min-boot_len.result c.min.result in
    let gap = boot_gap_most c.min-boot_len.result in
    omega arith

pub returns-clause-size : goal.returns-clause-size
returns-clause-size c =
    let most = size_most c.min-boot_len.result c.min.result in
    let whole : c.size.result ≡ size_of c.min-boot_len.result c.min.result = omega arith in
    rw (whole, c.boot_gap.ensures, c.min-boot_len.ensures, c.min.ensures)
