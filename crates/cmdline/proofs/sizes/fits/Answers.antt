-- `sizes::fits`: without init text, with it, and a boot text that alone is too long.
use Rattle.std.proofs.Common.{arith, nat_lt, ◌≡◌, ◌∙◌, false}
use Rattle.cmdline.proofs.TextLaws.{fits_none, fits_some, fits_not}
use Rattle.cmdline.proofs.sizes.fits.Goals as goal

pub returns-then-init_len-eq0 : goal.returns-then-init_len-eq0
returns-then-init_len-eq0 c = let args = c.args in fits_none args.room args.boot_len args.init_len c.if-init_len-eq0.true c.within.ensures

pub returns-then-boot_len-room : goal.returns-then-boot_len-room
returns-then-boot_len-room c =
    let args = c.args in
    fits_some args.room args.boot_len args.init_len c.if-init_len-eq0.false c.if-boot_len-room.true c.within-then-boot_len-room.ensures

pub returns-else-boot_len-room : goal.returns-else-boot_len-room
returns-else-boot_len-room c =
    let args = c.args in
    let long : nat_lt args.boot_len args.room ≡ false = grind arith in
    long ∙ fits_not args.room args.boot_len args.init_len c.if-boot_len-room.false
