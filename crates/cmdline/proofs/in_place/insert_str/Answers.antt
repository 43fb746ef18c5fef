-- `in_place::insert_str`: a slug with the room of the boot text.
use Rattle.std.proofs.Common.{min}
use Rattle.cmdline.specs.Limit.{limit}
use Rattle.cmdline.proofs.InPlaceLaws.{slug_boot}
use Rattle.cmdline.proofs.in_place.insert_str.Goals as goal

pub returns : goal.returns
returns c =
    let room = c.boot_room.ensures in
    slug_boot (min c.args.lengths.boot_len limit) (min c.args.lengths.init_len limit) (min c.args.lengths.capacity limit) c.args.slug.now c.args.boot.now
    room.text room.size room.capacity c.append_slug.ensures
