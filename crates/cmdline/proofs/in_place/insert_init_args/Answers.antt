-- `in_place::insert_init_args`: a slug with the room of the init text.
use Rattle.std.proofs.Common.{min}
use Rattle.cmdline.specs.Limit.{limit}
use Rattle.cmdline.proofs.InPlaceLaws.{slug_init}
use Rattle.cmdline.proofs.in_place.insert_init_args.Goals as goal

pub returns : goal.returns
returns c =
    let room = c.init_room.ensures in
    slug_init (min c.args.lengths.boot_len limit) (min c.args.lengths.init_len limit) (min c.args.lengths.capacity limit) c.args.slug.now c.args.init.now
    room.text room.size room.capacity c.append_slug.ensures
