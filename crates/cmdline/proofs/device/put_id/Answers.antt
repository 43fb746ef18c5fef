-- `device::put_id`: by cases, as the definition goes.
use Prim.Native.Nat.{◌<◌, ◌^◌}
use borrow.Author.Rules.{rules}
use Rattle.slugs.proofs.StoredLaws.{then}
use Rattle.cmdline.proofs.DeviceLaws.{id_none, id_number}
use Rattle.cmdline.proofs.device.put_id.Goals as goal

pub returns-in-None : goal.returns-in-None
returns-in-None c =
    id_none c.args.id c.in-None.is c.requires

pub returns-in-Some : goal.returns-in-Some
returns-in-Some c =
    let number = c.in-Some.number in
    let small : number < 2 ^ 32 = search rules in
    id_number c.args.id number c.in-Some.is small (then c.put-end.ensures (rw c.from.ensures at c.put_decimal.ensures))
