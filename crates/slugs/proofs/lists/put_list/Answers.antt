-- `lists::put_list`: the key after the text, then the values.
use mathlib.Core.List.{append_assoc}
use Rattle.slugs.specs.Bytes.{equals}
use Rattle.slugs.specs.Joining.{space_after}
use Rattle.slugs.specs.Lists.{listed}
use Rattle.slugs.proofs.StoredLaws.{stored_as, then}
use Rattle.slugs.proofs.lists.put_list.Goals as goal

pub returns : goal.returns
returns c =
    let args = c.args in
    stored_as (append_assoc (space_after args.n) args.key.now (listed equals 0 args.ends.now args.values.now))
    (then c.put_after-at.ensures c.put_values.ensures)
