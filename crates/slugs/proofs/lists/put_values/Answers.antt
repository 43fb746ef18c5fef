-- `lists::put_values`: what is still to be put, from this value on, makes the whole of what is put.
use Rattle.std.proofs.Common.{◌+◌, drop, get_or}
use Rattle.slugs.specs.Bytes.{comma}
use Rattle.slugs.specs.Lists.{listed}
use Rattle.slugs.proofs.ListsLaws.{listed_end, listed_on}
use Rattle.slugs.proofs.StoredLaws.{left_all, left_none, left_on, stored_as, then}
use Rattle.slugs.proofs.lists.put_values.Goals as goal

pub loop-end-init : goal.loop-end-init
loop-end-init c = left_all _ _ _

pub loop-end-preserved : goal.loop-end-preserved
loop-end-preserved c =
    let ends = c.args.ends.now in
    let values = c.args.values.now in
    let turn = c.loop-end in
    let i = turn.end-index in
    let on = listed_on ends values turn.at i turn.mark c.loop-end-test.true in
    let put = then c.put-place.ensures (stored_as c.value_at.ensures c.put-place-in-loop-end.ensures) in
    left_on _ (listed comma (get_or ends i 0) (drop (i + 1) ends) values) on put turn.invariant

pub returns : goal.returns
returns c =
    let end = c.loop-end in
    left_none (listed_end c.args.ends.now c.args.values.now end.at end.end-index end.mark c.loop-end-test.false) c.min.ensures end.invariant
