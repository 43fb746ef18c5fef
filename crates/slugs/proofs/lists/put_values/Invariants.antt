-- `lists::put_values`: what is still to be put, from this value on, makes the whole of what is put.
use Rattle.std.proofs.Common.{drop}
use Rattle.slugs.specs.Bytes.{equals}
use Rattle.slugs.specs.Lists.{listed}
use Rattle.slugs.proofs.StoredLaws.{Left}
use Rattle.slugs.proofs.lists.put_values.Given as goal

abbrev pub invariant-loop-end : goal.invariant-loop-end
invariant-loop-end l =
    Left l.initial.d l.start (listed equals 0 l.ends l.values) l.d l.place (listed l.mark l.at (drop l.end-index l.ends) l.values)
