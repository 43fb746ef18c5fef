-- `buffers::put_pair`: one part after the other.
use mathlib.Core.List.{append_assoc}
use Rattle.slugs.proofs.StoredLaws.{stored_as, then}
use Rattle.slugs.proofs.buffers.put_pair.Goals as goal

pub returns : goal.returns
returns c =
    stored_as (simp append_assoc) (then (then c.put_after-at.ensures c.put-mark.ensures) c.put.ensures)
