-- `numbers::put_le`: what is still to be written, from p on, makes of s what all bytes make of it as it was.
use Prim.Native.Nat.{◌+◌}
use mathlib.Core.Path.{sym, ◌∙◌}
use native.Mathlib.Omega.{arith}
use native.Mathlib.Numerals.{add-one}
use lib.ListN.{length-set}
use Rattle.fields.proofs.NumbersLaws.{put_next, put_done}
use Rattle.fields.proofs.numbers.put_le.Goals as goal

pub loop-p-preserved : goal.loop-p-preserved
loop-p-preserved c =
    let turn = c.loop-p in
    (turn.invariant.0, simp length-set turn.invariant.1, rw add-one (put_next turn.s turn.p turn.rest (omega arith) ∙ turn.invariant.2))

pub returns : goal.returns
returns c =
    let args = c.args in
    let last = c.loop-p in
    sym (put_done last.s last.p last.rest (args.at + args.width) (omega arith)) ∙ last.invariant.2
