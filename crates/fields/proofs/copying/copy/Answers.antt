-- `copying::copy`: what is still to be stored, from i on, makes of dst what the whole makes of it as it was.
use Rattle.std.proofs.Common.{◌+◌, ◌-◌, ◌∙◌, sym, arith}
use Rattle.fields.proofs.CopyingLaws.{sets_done, blocks_next}
use Rattle.fields.proofs.copying.copy.Goals as goal

pub loop-i-preserved : goal.loop-i-preserved
loop-i-preserved c =
    let turn = c.loop-i in
    let end = turn.i + c.min-k.result in (
      omega arith,
      blocks_next c.args.src.now turn.dst c.copy_from_slice.new.self turn.i (end - turn.i) end (omega arith) (omega arith) (omega arith)
          c.copy_from_slice.ensures.after
          ∙ turn.invariant.1,
    )

pub returns : goal.returns
returns c = let last = c.loop-i in sym (sets_done c.args.src.now last.dst last.i (omega arith)) ∙ last.invariant.1
