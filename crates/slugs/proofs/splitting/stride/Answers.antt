-- `splitting::stride`: 64 bytes of which none can be part of what is looked for.
use Rattle.std.proofs.Common.{arith, ◌+◌, ◌-◌, ◌∙◌, sym}
use Rattle.slugs.proofs.SplittingLaws.{skips_many}
use Rattle.slugs.proofs.splitting.stride.Goals as goal
use Rattle.slugs.proofs.splitting.stride.Goals.{then-part_has, else-part_has}

pub returns-else-part_has-2 : goal.returns-else-part_has-2
returns-else-part_has-2 c =
    elim c.if-part_has.branch [
      | then-part_has w ↦ cc
      | else-part_has w ↦
          let i = c.args.i in
          let room = c.if-s-lt65.false in
          let before = c.if-s-i.false in
          skips_many c.args.s.now i (i + 65 - (i + 1)) (omega arith) (omega arith) c.part_has.ensures w.if-part_has.false w.part_has-else-part_has.ensures
          (sym w.value-is ∙ c.if-part_has-2.false)
    ]
