-- `numbers::byte_at`: within the slice the byte is its own, which is below 256; past the end it is 0.
use Rattle.std.proofs.Common.{◌+◌, arith}
use Rattle.fields.proofs.NumbersLaws.{byte_read, byte_past}
use Rattle.fields.proofs.numbers.byte_at.Goals as goal

pub returns-then-i-left : goal.returns-then-i-left
returns-then-i-left c =
    let p = c.args.at + c.args.i in
    byte_read c.args.s.now p c.from.ensures (omega (arith, c.type_inv.s p, c.from.ensures))

pub returns-else-i-left : goal.returns-else-i-left
returns-else-i-left c = byte_past c.args.s.now (c.args.at + c.args.i) (omega arith)
