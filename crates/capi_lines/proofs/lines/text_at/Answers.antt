-- `lines::text_at`: the place and the length are clipped to the bytes.
use borrow.Author.Rules.{rules}
use Prim.Native.Nat.{◌-◌}
use mathlib.Core.Path.{refl, sym}
use lib.ListN.{length}
use lib.Seq.{length-take-le}
use borrow.Rule.Slice.PartMut.{mid_of}
use Rattle.capi_lines.proofs.LinesLaws.{text_read}
use Rattle.capi_lines.proofs.lines.text_at.Goals as goal

pub slice_bounds-result-end : goal.slice_bounds-result-end
slice_bounds-result-end c = sym (length-take-le _ _ (search rules))

pub returns : goal.returns
returns c =
    let args = c.args in
    text_read args.place args.n args.bytes.now {rest = mid_of c.min.result (length args.bytes.now - c.min.result) args.bytes.now} c.min.ensures refl c.min-2.ensures refl
