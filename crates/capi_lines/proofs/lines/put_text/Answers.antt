-- `lines::put_text`: the text, then its length.
use mathlib.Core.Path.{◌∙◌, ap}
use mathlib.Core.List.{List}
use Prim.Native.Nat.{ℕ}
use lib.ListN.{length}
use lib.Seq.{sets}
use Rattle.fields.specs.Numbers.{le_bytes}
use Rattle.capi_lines.proofs.lines.put_text.Goals as goal

pub returns : goal.returns
returns c =
    let args = c.args in
    c.put_le.ensures ∙ ap (λ (l : List ℕ). sets l args.number (le_bytes 8 (length args.text.now))) c.put.ensures.bytes
