-- `ranges::sum_fits`: the checked sum is there if it is below 2^64.
use Rattle.std.specs.Prelude.{Option, Some, None, ℕ, ◌+◌, ◌<◌, ◌^◌, ◌≡◌, is_some}
use Rattle.std.specs.Option.{SomeIff}
use Rattle.std.proofs.Common.{◌∙◌, sym, arith}
use Rattle.fields.specs.Ranges.{top64, fits64}
use Rattle.fields.proofs.RangesLaws.{sum_within, sum_beyond}
use Rattle.fields.proofs.ranges.sum_fits.Goals as goal

checked : (a b : ℕ) (sum : Option ℕ) → SomeIff sum (a + b < 2 ^ 64) (a + b) → is_some sum ≡ fits64 a b
checked a b (Some c) h = let low = h.0 in sym (sum_within top64 a b (omega arith))
checked a b None h = sym (sum_beyond top64 a b (omega (arith, h)))

pub returns : goal.returns
returns c = c.is_some.ensures ∙ checked c.args.a c.args.b c.checked_add.result c.checked_add.ensures
