-- `sizes::is_allowed`: the test is the definition's own.
use mathlib.Core.Path.{refl}
use Rattle.guest.specs.Sizes.{allowed}
use Rattle.guest.proofs.sizes.is_allowed.Goals as goal

pub returns : goal.returns
unfolding allowed
returns c = refl
