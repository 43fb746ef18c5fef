-- `setup_header::place`: the sum is the place of the field at the index.
use mathlib.Core.Path.{◌≡◌}
use Rattle.bzimage.specs.SetupHeader.{place_of}
use Rattle.bzimage.proofs.setup_header.place.Given as goal

abbrev pub invariant-loop-size : goal.invariant-loop-size
invariant-loop-size l = l.at ≡ place_of l.size-index
