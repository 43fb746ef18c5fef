-- `setup_header::place`: the sum is the place of the field at the index.
use mathlib.Core.Path.{sym, ◌∙◌}
use native.Mathlib.Omega.{arith}
use Rattle.bzimage.specs.SetupHeader.{sizes}
use Rattle.bzimage.proofs.SetupHeaderLaws.{at_setup_sects, place_step, step_small, place_end}
use Rattle.bzimage.proofs.setup_header.place.Goals as goal

pub loop-size-init : goal.loop-size-init
loop-size-init c = sym at_setup_sects

pub overflow_add-at : goal.overflow_add-at
unfolding sizes
overflow_add-at c =
    let small = step_small c.min.result c.loop-size.size-index c.loop-size-test.true c.loop-size.invariant c.from-at.ensures in
    omega arith

pub loop-size-preserved : goal.loop-size-preserved
unfolding sizes
loop-size-preserved c = place_step c.min.result c.loop-size.size-index c.loop-size-test.true c.loop-size.invariant c.from-at.ensures

pub returns : goal.returns
unfolding sizes
returns c = c.loop-size.invariant ∙ place_end c.args.field c.min.ensures (omega arith)
