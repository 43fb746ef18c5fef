-- `places::put`: as many values as fit.
use Prim.Native.Nat.{◌+◌, ◌-◌}
use mathlib.Core.Path.{◌≡◌}
use native.Mathlib.Omega.{arith}
use Rattle.capi.proofs.NumbersLaws.{put_values}
use Rattle.capi.proofs.places.put.Goals as goal

pub returns : goal.returns
returns c =
    let args = c.args in
    let n = c.min-from.result in
    let k = c.min-n.result in
    let size : n + k - n ≡ k = omega arith in
    rw size (put_values args.values.now args.numbers.now c.copy_from_slice.new.self n k args.from (omega (arith, c.min-from.ensures)) (omega (arith, c.min-n.ensures)) c.copy_from_slice.ensures.after)
