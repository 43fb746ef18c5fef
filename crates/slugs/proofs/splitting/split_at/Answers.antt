-- `splitting::split_at`: nothing splits before i, so the place is i and what is left of the rest.
use Prim.Native.Nat.{◌+◌}
use mathlib.Core.Path.{◌∙◌, ap, sym}
use native.Mathlib.Omega.{arith}
use lib.ListN.{drop}
use Rattle.slugs.specs.Splitting.{split_from}
use Rattle.slugs.proofs.SplittingLaws.{split_end, split_on, split_stop}
use Rattle.slugs.proofs.splitting.split_at.Goals as goal

pub loop-i-init : goal.loop-i-init
loop-i-init c = (omega arith, omega arith)

pub returns-then-splits : goal.returns-then-splits
returns-then-splits c =
    let at_turn = c.loop-i in
    let stop = split_stop at_turn.even c.args.s.now at_turn.i (omega arith) (sym c.splits.ensures ∙ c.if-splits.true) in
    (omega arith, omega arith)

pub overflow_add-i : goal.overflow_add-i
overflow_add-i c =
    let at_turn = c.loop-i in
    let within = c.stride-i.ensures.within (omega arith) in
    omega arith

pub loop-i-smaller : goal.loop-i-smaller
loop-i-smaller c =
    let at_turn = c.loop-i in
    let least = c.stride-i.ensures.least in
    let within = c.stride-i.ensures.within (omega arith) in
    omega arith

pub loop-i-preserved : goal.loop-i-preserved
loop-i-preserved c =
    let at_turn = c.loop-i in
    let s = c.args.s.now in
    let on = split_on at_turn.even s at_turn.i (omega arith) (sym c.splits.ensures ∙ c.if-splits.false) in
    let next = ap (λ e. split_from e (drop (at_turn.i + 1) s)) c.even_after-even.ensures in
    let skips = c.stride-i.ensures in
    let least = skips.least in
    let within = skips.within (omega arith) in
    let same = skips.same c.even_after-even.result in
    (omega arith, omega arith)

pub returns : goal.returns
returns c =
    let at-end = c.loop-i in
    let stop = split_end at-end.even c.args.s.now at-end.i c.loop-i-test.false in
    (omega arith, omega arith)
