-- `fit`: the first address in the ranges so far.
use Rattle.std.proofs.Common.{◌≡◌, ◌∙◌, ◌+◌, max, min, ap, subst, arith}
use Rattle.guest.specs.declared.Extent.{Extent}
use Rattle.placing.specs.Placing.{ranges_in, First}
use Rattle.placing.specs.Search.{Order}
use Rattle.placing.proofs.FitLaws.{FitsAmong, among_none, among_next, fit_some, fit_empty}
use Rattle.placing.proofs.fit.Goals as goal

pub returns-then-n-eq0 : goal.returns-then-n-eq0
returns-then-n-eq0 c = fit_empty c.max-step.ensures c.if-n-eq0.true c.in_bounds.ensures

pub loop-i-init : goal.loop-i-init
loop-i-init c = among_none

pub loop-i-preserved : goal.loop-i-preserved
loop-i-preserved c =
    let args = c.args in
    let from = c.max-from.ensures ∙ ap (λ (r : Extent). max args.low r.at.0) c.range-range.ensures in
    let end = c.sum_up_to-end.ensures ∙ ap (λ (r : Extent). min (r.at.0 + r.size) c.min-top.result) c.range-range.ensures in
    among_next args.wanted c.loop-i.invariant from end c.in_bounds-found.ensures c.first_of-best.ensures

pub returns : goal.returns
returns c =
    let args = c.args in
    let map = args.memory.now.map in
    let last = c.loop-i in
    let top = c.min-top in
    let count = c.len-i-end in
    let step = c.max-step in
    let all : last.i ≡ count.result = omega arith in
    let Among = FitsAmong (ranges_in args.placed.now) args.low top.result step.result args.n map.starts map.sizes in
    fit_some step.ensures (omega arith) top.ensures count.ensures
    (subst (λ k. First (Order args.wanted) (Among k) last.best) all last.invariant)
