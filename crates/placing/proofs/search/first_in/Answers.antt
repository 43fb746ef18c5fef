-- `search::first_in`: none below the multiple that is tried fits.
use Rattle.std.proofs.Common.{arith, refl}
use Rattle.placing.specs.Placing.{ranges_in}
use Rattle.placing.proofs.SearchLaws as laws
use Rattle.placing.proofs.SearchLaws.{next_is, past_bounds, met_apart, met_past}
use Rattle.placing.proofs.search.first_in.Goals as goal

pub returns-in_err-last : goal.returns-in_err-last
returns-in_err-last c = let short = c.in_err-last.ensures in rw c.from_residual.ensures (laws.too_many (omega (arith, short)))

pub returns-then-last-a : goal.returns-then-last-a
returns-then-last-a c =
    let args = c.args in
    let room = c.in_ok-last.ensures in
    let next = next_is c.loop-a.from args.bounds.step c.args.bounds.some c.in-Some.ensures.1 in
    laws.rising_end c.loop-a.invariant next (omega (arith, room))

pub returns-in-None : goal.returns-in-None
returns-in-None c =
    let args = c.args in
    let room = c.in_ok-last.ensures in
    let next = next_is c.loop-a.from args.bounds.step c.args.bounds.some c.in-Some.ensures.1 in
    laws.rising_found c.loop-a.invariant next (omega (arith, room)) (met_apart (ranges_in args.placed.now) c.in-Some.a args.bounds.n c.first_met.ensures c.in-None.is)

pub loop-a-smaller : goal.loop-a-smaller
loop-a-smaller c =
    let args = c.args in
    let room = c.in_ok-last.ensures in
    let next = next_is c.loop-a.from args.bounds.step c.args.bounds.some c.in-Some.ensures.1 in
    let past = met_past (ranges_in args.placed.now) c.in-Some.a args.bounds.n c.first_met.ensures c.in-Some-first_met.is in
    let on = laws.rising_past c.loop-a.invariant next (omega (arith, room)) past c.sum_up_to-from.ensures in
    omega arith

pub loop-a-preserved : goal.loop-a-preserved
loop-a-preserved c =
    let args = c.args in
    let room = c.in_ok-last.ensures in
    let next = next_is c.loop-a.from args.bounds.step c.args.bounds.some c.in-Some.ensures.1 in
    let past = met_past (ranges_in args.placed.now) c.in-Some.a args.bounds.n c.first_met.ensures c.in-Some-first_met.is in
    laws.rising_on c.loop-a.invariant next (omega (arith, room)) past c.sum_up_to-from.ensures

pub returns : goal.returns
returns c =
    let args = c.args in
    laws.rising_end c.loop-a.invariant (next_is c.loop-a.from args.bounds.step c.args.bounds.some refl) (past_bounds args.bounds.n c.args.bounds.some c.in_default.ensures (omega arith))
