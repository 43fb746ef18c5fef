-- `search::last_in`: none above the multiple that is tried fits.
use Rattle.std.proofs.Common.{arith}
use Rattle.placing.specs.Placing.{ranges_in}
use Rattle.placing.proofs.SearchLaws as laws
use Rattle.placing.proofs.SearchLaws.{down_last, met_apart, met_past}
use Rattle.placing.proofs.search.last_in.Goals as goal

pub returns-in_err-last : goal.returns-in_err-last
returns-in_err-last c = let short = c.in_err-last.ensures in rw c.from_residual.ensures (laws.too_many (omega (arith, short)))

pub loop-a-init : goal.loop-a-init
loop-a-init c =
    let last = c.in_ok-last.last in
    let room = c.in_ok-last.ensures in
    laws.falling_start room.0 (down_last last c.args.bounds.step c.args.bounds.some room.1)

pub returns-in-None : goal.returns-in-None
returns-in-None c =
    let args = c.args in
    laws.falling_found c.loop-a.invariant c.loop-a-test.true (met_apart (ranges_in args.placed.now) c.loop-a.a args.bounds.n c.first_met.ensures c.in-None.is)

pub returns-in_err-last-in-Some : goal.returns-in_err-last-in-Some
returns-in_err-last-in-Some c =
    let args = c.args in
    let past = met_past (ranges_in args.placed.now) c.loop-a.a args.bounds.n c.first_met.ensures c.in-Some.is in
    let short = c.in_err-last-in-Some.ensures in
    rw c.from_residual-in_err-last-in-Some.ensures (laws.falling_short c.loop-a.invariant past (omega (arith, short)))

pub loop-a-smaller : goal.loop-a-smaller
loop-a-smaller c =
    let args = c.args in
    let past = met_past (ranges_in args.placed.now) c.loop-a.a args.bounds.n c.first_met.ensures c.in-Some.is in
    let room = c.in_ok-last-in-Some.ensures in
    let last = c.in_ok-last-in-Some.last in
    laws.falling_past c.loop-a.invariant past room.0 (down_last last args.bounds.step c.args.bounds.some room.1)

pub loop-a-preserved : goal.loop-a-preserved
loop-a-preserved c =
    let args = c.args in
    let past = met_past (ranges_in args.placed.now) c.loop-a.a args.bounds.n c.first_met.ensures c.in-Some.is in
    let room = c.in_ok-last-in-Some.ensures in
    let last = c.in_ok-last-in-Some.last in
    laws.falling_on c.loop-a.invariant past room.0 (down_last last args.bounds.step c.args.bounds.some room.1)

pub returns : goal.returns
returns c = laws.falling_end c.loop-a.invariant c.loop-a-test.false
