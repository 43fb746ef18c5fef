-- `places::put_place`: by the size of the list, and by what was found.
use Rattle.capi_boot.specs.Places.{found_number, found_values}
use Rattle.capi_boot.proofs.PlacesLaws.{place_unsized, place_sized}
use Rattle.capi_boot.proofs.places.put_place.Goals as goal

pub returns-then-out-ne1 : goal.returns-then-out-ne1
returns-then-out-ne1 c =
    let args = c.args in
    place_unsized args.found args.out.now c.if-out-ne1.true c.from.ensures

pub returns-in-Some : goal.returns-in-Some
unfolding found_number found_values
returns-in-Some c =
    let args = c.args in
    place_sized args.found args.out.now c.if-out-ne1.false (rw c.in-Some.is) (rw c.in-Some.is)

pub returns-in-None : goal.returns-in-None
unfolding found_number found_values
returns-in-None c =
    let args = c.args in
    place_sized args.found args.out.now c.if-out-ne1.false (rw c.in-None.is c.from-in-None.ensures) (rw c.in-None.is)
