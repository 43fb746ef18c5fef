-- `in_place::insert`: the tests of the key, of the value and of room, in their order; the pair is trimmed and printable.
use Rattle.std.proofs.Common.{rules, ◌≡◌, ◌∙◌, sym, length, min, arith, ◌∷◌, ◌++◌, length-append}
use Rattle.std.specs.Prelude.{Err}
use Rattle.slugs.specs.Bytes.{equals}
use Rattle.slugs.specs.Keys.{key_tests}
use Rattle.slugs.specs.Values.{value_tests, pair}
use Rattle.slugs.proofs.ValuesLaws.{pair_told}
use Rattle.cmdline.specs.Limit.{limit}
use Rattle.cmdline.specs.InPlace.{pair_append}
use Rattle.cmdline.proofs.InPlaceLaws.{stops, goes_on, pre_stops, room_as, room_stops, room_all}
use Rattle.cmdline.proofs.in_place.insert.Goals as goal

pub returns-in_err-check : goal.returns-in_err-check
unfolding pair_append
returns-in_err-check c =
    let key = c.args.key.now in
    let value = c.args.value.now in
    let same : c.from_residual.result ≡ Err c.in_err-check.field-0.0 = search rules in
    rw same
    (pre_stops (key_tests key ++ value_tests value) (pair key value) (pair_told key value) (min c.args.lengths.boot_len limit) (min c.args.lengths.init_len limit) (min c.args.lengths.capacity limit) c.args.boot.now
    (stops (key_tests key) (value_tests value) (sym c.check.ensures ∙ c.in_err-check.was)))

pub returns-in_err-check-2 : goal.returns-in_err-check-2
unfolding pair_append
returns-in_err-check-2 c =
    let key = c.args.key.now in
    let value = c.args.value.now in
    let same : c.from_residual-in_err-check-2.result ≡ Err c.in_err-check-2.field-0.0 = search rules in
    rw same
    (pre_stops (key_tests key ++ value_tests value) (pair key value) (pair_told key value) (min c.args.lengths.boot_len limit) (min c.args.lengths.init_len limit) (min c.args.lengths.capacity limit) c.args.boot.now
    (goes_on (key_tests key) (value_tests value) (sym c.check.ensures ∙ c.in_ok-check.was) ∙ sym c.check-2.ensures ∙ c.in_err-check-2.was))

pub returns-in_err-check-3 : goal.returns-in_err-check-3
unfolding pair_append
returns-in_err-check-3 c =
    let key = c.args.key.now in
    let value = c.args.value.now in
    let same : c.from_residual-in_err-check-3.result ≡ Err c.in_err-check-3.field-0.0 = search rules in
    let held = goes_on (key_tests key) (value_tests value) (sym c.check.ensures ∙ c.in_ok-check.was) ∙ sym c.check-2.ensures ∙ c.in_ok-check-2.was in
    let first = c.sum.ensures in
    let long = length-append key (equals ∷ value) in
    let count : c.sum-2.result ≡ min (length (pair key value)) limit = omega (arith, c.sum-2.ensures) in
    let room = c.boot_room-room.ensures in
    rw same
    (room_stops (key_tests key ++ value_tests value) (pair key value) (pair_told key value) (min c.args.lengths.boot_len limit) (min c.args.lengths.init_len limit) (min c.args.lengths.capacity limit) c.args.boot.now held (omega arith) count
    (room_as (length c.args.boot.now) c.sum-2.result room.size room.capacity room.text ∙ sym c.check-3.ensures ∙ c.in_err-check-3.was))

pub returns : goal.returns
unfolding pair_append
returns c =
    let key = c.args.key.now in
    let value = c.args.value.now in
    let held = goes_on (key_tests key) (value_tests value) (sym c.check.ensures ∙ c.in_ok-check.was) ∙ sym c.check-2.ensures ∙ c.in_ok-check-2.was in
    let first = c.sum.ensures in
    let long = length-append key (equals ∷ value) in
    let count : c.sum-2.result ≡ min (length (pair key value)) limit = omega (arith, c.sum-2.ensures) in
    let room = c.boot_room-room.ensures in
    room_all (key_tests key ++ value_tests value) (pair key value) (pair_told key value) (min c.args.lengths.boot_len limit) (min c.args.lengths.init_len limit) (min c.args.lengths.capacity limit) c.args.boot.now held (omega arith) count
    (room_as (length c.args.boot.now) c.sum-2.result room.size room.capacity room.text ∙ sym c.check-3.ensures ∙ c.in_ok-check-3.was)
    (rw room.text at c.put_pair.ensures)
