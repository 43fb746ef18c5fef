-- `in_place::insert_multiple`: the tests of the list, the key, the values and room, in their order; the slug is trimmed and printable.
use Rattle.std.proofs.Common.{rules, ◌≡◌, ◌∙◌, sym, ap, length, min, arith, ◌++◌}
use Rattle.std.specs.Prelude.{Err}
use Rattle.slugs.specs.Bytes.{equals}
use Rattle.answers.specs.Tests.{pass, asked}
use Rattle.answers.proofs.TestsLaws.{open_all}
use Rattle.answers.specs.declared.Refusal.TheVariants as refusal
use Rattle.slugs.specs.Lists.{list_pre, listed}
use Rattle.slugs.proofs.ListsLaws.{list_long, list_told}
use Rattle.cmdline.specs.Limit.{limit}
use Rattle.cmdline.specs.InPlace.{list_append}
use Rattle.cmdline.proofs.InPlaceLaws.{pre_stops, room_as, room_stops, room_all, list_bad, list_key, list_none, list_values}
use Rattle.cmdline.proofs.in_place.insert_multiple.Goals as goal

pub returns-in_err-require : goal.returns-in_err-require
unfolding list_append
returns-in_err-require c =
    let key = c.args.key.now in
    let values = c.args.values.now in
    let ends = c.args.ends.now in
    let same : c.from_residual.result ≡ Err c.in_err-require.field-0.0 = search rules in
    rw same
    (pre_stops (list_pre key values ends) (key ++ listed equals 0 ends values) (list_told key values ends) (min c.args.lengths.boot_len limit) (min c.args.lengths.init_len limit) (min c.args.lengths.capacity limit) c.args.boot.now
    (list_bad key values ends (ap (λ b. asked pass b refusal.BadList) (sym c.is_list.ensures) ∙ sym c.require.ensures ∙ c.in_err-require.was)))

pub returns-in_err-check : goal.returns-in_err-check
unfolding list_append
returns-in_err-check c =
    let key = c.args.key.now in
    let values = c.args.values.now in
    let ends = c.args.ends.now in
    let same : c.from_residual-in_err-check.result ≡ Err c.in_err-check.field-0.0 = search rules in
    let good = ap (λ b. asked pass b refusal.BadList) (sym c.is_list.ensures) ∙ sym c.require.ensures ∙ c.in_ok-require.was in
    rw same
    (pre_stops (list_pre key values ends) (key ++ listed equals 0 ends values) (list_told key values ends) (min c.args.lengths.boot_len limit) (min c.args.lengths.init_len limit) (min c.args.lengths.capacity limit) c.args.boot.now
    (list_key key values ends good (sym c.check.ensures ∙ c.in_err-check.was)))

pub returns-in_err-require-2 : goal.returns-in_err-require-2
unfolding list_append
returns-in_err-require-2 c =
    let key = c.args.key.now in
    let values = c.args.values.now in
    let ends = c.args.ends.now in
    let same : c.from_residual-in_err-require-2.result ≡ Err c.in_err-require-2.field-0.0 = search rules in
    let good = ap (λ b. asked pass b refusal.BadList) (sym c.is_list.ensures) ∙ sym c.require.ensures ∙ c.in_ok-require.was in
    rw same
    (pre_stops (list_pre key values ends) (key ++ listed equals 0 ends values) (list_told key values ends) (min c.args.lengths.boot_len limit) (min c.args.lengths.init_len limit) (min c.args.lengths.capacity limit) c.args.boot.now
    (list_none key values ends good (sym c.check.ensures ∙ c.in_ok-check.was) (sym c.require-2.ensures ∙ c.in_err-require-2.was)))

pub returns-in_err-check-2 : goal.returns-in_err-check-2
unfolding list_append
returns-in_err-check-2 c =
    let key = c.args.key.now in
    let values = c.args.values.now in
    let ends = c.args.ends.now in
    let same : c.from_residual-in_err-check-2.result ≡ Err c.in_err-check-2.field-0.0 = search rules in
    let good = ap (λ b. asked pass b refusal.BadList) (sym c.is_list.ensures) ∙ sym c.require.ensures ∙ c.in_ok-require.was in
    rw same
    (pre_stops (list_pre key values ends) (key ++ listed equals 0 ends values) (list_told key values ends) (min c.args.lengths.boot_len limit) (min c.args.lengths.init_len limit) (min c.args.lengths.capacity limit) c.args.boot.now
    (list_values key values ends good (sym c.check.ensures ∙ c.in_ok-check.was) (sym c.require-2.ensures ∙ c.in_ok-require-2.was) ∙ sym c.check-2.ensures ∙ c.in_err-check-2.was))

pub returns-in_err-check-3 : goal.returns-in_err-check-3
unfolding list_append
returns-in_err-check-3 c =
    let key = c.args.key.now in
    let values = c.args.values.now in
    let ends = c.args.ends.now in
    let same : c.from_residual-in_err-check-3.result ≡ Err c.in_err-check-3.field-0.0 = search rules in
    let good = ap (λ b. asked pass b refusal.BadList) (sym c.is_list.ensures) ∙ sym c.require.ensures ∙ c.in_ok-require.was in
    let held = list_values key values ends good (sym c.check.ensures ∙ c.in_ok-check.was) (sym c.require-2.ensures ∙ c.in_ok-require-2.was) ∙ sym c.check-2.ensures ∙ c.in_ok-check-2.was in
    let first = c.sum.ensures in
    let long = list_long key values ends (open_all (list_pre key values ends) held) in
    let count : c.sum-2.result ≡ min (length (key ++ listed equals 0 ends values)) limit = omega (arith, c.sum-2.ensures) in
    let room = c.boot_room-room.ensures in
    rw same
    (room_stops (list_pre key values ends) (key ++ listed equals 0 ends values) (list_told key values ends) (min c.args.lengths.boot_len limit) (min c.args.lengths.init_len limit) (min c.args.lengths.capacity limit) c.args.boot.now held (omega arith) count
    (room_as (length c.args.boot.now) c.sum-2.result room.size room.capacity room.text ∙ sym c.check-3.ensures ∙ c.in_err-check-3.was))

pub returns : goal.returns
unfolding list_append
returns c =
    let key = c.args.key.now in
    let values = c.args.values.now in
    let ends = c.args.ends.now in
    let good = ap (λ b. asked pass b refusal.BadList) (sym c.is_list.ensures) ∙ sym c.require.ensures ∙ c.in_ok-require.was in
    let held = list_values key values ends good (sym c.check.ensures ∙ c.in_ok-check.was) (sym c.require-2.ensures ∙ c.in_ok-require-2.was) ∙ sym c.check-2.ensures ∙ c.in_ok-check-2.was in
    let first = c.sum.ensures in
    let long = list_long key values ends (open_all (list_pre key values ends) held) in
    let count : c.sum-2.result ≡ min (length (key ++ listed equals 0 ends values)) limit = omega (arith, c.sum-2.ensures) in
    let room = c.boot_room-room.ensures in
    room_all (list_pre key values ends) (key ++ listed equals 0 ends values) (list_told key values ends) (min c.args.lengths.boot_len limit) (min c.args.lengths.init_len limit) (min c.args.lengths.capacity limit) c.args.boot.now held (omega arith) count
    (room_as (length c.args.boot.now) c.sum-2.result room.size room.capacity room.text ∙ sym c.check-3.ensures ∙ c.in_ok-check-3.was)
    (rw room.text at c.put_list.ensures)
