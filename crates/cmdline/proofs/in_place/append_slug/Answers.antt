-- `in_place::append_slug`: the trimmed slug is printable or not, and has room or not.
use Rattle.std.proofs.Common.{rules, ◌≡◌, ◌∙◌, sym, ap, ◌++◌}
use Rattle.std.specs.Prelude.{Err}
use Rattle.answers.specs.Tests.{pass, asked}
use Rattle.answers.specs.declared.Refusal.TheVariants as refusal
use Rattle.slugs.specs.Joining.{space_after}
use Rattle.slugs.proofs.StoredLaws.{stored_as}
use Rattle.cmdline.specs.InPlace.{slug_append}
use Rattle.cmdline.proofs.InPlaceLaws.{appends_not, appends_all, slug_stops, slug_room, printed}
use Rattle.cmdline.proofs.in_place.append_slug.Goals as goal

pub returns-in_err-require : goal.returns-in_err-require
returns-in_err-require c =
    let room = c.args.room in
    let same : c.from_residual.result ≡ Err c.in_err-require.field-0.0 = search rules in
    let shut = ap (λ b. asked pass b refusal.InvalidAscii) (sym c.all_printable.ensures) ∙ sym c.require.ensures ∙ c.in_err-require.was in
    rw same
    (appends_not (slug_append room.size room.capacity c.args.slug.now) c.args.buffer.now room.text
    (slug_stops room.size room.capacity c.args.slug.now c.trimmed-s.result.now c.args.buffer.now room.text c.trimmed-s.ensures shut))

pub returns-in_err-check : goal.returns-in_err-check
returns-in_err-check c =
    let room = c.args.room in
    let same : c.from_residual-in_err-check.result ≡ Err c.in_err-check.field-0.0 = search rules in
    let plain = printed c.trimmed-s.result.now c.all_printable.ensures (sym c.require.ensures ∙ c.in_ok-require.was) in
    rw same
    (appends_not (slug_append room.size room.capacity c.args.slug.now) c.args.buffer.now room.text
    (slug_room room.size room.capacity c.args.slug.now c.trimmed-s.result.now c.args.buffer.now room.text c.trimmed-s.ensures plain
    ∙ sym c.check.ensures ∙ c.in_err-check.was))

pub returns : goal.returns
unfolding slug_append
returns c =
    let room = c.args.room in
    let plain = printed c.trimmed-s.result.now c.all_printable.ensures (sym c.require.ensures ∙ c.in_ok-require.was) in
    appends_all (slug_append room.size room.capacity c.args.slug.now) c.args.buffer.now room.text
    (slug_room room.size room.capacity c.args.slug.now c.trimmed-s.result.now c.args.buffer.now room.text c.trimmed-s.ensures plain
    ∙ sym c.check.ensures ∙ c.in_ok-check.was)
    (stored_as (ap (λ s. space_after room.text ++ s) c.trimmed-s.ensures) c.put_after.ensures)
