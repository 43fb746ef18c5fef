-- `notes::walk_notes`: what is left of the walk, from what is read on, is the whole walk; each note passed over is twelve bytes or more.
use Rattle.std.specs.Prelude.{Ok, Err}
use Rattle.std.proofs.lemmas.Grind.{common_steps}
use Prim.Native.Nat.{◌+◌, ◌-◌}
use mathlib.Core.Path.{◌≡◌, sym, ◌∙◌, ap}
use mathlib.Core.Bool.{true, false}
use native.Mathlib.Omega.{arith}
use native.Mathlib.Nat.{sub-zero}
use lib.ListN.{length}
use Rattle.answers.specs.Pick.{pick}
use Rattle.answers.specs.Tests.{asked}
use Rattle.answers.specs.declared.Refusal.TheVariants.{ReadNoteHeader}
use Rattle.fields.proofs.RangesLaws.{within_sum}
use Rattle.guest.specs.declared.PvhBootCapability.{PvhBootCapability}
use Rattle.guest.specs.declared.PvhBootCapability.TheVariants as pvh
use Rattle.elf.specs.NoteWalk.{twelves, entry_of}
use Rattle.elf.proofs.NotesLaws.{own_offset, turn_short, found_note, strides, walk_through, walk_end}
use Rattle.elf.proofs.notes.walk_notes.Goals as goal

pub loop-read-init : goal.loop-read-init
loop-read-init c = (omega arith, omega arith, rw sub-zero)

pub returns-in_err-require : goal.returns-in_err-require
unfolding entry_of asked pick
returns-in_err-require c =
    let args = c.args in
    let at_turn = c.loop-read in
    let image = args.image.now in
    let from = args.p_offset.0 in
    let out : c.within.result ≡ false = grind (arith, common_steps) in
    let refused : c.from_residual.result ≡ Err ReadNoteHeader = grind (arith, common_steps) in
    let short = sym (own_offset (length image) from at_turn.read) ∙ sym c.within.ensures ∙ out in
    refused
    ∙ walk_through image from args.p_filesz at_turn.read at_turn.headers at_turn.invariant.0 (omega arith) (turn_short image (from + at_turn.read) short) at_turn.invariant.2

pub overflow_add-from : goal.overflow_add-from
unfolding asked pick
overflow_add-from c =
    let in_image : c.within.result ≡ true = grind (arith, common_steps) in
    let stands = within_sum _ _ _ (sym c.within.ensures ∙ in_image) in
    omega arith

pub note_at-requires : goal.note_at-requires
unfolding asked pick
note_at-requires c =
    let in_image : c.within.result ≡ true = grind (arith, common_steps) in
    let stands = within_sum _ _ _ (sym c.within.ensures ∙ in_image) in
    omega arith

pub returns-in_err-turn : goal.returns-in_err-turn
unfolding entry_of
returns-in_err-turn c =
    let args = c.args in
    let at_turn = c.loop-read in
    let refused : c.from_residual-in_err-turn.result ≡ Err c.in_err-turn.field-0.0 = grind (arith, common_steps) in
    refused
    ∙ walk_through args.image.now args.p_offset.0 args.p_filesz at_turn.read at_turn.headers at_turn.invariant.0 (omega arith)
    (sym c.note_at.ensures ∙ c.in_err-turn.was) at_turn.invariant.2

pub returns-in-Found : goal.returns-in-Found
unfolding entry_of
returns-in-Found c =
    let args = c.args in
    let at_turn = c.loop-read in
    let image = args.image.now in
    let from = args.p_offset.0 in
    let is_found = sym c.note_at.ensures ∙ c.in_ok-turn.was ∙ ap Ok c.in-Found.is in
    ap (λ (p : PvhBootCapability). Ok (record { pvh = p; headers = at_turn.headers + 1 })) (ap pvh.PvhEntryPresent (c.entry.ensures ∙ found_note image (from + at_turn.read) is_found))
    ∙ walk_through image from args.p_filesz at_turn.read at_turn.headers at_turn.invariant.0 (omega arith) is_found at_turn.invariant.2

pub overflow_add-read-in-Skip : goal.overflow_add-read-in-Skip
overflow_add-read-in-Skip c =
    let skips = sym c.note_at.ensures ∙ c.in_ok-turn.was ∙ ap Ok c.in-Skip.is in
    let stride = strides c.args.image.now (c.args.p_offset.0 + c.loop-read.read) skips in
    omega arith

pub loop-read-smaller : goal.loop-read-smaller
loop-read-smaller c =
    let skips = sym c.note_at.ensures ∙ c.in_ok-turn.was ∙ ap Ok c.in-Skip.is in
    let stride = strides c.args.image.now (c.args.p_offset.0 + c.loop-read.read) skips in
    omega arith

pub loop-read-preserved : goal.loop-read-preserved
unfolding asked pick
loop-read-preserved c =
    let args = c.args in
    let at_turn = c.loop-read in
    let skips = sym c.note_at.ensures ∙ c.in_ok-turn.was ∙ ap Ok c.in-Skip.is in
    let stride = strides args.image.now (args.p_offset.0 + at_turn.read) skips in
    let in_image : c.within.result ≡ true = grind (arith, common_steps) in
    let stands = within_sum _ _ _ (sym c.within.ensures ∙ in_image) in (
      omega arith,
      omega arith,
      walk_through args.image.now args.p_offset.0 args.p_filesz at_turn.read at_turn.headers at_turn.invariant.0 (omega arith) skips at_turn.invariant.2,
    )

pub returns : goal.returns
unfolding entry_of
returns c =
    let args = c.args in
    let at-end = c.loop-read in
    sym (walk_end args.image.now args.p_offset.0 args.p_filesz at-end.read at-end.headers (twelves args.p_filesz - at-end.headers) (omega arith))
    ∙ at-end.invariant.2
