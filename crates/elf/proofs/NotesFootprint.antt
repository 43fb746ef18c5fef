-- The note walk over two images of one length that hold the same bytes from the segment's first on, up to 19 past its last: it answers the same.
use Rattle.std.specs.Prelude.{Ok, Err, Result}
use Rattle.answers.specs.declared.Refusal.{Refusal}
use Prim.Native.Nat.{ℕ, zero, suc, ◌+◌, ◌<◌}
use mathlib.Core.Path.{◌≡◌, ◌∙◌, refl, ap}
use mathlib.Core.List.{List}
use native.Mathlib.Omega.{arith}
use borrow.Author.Tests.{ltb-true}
use lib.Dec.{ltb}
use lib.ListN.{length}
use Rattle.answers.proofs.PickLaws.{pick_both}
use Rattle.fields.specs.Agreement.{Agree}
use Rattle.fields.proofs.AgreementLaws.{agree_within, agree_le, agree_tag}
use Rattle.guest.specs.declared.ImagePlace.{ImagePlace}
use Rattle.guest.specs.declared.PvhNote.{PvhNote}
use Rattle.reading.specs.Notes.{note_header_of}
use Rattle.elf.specs.Footprint.{note_reach}
use Rattle.elf.specs.Notes.{note_header_size, xen, is_pvh_note, descriptor_at, note_at, note_tests, NoteAnswer}
use Rattle.elf.specs.NoteWalk.{turn_at, after_turn, walk_from, twelves, entry_of}
use Rattle.elf.specs.declared.notes.Turn.{Turn}
use Rattle.elf.specs.declared.notes.Turn.TheVariants as turn

after_same : (note : PvhNote) (x : Result Turn Refusal) (headers : ℕ) (more more' : ℕ → NoteAnswer) → ((k : ℕ) → more k ≡ more' k)
    → after_turn note x headers more ≡ after_turn note x headers more'
after_same note (Ok (turn.Found place size)) headers more more' rest = refl
after_same note (Ok (turn.Skip k)) headers more more' rest = rest k
after_same note (Err r) headers more more' rest = refl

module _ (s t : List ℕ) (lengths : length s ≡ length t) where
  -- one note, of which twenty bytes are looked at
  module _ (p : ℕ) (agree : Agree s t p 20) where
    note_same : note_header_of s p ≡ note_header_of t p
    unfolding note_header_of
    note_same =
        rw (
          agree_le s t 4 p (agree_within s t p 20 p 4 agree (omega arith) (omega arith)),
          agree_le s t 4 (p + 4) (agree_within s t p 20 (p + 4) 4 agree (omega arith) (omega arith)),
          agree_le s t 4 (p + 8) (agree_within s t p 20 (p + 8) 4 agree (omega arith) (omega arith)),
        )

    turn_same : turn_at s p ≡ turn_at t p
    unfolding turn_at note_tests is_pvh_note
    turn_same =
        rw (lengths, note_same, agree_tag s t xen (p + note_header_size) (agree_within s t p 20 (p + note_header_size) 4 agree (omega arith) (omega arith)))

    found_same : note_at s p ≡ note_at t p
    found_same = rw (note_same, agree_le s t 4 (descriptor_at p) (agree_within s t p 20 (descriptor_at p) 4 agree (omega arith) (omega arith)))

  walk_same : (left from size read headers : ℕ) → Agree s t from (size + note_reach) → walk_from left s from size read headers ≡ walk_from left t from size read headers
  unfolding walk_from
  walk_same zero from size read headers agree = refl
  walk_same (suc left) from size read headers agree =
      pick_both ◌≡◌ (ltb read size)
      (λ begun. let lt = ltb-true read size begun in
      let here = agree_within s t from (size + note_reach) (from + read) 20 agree (omega arith) (omega arith) in
      ap (λ (x : Result Turn Refusal). after_turn (note_at s (from + read)) x (suc headers) (λ k. walk_from left s from size (read + k) (suc headers))) (turn_same (from + read) here)
      ∙ ap (λ (n : PvhNote). after_turn n (turn_at t (from + read)) (suc headers) (λ k. walk_from left s from size (read + k) (suc headers))) (found_same (from + read) here)
      ∙ after_same (note_at t (from + read)) (turn_at t (from + read)) (suc headers) (λ k. walk_from left s from size (read + k) (suc headers)) (λ k. walk_from left t from size (read + k) (suc headers))
      (λ k. walk_same left from size (read + k) (suc headers) agree))
      (λ _. refl)

  -- of no bytes there is nothing to walk
  pub entry_same : (from : ImagePlace) (size : ℕ) → (0 < size → Agree s t from.0 (size + note_reach)) → entry_of s from size ≡ entry_of t from size
  unfolding entry_of walk_from
  entry_same from zero agree = refl
  entry_same from (suc k) agree = walk_same (twelves (suc k)) from.0 (suc k) 0 0 (agree (omega arith))
