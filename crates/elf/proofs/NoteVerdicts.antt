-- "A number is given exactly when its turn comes and its condition holds", for the note walk: note_verdict says which rule decides what
-- the public walk returns, and verdict_decides that each rule, where its turn comes, decides.
use Rattle.std.specs.Prelude.{Ok, Err}
use Prim.Native.Nat.{ℕ, zero, suc, ◌+◌, ◌*◌, ◌-◌, ◌≤◌, ◌<◌}
use mathlib.Core.Path.{◌≡◌, sym, ◌∙◌, refl, ap, subst⁻¹}
use mathlib.Core.Bool.{Bool, true, false}
use mathlib.Core.List.{List}
use native.Mathlib.Omega.{arith}
use native.Mathlib.Nat.{sub-zero}
use native.Mathlib.Decide.{dec_le}
use borrow.Author.Tests.{lt-ltb}
use lib.ListN.{length}
use Rattle.answers.specs.Pick.{pick}
use Rattle.answers.specs.Tests.{asked_all, AllHold, Check, pass}
use Rattle.answers.proofs.PickLaws.{pick_with}
use Rattle.answers.proofs.TestsLaws.{open_all, all_open, shut_first, first_shut}
use Rattle.guest.specs.Sizes.{allowed}
use Rattle.guest.specs.declared.ImagePlace.{ImagePlace}
use Rattle.guest.specs.declared.PvhNote.{PvhNote}
use Rattle.guest.specs.declared.PvhBootCapability.TheVariants as pvh
use Rattle.reading.specs.Notes.{note_header_of}
use Rattle.elf.specs.Load.{note_number}
use Rattle.elf.specs.Notes.{is_pvh_note, note_length, note_at, note_tests, PassedOver, no_note, one_more, NoteAnswer, found_note, NoteVerdict, too_long, refused, found, not_found}
use Rattle.elf.specs.NoteWalk.{turn_by, turn_at, after_turn, walk_from, twelves, entry_of, public_note}
use Rattle.elf.specs.declared.notes.Turn.TheVariants as turn
use Rattle.elf.proofs.NotesLaws.{walk_end}

-- a note if all its tests hold, else the refusal
abbrev if_open : Check → NoteAnswer → NoteAnswer
if_open (Ok _) note = note
if_open (Err r) note = Err r

module _ (image : List ℕ) (from size : ℕ) where
  -- the note after j others, and what comes after it
  abbrev after : ℕ → ℕ → ℕ → NoteAnswer
  after left j read =
      pick (is_pvh_note image (from + read)) (found_note image (from + read) (suc j))
      (walk_from left image from size (read + note_length (note_header_of image (from + read))) (suc j))

  note_step : (left j read : ℕ) → read < size
      → walk_from (suc left) image from size read j ≡ if_open (asked_all pass (note_tests image (from + read))) (after left j read)
  unfolding walk_from turn_at pick
  note_step left j read lt =
      rw (lt-ltb read size lt)
      (by (asked_all pass (note_tests image (from + read))) (is_pvh_note image (from + read)) (note_at image (from + read)) _ _ (note_length (note_header_of image (from + read)))
      (λ k. walk_from left image from size (read + k) (suc j)))
    where
      by : (gate : Check) (it : Bool) (note : PvhNote) (place : ImagePlace) (size k : ℕ) (more : ℕ → NoteAnswer)
          → after_turn note (turn_by gate (pick it (turn.Found place size) (turn.Skip k))) (suc j) more
          ≡ if_open gate (pick it (Ok (record { pvh = pvh.PvhEntryPresent note; headers = suc j })) (more k))
      by (Err r) it note place size k more = refl
      by (Ok _) true note place size k more = refl
      by (Ok _) false note place size k more = refl

  -- ---- the walk from a note on

  module _ (short : allowed (length image) ≡ true) where
    abbrev Decided : NoteAnswer → Type 0
    Decided = NoteVerdict image from size

    walk_verdict : (left j read : ℕ) → PassedOver image from size j read → size ≤ read + 12 * left
        → Decided (walk_from left image from size read j)
    walk_verdict zero j read over enough = subst⁻¹ Decided (walk_end image from size read j 0 (omega arith)) (not_found short over (omega arith))
    walk_verdict (suc left) j read over enough = split (dec_le size read)
        (λ lt hold other. walk_verdict left (suc j) (read + note_length (note_header_of image (from + read))) (one_more over lt hold other) (omega arith))
      where
        by_gate : read < size
            → (AllHold (note_tests image (from + read)) → is_pvh_note image (from + read) ≡ false
            → Decided (walk_from left image from size (read + note_length (note_header_of image (from + read))) (suc j)))
            → (gate : Check) → asked_all pass (note_tests image (from + read)) ≡ gate → Decided (if_open gate (after left j read))
        by_gate lt next (Err r) e = refused short over lt (shut_first (note_tests image (from + read)) r e)
        by_gate lt next (Ok _) e =
            let hold = open_all (note_tests image (from + read)) e in
            pick_with Decided (is_pvh_note image (from + read)) (λ it. found short over lt hold it) (λ other. next hold other)

        split : Dec (size ≤ read)
            → (read < size → AllHold (note_tests image (from + read)) → is_pvh_note image (from + read) ≡ false
            → Decided (walk_from left image from size (read + note_length (note_header_of image (from + read))) (suc j)))
            → Decided (walk_from (suc left) image from size read j)
        split (yes h) next = subst⁻¹ Decided (walk_end image from size read j (suc left) h) (not_found short over h)
        split (no h) next =
            let lt : read < size = omega arith in
            subst⁻¹ Decided (note_step left j read lt) (by_gate lt (next lt) (asked_all pass (note_tests image (from + read))) refl)

  -- ---- the walk up to a note that is reached

  abbrev left_after : ℕ → ℕ
  left_after j = twelves size - j

  -- a note is left to look at, since each note before it took twelve bytes or more
  next_step : (j read : ℕ) → 12 * j ≤ read → read < size
      → walk_from (left_after j) image from size read j
      ≡ if_open (asked_all pass (note_tests image (from + read))) (after (left_after (suc j)) j read)
  next_step j read few lt =
      let one_left : left_after j ≡ suc (left_after (suc j)) = omega arith in
      ap (λ (left : ℕ). walk_from left image from size read j) one_left ∙ note_step (left_after (suc j)) j read lt

  few_notes : {j read : ℕ} → PassedOver image from size j read → 12 * j ≤ read
  few_notes no_note = omega arith
  few_notes (one_more over lt hold other) = let few = few_notes over in omega arith

  passed : {j read : ℕ} → PassedOver image from size j read
      → walk_from (twelves size) image from size 0 0 ≡ walk_from (left_after j) image from size read j
  unfolding pick
  passed no_note = ap (λ (left : ℕ). walk_from left image from size 0 0) (sym (sub-zero (twelves size)))
  passed (one_more {j} {read} over lt hold other) =
      passed over ∙ next_step j read (few_notes over) lt ∙ rw (all_open (note_tests image (from + read)) hold, other)

  reached : {j read : ℕ} → PassedOver image from size j read → read < size
      → walk_from (twelves size) image from size 0 0 ≡ if_open (asked_all pass (note_tests image (from + read))) (after (left_after (suc j)) j read)
  reached {j} {read} over lt = passed over ∙ next_step j read (few_notes over) lt

-- ---- the public walk

module _ (image : List ℕ) (from : ImagePlace) (size : ℕ) where
  -- one of the rules decides
  pub note_verdict : NoteVerdict image from.0 size (public_note image from size)
  unfolding public_note entry_of
  note_verdict =
      pick_with (NoteVerdict image from.0 size) (allowed (length image))
      (λ short. walk_verdict image from.0 size short (twelves size) 0 0 no_note (omega arith)) too_long

  public_walk : allowed (length image) ≡ true → public_note image from size ≡ walk_from (twelves size) image from.0 size 0 0
  unfolding public_note entry_of pick
  public_walk short = rw short

  -- each rule, where its turn comes, decides
  pub verdict_decides : {note : NoteAnswer} → NoteVerdict image from.0 size note → public_note image from size ≡ note
  unfolding public_note pick
  verdict_decides (too_long long) = rw long
  verdict_decides (refused {j} {read} {r} short over lt fails) =
      public_walk short ∙ reached image from.0 size over lt ∙ rw (first_shut (note_tests image (from.0 + read)) r fails)
  verdict_decides (found {j} {read} short over lt hold it) =
      public_walk short ∙ reached image from.0 size over lt ∙ rw (all_open (note_tests image (from.0 + read)) hold, it)
  verdict_decides (not_found {j} {read} short over end) =
      public_walk short ∙ passed image from.0 size over ∙ walk_end image from.0 size read j (left_after image from.0 size j) end

  -- in the catalogue's numbers
  pub note_number_lem : {note : NoteAnswer} → NoteVerdict image from.0 size note → note_number (public_note image from size) ≡ note_number note
  note_number_lem decided = ap note_number (verdict_decides decided)
