-- "The note walk over a longer image keeps its answer and its count, unless it was refused for missing bytes": note_longer, of the public
-- walk within the size limit. A load over a longer image cites entry_longer.
use Rattle.std.specs.Prelude.{Ok, Err, Result}
use Prim.Native.Nat.{ℕ, zero, suc, ◌+◌, ◌≤◌}
use mathlib.Core.Path.{◌≡◌, ◌∙◌, refl, ap}
use mathlib.Core.Bool.{Bool, true, false}
use mathlib.Core.List.{List, [], ◌∷◌, ◌++◌, append-nil}
use mathlib.Core.Logic.{◌⊎◌, inr, ⊎_elim}
use native.Mathlib.Omega.{arith}
use lib.Dec.{leb}
use lib.ListN.{length, length-append}
use Rattle.answers.specs.Pick.{pick}
use Rattle.answers.specs.Tests.{Test, AllHold, Check, pass}
use Rattle.answers.specs.Keeping.{Keeps, same, lifted, ShutBy, shut_by}
use Rattle.answers.specs.declared.Refusal.{Refusal}
use Rattle.answers.specs.declared.Refusal.TheVariants.{ReadNoteHeader, InvalidPvhNote}
use Rattle.answers.proofs.KeepingLaws.{Widens, end, stays, grows, kept, equal, pick_same, row_keeps, widens_same}
use Rattle.answers.proofs.TestsLaws.{open_all}
use Rattle.fields.specs.Ranges.{lies_within}
use Rattle.fields.specs.Tags.{tag_at}
use Rattle.fields.proofs.NumbersLaws.{le_append}
use Rattle.fields.proofs.RangesLaws.{within_sum, within_grows}
use Rattle.fields.proofs.TagsLaws.{tag_append}
use Rattle.guest.specs.Sizes.{longest}
use Rattle.guest.specs.declared.ImagePlace.{ImagePlace}
use Rattle.guest.specs.declared.PvhNote.{PvhNote}
use Rattle.guest.specs.declared.PvhBootCapability.TheVariants as pvh
use Rattle.guest.proofs.RoomLaws.{allowed_longer}
use Rattle.reading.specs.Notes.{note_header_of}
use Rattle.reading.specs.declared.NoteHeader.{NoteHeader}
use Rattle.elf.specs.Notes.{note_header_size, xen, is_wanted, is_pvh_note, note_length, descriptor_at, note_at, size_tests, note_tests, NoteAnswer}
use Rattle.elf.specs.NoteWalk.{turn_by, turn_at, after_turn, walk_from, twelves, entry_of, public_note}
use Rattle.elf.specs.declared.notes.Turn.{Turn}
use Rattle.elf.specs.declared.notes.Turn.TheVariants as turn
use Rattle.elf.proofs.NotesLaws.{found, header_lies, found_hold}

-- ---- the kinds that may lift, from a note up to the answer, and what follows each of them

module _ (Lifts : Refusal → Type 0) where
  data LiftTurn : Result Turn Refusal → Type 0 where
    lift_turn : {r : Refusal} → Lifts r → LiftTurn (Err r)

  pub data LiftNote : NoteAnswer → Type 0 where
    lift_note : {r : Refusal} → Lifts r → LiftNote (Err r)

  gate_after : {x x' : Check} (t t' : Turn) → Keeps (ShutBy Lifts) x x' → (x ≡ pass → t' ≡ t) → Keeps LiftTurn (turn_by x t) (turn_by x' t')
  gate_after t t' (lifted (shut_by l)) opened = lifted (lift_turn l)
  gate_after {x} t t' same opened = at x opened
    where
      at : (x : Check) → (x ≡ pass → t' ≡ t) → Keeps LiftTurn (turn_by x t) (turn_by x t')
      at (Ok _) opened = equal LiftTurn (ap Ok (opened refl))
      at (Err r) opened = same

  turn_after : (note note' : PvhNote) (headers : ℕ) {x x' : Result Turn Refusal} {more more' : ℕ → NoteAnswer} → Keeps LiftTurn x x'
      → ((place : ImagePlace) (size : ℕ) → x ≡ Ok (turn.Found place size) → note' ≡ note) → ((k : ℕ) → Keeps LiftNote (more k) (more' k))
      → Keeps LiftNote (after_turn note x headers more) (after_turn note' x' headers more')
  turn_after note note' headers (lifted (lift_turn l)) one rest = lifted (lift_note l)
  turn_after note note' headers {x} {more = more} {more' = more'} same one rest = at x one
    where
      at : (x : Result Turn Refusal) → ((place : ImagePlace) (size : ℕ) → x ≡ Ok (turn.Found place size) → note' ≡ note)
          → Keeps LiftNote (after_turn note x headers more) (after_turn note' x headers more')
      at (Ok (turn.Found place size)) one =
          equal LiftNote (ap (λ (n : PvhNote). Ok (record { pvh = pvh.PvhEntryPresent n; headers = headers })) (one place size refl))
      at (Ok (turn.Skip k)) one = rest k
      at (Err r) one = same

-- ---- an image and what is added to it

module _ (s t : List ℕ) where
  pub longer : length s ≤ length (s ++ t)
  longer = simp length-append (omega arith)

  pub as_long : t ≡ [] → length (s ++ t) ≡ length s
  as_long e = ap (λ u. length (s ++ u)) e ∙ ap length (append-nil s)

  -- a test that bytes lie in the image: nothing was added, or its refusal may lift
  pub image_widens : (Lifts : Refusal → Type 0) (refusal : Refusal) → (t ≡ []) ⊎ Lifts refusal → (at n : ℕ) {ts ts' : List Test}
      → (lies_within (length s) at n ≡ true → Widens Lifts ts ts')
      → Widens Lifts ((lies_within (length s) at n, refusal) ∷ ts) ((lies_within (length (s ++ t)) at n, refusal) ∷ ts')
  image_widens Lifts refusal lifts at n rest =
      ⊎_elim (λ e. stays (ap (λ len. lies_within len at n) (as_long e)) rest) (λ l. grows (within_grows (length s) (length (s ++ t)) at n longer) l rest) lifts

  note_append : (p : ℕ) → p + note_header_size ≤ length s → note_header_of (s ++ t) p ≡ note_header_of s p
  unfolding note_header_of
  note_append p h = rw (le_append 4 s t p (omega arith), le_append 4 s t (p + 4) (omega arith), le_append 4 s t (p + 8) (omega arith))

-- ---- the walk over it

module _ (s t : List ℕ) (Lifts : Refusal → Type 0) (lifts : (t ≡ []) ⊎ Lifts ReadNoteHeader) where
  module _ (p : ℕ) where
    abbrev note : NoteHeader
    note = note_header_of s p

    -- of the descriptor, in an image of this length
    abbrev entry_tests : ℕ → List Test
    entry_tests len = (leb 4 note.n_descsz, InvalidPvhNote) ∷ (lies_within len (descriptor_at p) 4, ReadNoteHeader) ∷ []

    entry_widens : (it : Bool) → Widens Lifts (pick it (entry_tests (length s)) (size_tests note)) (pick it (entry_tests (length (s ++ t))) (size_tests note))
    unfolding pick
    entry_widens true = stays refl (λ _. image_widens s t Lifts ReadNoteHeader lifts (descriptor_at p) 4 (λ _. end))
    entry_widens false = widens_same Lifts (size_tests note)

    name_widens : (wanted : Bool) → Widens Lifts
        ((pick wanted (lies_within (length s) (p + note_header_size) 4) true, ReadNoteHeader)
        ∷ pick (pick wanted (tag_at xen s (p + note_header_size)) false) (entry_tests (length s)) (size_tests note))
        ((pick wanted (lies_within (length (s ++ t)) (p + note_header_size) 4) true, ReadNoteHeader)
        ∷ pick (pick wanted (tag_at xen (s ++ t) (p + note_header_size)) false) (entry_tests (length (s ++ t))) (size_tests note))
    unfolding pick
    name_widens false = stays refl (λ _. widens_same Lifts (size_tests note))
    name_widens true =
        image_widens s t Lifts ReadNoteHeader lifts (p + note_header_size) 4
        (λ named. let stands = within_sum (length s) (p + note_header_size) 4 named in
        rw (tag_append xen s t (p + note_header_size) (omega arith)) (entry_widens (tag_at xen s (p + note_header_size))))

    tests_widen : Widens Lifts (note_tests s p) (note_tests (s ++ t) p)
    unfolding note_tests is_pvh_note
    tests_widen =
        image_widens s t Lifts ReadNoteHeader lifts p note_header_size
        (λ stands. rw (note_append s t p (within_sum (length s) p note_header_size stands)) (name_widens (is_wanted note)))

    -- where all of them hold, the note is the same
    name_same : (wanted : Bool) → pick wanted (lies_within (length s) (p + note_header_size) 4) true ≡ true
        → pick wanted (tag_at xen (s ++ t) (p + note_header_size)) false ≡ pick wanted (tag_at xen s (p + note_header_size)) false
    unfolding pick
    name_same false named = refl
    name_same true named = let stands = within_sum (length s) (p + note_header_size) 4 named in tag_append xen s t (p + note_header_size) (omega arith)

    it_same : AllHold (note_tests s p) → is_pvh_note (s ++ t) p ≡ is_pvh_note s p
    unfolding note_tests is_pvh_note
    it_same hold = rw (note_append s t p (within_sum (length s) p note_header_size hold.0)) (name_same (is_wanted note) hold.1.0)

    says_same : AllHold (note_tests s p)
        → pick (is_pvh_note (s ++ t) p) (found (s ++ t) p) (turn.Skip (note_length (note_header_of (s ++ t) p)))
        ≡ pick (is_pvh_note s p) (found s p) (turn.Skip (note_length note))
    says_same hold = rw (it_same hold, note_append s t p (header_lies s p hold))

    found_same : {place : ImagePlace} {size : ℕ} → turn_at s p ≡ Ok (turn.Found place size) → note_at (s ++ t) p ≡ note_at s p
    found_same e =
        let hold = found_hold s p e in
        let lies = within_sum (length s) (descriptor_at p) 4 hold.1.1.0 in
        rw (note_append s t p hold.0, le_append 4 s t (descriptor_at p) lies)

    turn_longer : Keeps (LiftTurn Lifts) (turn_at s p) (turn_at (s ++ t) p)
    unfolding turn_at
    turn_longer = gate_after Lifts _ _ (row_keeps Lifts tests_widen) (λ opened. says_same (open_all (note_tests s p) opened))

  walk_longer : (left from size read headers : ℕ) → Keeps (LiftNote Lifts) (walk_from left s from size read headers) (walk_from left (s ++ t) from size read headers)
  unfolding walk_from
  walk_longer zero from size read headers = same
  walk_longer (suc left) from size read headers =
      pick_same (LiftNote Lifts) _ _ refl
      (λ _. turn_after Lifts (note_at s (from + read)) (note_at (s ++ t) (from + read)) (suc headers) (turn_longer (from + read)) (λ place size e. found_same (from + read) e) (λ k. walk_longer left from size (read + k) (suc headers))) (λ _. same)

  pub entry_longer : (from : ImagePlace) (size : ℕ) → Keeps (LiftNote Lifts) (entry_of s from size) (entry_of (s ++ t) from size)
  unfolding entry_of
  entry_longer from size = walk_longer (twelves size) from.0 size 0 0

  public_longer : (from : ImagePlace) (size : ℕ) → length (s ++ t) ≤ longest → Keeps (LiftNote Lifts) (public_note s from size) (public_note (s ++ t) from size)
  unfolding public_note
  public_longer from size short = pick_same (LiftNote Lifts) _ _ (allowed_longer s t short) (λ _. entry_longer from size) (λ _. same)

short_of_bytes : {said : NoteAnswer} → LiftNote (λ r. r ≡ ReadNoteHeader) said → said ≡ Err ReadNoteHeader
short_of_bytes (lift_note e) = ap Err e

pub note_longer : (image bytes : List ℕ) (from : ImagePlace) (size : ℕ) → length (image ++ bytes) ≤ longest
    → (public_note image from size ≡ Err ReadNoteHeader → ⊥) → public_note (image ++ bytes) from size ≡ public_note image from size
note_longer image bytes from size short other =
    kept (LiftNote (λ r. r ≡ ReadNoteHeader)) (public_longer image bytes (λ r. r ≡ ReadNoteHeader) (inr refl) from size short) (λ l. other (short_of_bytes l))
