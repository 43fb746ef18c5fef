-- Laws of the note walk.
use Rattle.std.specs.Prelude.{Ok, Err, Result}
use Prim.Native.Nat.{ℕ, zero, suc, ◌+◌, ◌*◌, ◌-◌, ◌≤◌, ◌<◌}
use mathlib.Core.Path.{◌≡◌, refl, sym, ◌∙◌, ap, subst}
use mathlib.Core.Bool.{Bool, true, false}
use mathlib.Core.List.{List}
use native.Mathlib.Omega.{arith}
use native.Mathlib.Nat.{add-zero, add_assoc}
use borrow.Author.Tests.{lt-ltb, le-ltb, leb-true}
use lib.Dec.{leb}
use lib.ListN.{length, take, drop}
use Rattle.answers.specs.Pick.{pick}
use Rattle.answers.specs.Tests.{asked, asked_all, AllHold, Check, pass}
use Rattle.answers.specs.declared.Refusal.{Refusal}
use Rattle.answers.specs.declared.Refusal.TheVariants.{ReadNoteHeader}
use Rattle.answers.proofs.PickLaws.{pick_with}
use Rattle.answers.proofs.TestsLaws.{open_all, shut_stays}
use Rattle.fields.specs.Ranges.{lies_within}
use Rattle.fields.specs.Tags.{tag_at}
use Rattle.fields.proofs.NumbersLaws.{le_within}
use Rattle.fields.proofs.RangesLaws.{within_test, within_sum}
use Rattle.guest.specs.declared.ImagePlace.{ImagePlace}
use Rattle.reading.specs.Notes.{note_header_of}
use Rattle.elf.specs.Notes.{note_header_size, xen, is_wanted, is_pvh_note, top_size, note_length, note_with, descriptor_at, note_at, pvh_tests, size_tests, note_tests, NoteAnswer, no_entry}
use Rattle.elf.specs.NoteWalk.{turn_by, turn_at, after_turn, walk_from, twelves}
use Rattle.elf.specs.declared.notes.Turn.{Turn}
use Rattle.elf.specs.declared.notes.Turn.TheVariants as turn

-- ---- a note's header

-- read in its own bytes it is the one at its offset
pub note_within : (image : List ℕ) (at : ℕ) → note_header_of (take (at + note_header_size - at) (drop at image)) 0 ≡ note_header_of image at
unfolding note_header_of
note_within image at =
    rw (
      le_within 4 at (at + note_header_size - at) image 0 (omega arith),
      le_within 4 at (at + note_header_size - at) image 4 (omega arith),
      le_within 4 at (at + note_header_size - at) image 8 (omega arith),
      add-zero,
    )

-- it lies in the image, by its own offset
pub own_offset : (len from read : ℕ) → lies_within len from (read + note_header_size) ≡ lies_within len (from + read) note_header_size
own_offset len from read =
    within_test len from (read + note_header_size) ∙ ap (λ (end : ℕ). leb end len) (sym (add_assoc from read note_header_size))
    ∙ sym (within_test len (from + read) note_header_size)

-- ---- a note, as code looks at it

-- it is the PVH note
abbrev pub found : List ℕ → ℕ → Turn
found image p = turn.Found (record { 0 = descriptor_at p }) (note_header_of image p).n_descsz

module _ (image : List ℕ) (p : ℕ) where
  abbrev skips_it : Result Turn Refusal
  skips_it = turn_by (asked_all pass (size_tests (note_header_of image p))) (turn.Skip (note_length (note_header_of image p)))

  pub turn_short : lies_within (length image) p note_header_size ≡ false → turn_at image p ≡ Err ReadNoteHeader
  unfolding turn_at note_tests asked pick
  turn_short short =
      rw short
      (ap (λ (gate : Check). turn_by gate (pick (is_pvh_note image p) (found image p) (turn.Skip (note_length (note_header_of image p)))))
      (shut_stays (pick (is_pvh_note image p) (pvh_tests image p) (size_tests (note_header_of image p))) ReadNoteHeader))

  module _ (stands : lies_within (length image) p note_header_size ≡ true) where
    pub turn_other : is_wanted (note_header_of image p) ≡ false → turn_at image p ≡ skips_it
    unfolding turn_at note_tests is_pvh_note asked pick
    turn_other other = rw (stands, other)

    module _ (wanted : is_wanted (note_header_of image p) ≡ true) where
      pub turn_unnamed : lies_within (length image) (p + note_header_size) 4 ≡ false → turn_at image p ≡ Err ReadNoteHeader
      unfolding turn_at note_tests asked pick
      turn_unnamed short =
          rw (stands, wanted, short)
          (ap (λ (gate : Check). turn_by gate (pick (is_pvh_note image p) (found image p) (turn.Skip (note_length (note_header_of image p)))))
          (shut_stays (pick (is_pvh_note image p) (pvh_tests image p) (size_tests (note_header_of image p))) ReadNoteHeader))

      module _ (named : lies_within (length image) (p + note_header_size) 4 ≡ true) where
        pub turn_named : tag_at xen image (p + note_header_size) ≡ false → turn_at image p ≡ skips_it
        unfolding turn_at note_tests is_pvh_note asked pick
        turn_named other = rw (stands, wanted, named, other)

        pub turn_pvh : tag_at xen image (p + note_header_size) ≡ true → turn_at image p ≡ turn_by (asked_all pass (pvh_tests image p)) (found image p)
        unfolding turn_at note_tests is_pvh_note asked pick
        turn_pvh it = rw (stands, wanted, named, it)

-- ---- how far a note reaches

-- a note that is passed over is twelve bytes long at least, and not much longer than two sizes of 32 bits
abbrev pub longest_note : ℕ
longest_note = 8589934604

data Strides (image : List ℕ) (p : ℕ) : Result Turn Refusal → Type 0 where
  finds : Strides image p (Ok (found image p))
  skips : {k : ℕ} → note_header_size ≤ k → k ≤ longest_note → Strides image p (Ok (turn.Skip k))
  refuses : {r : Refusal} → Strides image p (Err r)

-- of a note that is not the PVH note both sizes were tested
pub sizes_hold : (image : List ℕ) (p : ℕ) → is_pvh_note image p ≡ false → AllHold (note_tests image p) → AllHold (size_tests (note_header_of image p))
unfolding note_tests pick
sizes_hold image p other hold = subst (λ (b : Bool). AllHold (pick b (pvh_tests image p) (size_tests (note_header_of image p)))) other hold.1.1

pub pvh_hold : (image : List ℕ) (p : ℕ) → is_pvh_note image p ≡ true → AllHold (note_tests image p) → AllHold (pvh_tests image p)
unfolding note_tests pick
pvh_hold image p it hold = subst (λ (b : Bool). AllHold (pick b (pvh_tests image p) (size_tests (note_header_of image p)))) it hold.1.1

pub header_lies : (image : List ℕ) (p : ℕ) → AllHold (note_tests image p) → p + note_header_size ≤ length image
unfolding note_tests
header_lies image p hold = within_sum (length image) p note_header_size hold.0

turn_strides : (image : List ℕ) (p : ℕ) → Strides image p (turn_at image p)
unfolding turn_at
turn_strides image p = by (asked_all pass (note_tests image p)) refl
  where
    by : (gate : Check) → asked_all pass (note_tests image p) ≡ gate
        → Strides image p (turn_by gate (pick (is_pvh_note image p) (found image p) (turn.Skip (note_length (note_header_of image p)))))
    by (Err r) e = refuses
    by (Ok _) e =
        pick_with (λ t. Strides image p (Ok t)) (is_pvh_note image p) (λ _. finds)
        (λ other. let sizes = sizes_hold image p other (open_all (note_tests image p) e) in
        let name-small = leb-true (note_header_of image p).n_namesz top_size sizes.0 in
        let desc-small = leb-true (note_header_of image p).n_descsz top_size sizes.1.0 in
        skips (omega arith) (omega arith))

-- of a note that is found the header lies in the image, and both tests of its descriptor hold
data Held (P : Type 0) : Result Turn Refusal → Type 0 where
  held_found : {place : ImagePlace} {size : ℕ} → P → Held P (Ok (turn.Found place size))
  held_skip : {k : ℕ} → Held P (Ok (turn.Skip k))
  held_refused : {r : Refusal} → Held P (Err r)

turn_held : (image : List ℕ) (p : ℕ) → Held ((p + note_header_size ≤ length image) × AllHold (pvh_tests image p)) (turn_at image p)
unfolding turn_at
turn_held image p = by (asked_all pass (note_tests image p)) refl
  where
    P : Type 0
    P = (p + note_header_size ≤ length image) × AllHold (pvh_tests image p)

    by : (gate : Check) → asked_all pass (note_tests image p) ≡ gate
        → Held P (turn_by gate (pick (is_pvh_note image p) (found image p) (turn.Skip (note_length (note_header_of image p)))))
    by (Err r) e = held_refused
    by (Ok _) e =
        let hold = open_all (note_tests image p) e in
        pick_with (λ t. Held P (Ok t)) (is_pvh_note image p) (λ it. held_found (header_lies image p hold, pvh_hold image p it hold)) (λ _. held_skip)

of_held : {P : Type 0} {place : ImagePlace} {size : ℕ} → Held P (Ok (turn.Found place size)) → P
of_held (held_found p) = p

pub found_hold : {place : ImagePlace} {size : ℕ} (image : List ℕ) (p : ℕ) → turn_at image p ≡ Ok (turn.Found place size)
    → (p + note_header_size ≤ length image) × AllHold (pvh_tests image p)
found_hold image p e = of_held (subst (Held ((p + note_header_size ≤ length image) × AllHold (pvh_tests image p))) e (turn_held image p))

skip_bounds : {image : List ℕ} {p k : ℕ} → Strides image p (Ok (turn.Skip k)) → (note_header_size ≤ k) × (k ≤ longest_note)
skip_bounds (skips least most) = (least, most)

pub strides : {k : ℕ} (image : List ℕ) (p : ℕ) → turn_at image p ≡ Ok (turn.Skip k) → (note_header_size ≤ k) × (k ≤ longest_note)
strides image p e = skip_bounds (subst (Strides image p) e (turn_strides image p))

-- the note that is found is the PVH note at p
found_with : {image : List ℕ} {p size : ℕ} {place : ImagePlace} → Strides image p (Ok (turn.Found place size)) → note_with image place size ≡ note_at image p
found_with finds = refl

pub found_note : {place : ImagePlace} {size : ℕ} (image : List ℕ) (p : ℕ) → turn_at image p ≡ Ok (turn.Found place size) → note_with image place size ≡ note_at image p
found_note image p e = found_with (subst (Strides image p) e (turn_strides image p))

-- ---- the walk, note by note

module _ (image : List ℕ) (from size read headers : ℕ) where
  -- each note before this one took twelve bytes or more: so it is one of those that are left
  pub walk_through : {whole : NoteAnswer} {t : Result Turn Refusal} → 12 * headers ≤ read → read < size → turn_at image (from + read) ≡ t
      → walk_from (twelves size - headers) image from size read headers ≡ whole
      → after_turn (note_at image (from + read)) t (headers + 1) (λ k. walk_from (twelves size - (headers + 1)) image from size (read + k) (headers + 1)) ≡ whole
  unfolding walk_from pick
  walk_through few lt et rest =
      let left : twelves size - headers ≡ suc (twelves size - (headers + 1)) = omega arith in
      let counted : headers + 1 ≡ suc headers = omega arith in
      rw counted (sym (rw (left, lt-ltb read size lt, et, counted)) ∙ rest)

  -- the notes are read
  pub walk_end : (n : ℕ) → size ≤ read → walk_from n image from size read headers ≡ no_entry headers
  unfolding walk_from pick
  walk_end zero h = refl
  walk_end (suc n) h = rw (le-ltb read size h)
