-- The results of an accepted load: "load address is e_entry, plus the offset if given"; the kernel end is the greatest end of a loadable segment's
-- memory, one without file bytes among them, so that what is put there does not fall into memory that the kernel clears; "the first note found now
-- holds: a later plain note no longer clears it", and with an offset PVH is ignored.
use Rattle.std.specs.Prelude.{Ok, Err, Option, Result}
use Rattle.guest.specs.declared.GuestAddress.{GuestAddress}
use Prim.Native.Nat.{ℕ, zero, suc, ◌+◌, ◌≤◌, ◌<◌, max}
use mathlib.Core.Path.{◌≡◌, sym, ◌∙◌, refl, ap, subst, subst⁻¹}
use mathlib.Core.Bool.{Bool, true, false}
use mathlib.Core.List.{List}
use mathlib.Core.Logic.{◌⊎◌, inl, inr}
use native.Mathlib.Omega.{arith}
use native.Mathlib.Decide.{dec_le}
use native.Mathlib.Nat.{zero-add}
use borrow.Author.Tests.{eqb-true, eqb-false, leb-true}
use lib.ListN.{length}
use Rattle.answers.specs.Tests.{Test, asked_all, AllHold, Check, pass}
use Rattle.answers.specs.declared.Refusal.{Refusal}
use Rattle.answers.proofs.PickLaws.{pick_with}
use Rattle.answers.proofs.TestsLaws.{open_all}
use Rattle.guest.specs.Addresses.{amount_of, is_given}
use Rattle.guest.specs.Answers.{answer_number, answer_values, Answer}
use Rattle.guest.specs.Room.{room, memory_of}
use Rattle.guest.specs.declared.Map.{Map}
use Rattle.guest.specs.declared.PvhNote.{PvhNote}
use Rattle.guest.specs.declared.PvhBootCapability.{PvhBootCapability}
use Rattle.guest.specs.declared.PvhBootCapability.TheVariants as pvh
use Rattle.guest.specs.declared.KernelLoaderResult.{KernelLoaderResult}
use Rattle.elf.specs.Header.{e_phnum_of}
use Rattle.elf.specs.ProgramHeaders.{header_of}
use Rattle.elf.specs.Notes.{note_at, NoteAnswer, said_of}
use Rattle.elf.specs.NoteWalk.{turn_at, after_turn, walk_from, twelves, entry_of}
use Rattle.elf.specs.Survey.{Rooms, segment_tests, memory_tests, end_of, step_by, load_step, said_step, note_step, step_of, first_found, advanced, blank, load_address, survey_of}
use Rattle.elf.specs.Load.{LoadSays}
use Rattle.elf.specs.Results.{HasMemory, IsEnd, GreatestEnd, GivesNote, NoneGives, FirstGives, SomeNotes, PvhIs, present, not_present, with_offset, no_notes, ResultIs, ElfValues}
use Rattle.elf.specs.Verdict.{Accepted, is_accepted}
use Rattle.elf.specs.declared.notes.Turn.{Turn}
use Rattle.elf.specs.declared.notes.Turn.TheVariants as turn
use Rattle.elf.specs.declared.program_headers.ProgramHeader.{ProgramHeader}
use Rattle.elf.specs.declared.survey.Effect.{Effect}
use Rattle.elf.specs.declared.survey.Effect.TheVariants as effect
use Rattle.elf.proofs.EveryRule.{accept_rules, both_ways, positive}
use Rattle.elf.proofs.SurveyLaws.{survey_with}
use Rattle.elf.proofs.Verdicts.{by_headers}

-- ---- what a program header that passes changes

data Changes (image : List ℕ) (offset : Option GuestAddress) (h : ProgramHeader) : Effect → Type 0 where
  ends : HasMemory h → Changes image offset h (effect.EndsAt (end_of (amount_of offset) h))
  nothing : (HasMemory h → ⊥) → (h.p_type ≡ 4 → ⊥) → Changes image offset h effect.Nothing
  ignored : h.p_type ≡ 4 → is_given offset ≡ true → Changes image offset h (effect.Pvh pvh.PvhEntryIgnored)
  found : {note : PvhNote} → GivesNote image offset h note → Changes image offset h (effect.Pvh (pvh.PvhEntryPresent note))
  not_found : h.p_type ≡ 4 → is_given offset ≡ false → ((note : PvhNote) → GivesNote image offset h note → ⊥)
      → Changes image offset h (effect.Pvh pvh.PvhEntryNotPresent)

data Passed (P : Effect → Type 0) : Result Effect Refusal → Type 0 where
  passes : {e : Effect} → P e → Passed P (Ok e)
  stops : {r : Refusal} → Passed P (Err r)

of_passed : {P : Effect → Type 0} {t : Result Effect Refusal} {e : Effect} → Passed P t → t ≡ Ok e → P e
of_passed {P} {e = e} (passes {e = x} p) is = let same : x ≡ e = cc in subst P same p
of_passed (stops {r}) is = let w : ◌≡◌ {A = ℕ} 0 1 = cc in absurd (omega arith)

-- a note walk finds the note or not; it does not ignore it
abbrev NotIgnored : NoteAnswer → Type 0
NotIgnored note = said_of note ≡ Ok pvh.PvhEntryIgnored → ⊥

after_not : (note : PvhNote) (t : Result Turn Refusal) (headers : ℕ) (more : ℕ → NoteAnswer) → ((k : ℕ) → NotIgnored (more k)) → NotIgnored (after_turn note t headers more)
after_not note (Ok (turn.Found place size)) headers more rest = λ e. let w : ◌≡◌ {A = ℕ} 0 1 = cc in omega arith
after_not note (Ok (turn.Skip k)) headers more rest = rest k
after_not note (Err r) headers more rest = λ e. let w : ◌≡◌ {A = ℕ} 0 1 = cc in omega arith

walk_not : (left : ℕ) (image : List ℕ) (from size read headers : ℕ) → NotIgnored (walk_from left image from size read headers)
unfolding walk_from
walk_not zero image from size read headers = λ e. let w : ◌≡◌ {A = ℕ} 0 1 = cc in omega arith
walk_not (suc left) image from size read headers =
    pick_with NotIgnored _
    (λ _. after_not (note_at image (from + read)) (turn_at image (from + read)) (suc headers) (λ k. walk_from left image from size (read + k) (suc headers)) (λ k. walk_not left image from size (read + k) (suc headers)))
    (λ _ e. let w : ◌≡◌ {A = ℕ} 0 1 = cc in omega arith)

module _ (image : List ℕ) (hasRoom : Rooms) (offset : Option GuestAddress) (h : ProgramHeader) where
  abbrev T : Result Effect Refusal → Type 0
  T = Passed (Changes image offset h)

  abbrev said : NoteAnswer
  said = entry_of image h.p_offset h.p_filesz

  by_tests : (ts : List Test) → (AllHold ts → HasMemory h) → T (step_by (asked_all pass ts) (end_of (amount_of offset) h))
  by_tests ts memory = by (asked_all pass ts) refl
    where
      by : (gate : Check) → asked_all pass ts ≡ gate → T (step_by gate (end_of (amount_of offset) h))
      by (Ok _) e = passes (ends (memory (open_all ts e)))
      by (Err r) e = stops

  load_changes : h.p_type ≡ 1 → T (load_step (length image) hasRoom (amount_of offset) h)
  unfolding load_step
  load_changes is-1 =
      pick_with T _
      (λ _. pick_with T _
      (λ none. let zero-size = eqb-true h.p_memsz 0 none in
      passes (nothing (λ memory. let some = memory.some in omega arith) (λ is-4. omega arith)))
      (λ some. by_tests (memory_tests (amount_of offset) h)
      (λ _. record { loadable = is-1; some = positive h.p_memsz (eqb-false h.p_memsz 0 some) })))
      (λ file. by_tests (segment_tests (length image) hasRoom (amount_of offset) h)
      (λ all. let some = positive h.p_filesz (eqb-false h.p_filesz 0 file) in let sized = leb-true h.p_filesz h.p_memsz all.0 in
      record { loadable = is-1; some = omega arith }))

  pvh_changes : h.p_type ≡ 4 → is_given offset ≡ false → (pvh_boot_cap : PvhBootCapability) → said_of said ≡ Ok pvh_boot_cap → T (Ok (effect.Pvh pvh_boot_cap))
  unfolding entry_of
  pvh_changes is-4 none (pvh.PvhEntryPresent note) e = passes (found (record { is_note = is-4; no_offset = none; walked = e }))
  pvh_changes is-4 none pvh.PvhEntryNotPresent e =
      passes (not_found is-4 none (λ note g. let both = sym e ∙ g.walked in let w : ◌≡◌ {A = ℕ} 0 1 = cc in omega arith))
  pvh_changes is-4 none pvh.PvhEntryIgnored e = absurd (walk_not (twelves h.p_filesz) image h.p_offset.0 h.p_filesz 0 0 e)

  said_changes : h.p_type ≡ 4 → is_given offset ≡ false → (a : NoteAnswer) → said ≡ a → T (said_step a)
  said_changes is-4 none (Ok note) e = pvh_changes is-4 none note.pvh (ap said_of e)
  said_changes is-4 none (Err r) e = stops

  step_changes : T (step_of image hasRoom offset h)
  unfolding step_of note_step
  step_changes =
      pick_with T _ (λ one. load_changes (eqb-true h.p_type 1 one))
      (λ other. let not-1 = eqb-false h.p_type 1 other in
      pick_with T _
      (λ four. let is-4 = eqb-true h.p_type 4 four in pick_with T _ (λ given. passes (ignored is-4 given)) (λ none. said_changes is-4 none said refl))
      (λ other'. passes (nothing (λ memory. not-1 memory.loadable) (eqb-false h.p_type 4 other'))))

-- ---- one program header more

-- what holds below n and of n holds below n + 1
up_to : (P : ℕ → Type 0) (n : ℕ) → ((k : ℕ) → k < n → P k) → P n → (k : ℕ) → k < suc n → P k
up_to P n below here k lt = split (dec_le (suc k) n)
  where
    split : Dec (suc k ≤ n) → P k
    split (yes h) = below k h
    split (no h) = subst P (let same : n ≡ k = omega arith in same) here

module _ (image : List ℕ) (offset : Option GuestAddress) (i : ℕ) where
  abbrev this : ProgramHeader
  this = header_of image i

  abbrev end_at : ℕ → ℕ
  end_at k = (end_of (amount_of offset) (header_of image k)).0

  still_end : {e : ℕ} → (e ≡ 0) ⊎ IsEnd image offset i e → (e ≡ 0) ⊎ IsEnd image offset (suc i) e
  still_end (inl none) = inl none
  still_end (inr is) = let below = is.below in inr (record { k = is.k; below = omega arith; has_memory = is.has_memory; is = is.is })

  end_same : {e : ℕ} → (HasMemory this → ⊥) → GreatestEnd image offset i e → GreatestEnd image offset (suc i) e
  end_same {e} none g =
      record { covers = up_to (λ k. HasMemory (header_of image k) → end_at k ≤ e) i g.covers (λ m. absurd (none m)); attained = still_end g.attained }

  end_raised : {e : ℕ} → HasMemory this → GreatestEnd image offset i e → GreatestEnd image offset (suc i) (max e (end_at i))
  end_raised {e} memory g =
      record {
        covers = up_to (λ k. HasMemory (header_of image k) → end_at k ≤ max e (end_at i)) i (λ k lt m. let le = g.covers k lt m in omega arith) (λ _. omega arith);
        attained = split (dec_le e (end_at i));
      }
    where
      split : Dec (e ≤ end_at i) → (max e (end_at i) ≡ 0) ⊎ IsEnd image offset (suc i) (max e (end_at i))
      split (yes h) = inr (record { k = i; below = omega arith; has_memory = memory; is = omega arith })
      split (no h) =
          subst⁻¹ (λ x. (x ≡ 0) ⊎ IsEnd image offset (suc i) x) (let same : max e (end_at i) ≡ e = omega arith in same) (still_end g.attained)

  no_memory : this.p_type ≡ 4 → HasMemory this → ⊥
  no_memory is-4 memory = let is-1 = memory.loadable in omega arith

  none_more : NoneGives image offset i → ((note : PvhNote) → GivesNote image offset this note → ⊥) → NoneGives image offset (suc i)
  none_more below here = up_to (λ j. (note : PvhNote) → GivesNote image offset (header_of image j) note → ⊥) i below here

  still_first : {note : PvhNote} → FirstGives image offset i note → FirstGives image offset (suc i) note
  still_first f = let below = f.below in record { k = f.k; below = omega arith; gives = f.gives; before = f.before }

  -- without a note header among them none gives a note
  without : (SomeNotes image i → ⊥) → NoneGives image offset i
  without none j lt note g = none (record { k = j; below = lt; is_note = g.is_note })

  pvh_same : {cap : PvhBootCapability} → (this.p_type ≡ 4 → ⊥) → PvhIs image offset i cap → PvhIs image offset (suc i) cap
  pvh_same not-4 (present f) = present (still_first f)
  pvh_same not-4 (not_present lacks some none) =
      let below = some.below in
      not_present lacks (record { k = some.k; below = omega arith; is_note = some.is_note }) (none_more none (λ note g. not-4 g.is_note))
  pvh_same not-4 (with_offset given) = with_offset given
  pvh_same not-4 (no_notes lacks none) = no_notes lacks (λ some. up_to (λ k. (header_of image k).p_type ≡ 4 → ⊥) i (λ k lt is. none (record { k = k; below = lt; is_note = is })) not-4 some.k some.below some.is_note)

  pvh_ignored : {cap : PvhBootCapability} → is_given offset ≡ true → PvhIs image offset i cap → PvhIs image offset (suc i) (first_found cap pvh.PvhEntryIgnored)
  unfolding first_found
  pvh_ignored given (present f) = absurd (both_ways given f.gives.no_offset)
  pvh_ignored given (not_present lacks some none) = absurd (both_ways given lacks)
  pvh_ignored given (with_offset _) = with_offset given
  pvh_ignored given (no_notes lacks none) = absurd (both_ways given lacks)

  pvh_found : {cap : PvhBootCapability} {note : PvhNote} → GivesNote image offset this note → PvhIs image offset i cap
      → PvhIs image offset (suc i) (first_found cap (pvh.PvhEntryPresent note))
  unfolding first_found
  pvh_found gives (present f) = present (still_first f)
  pvh_found gives (not_present lacks some none) = present (record { k = i; below = omega arith; gives = gives; before = none })
  pvh_found gives (with_offset given) = absurd (both_ways given gives.no_offset)
  pvh_found gives (no_notes lacks none) = present (record { k = i; below = omega arith; gives = gives; before = without none })

  pvh_not_found : {cap : PvhBootCapability} → this.p_type ≡ 4 → is_given offset ≡ false → ((note : PvhNote) → GivesNote image offset this note → ⊥)
      → PvhIs image offset i cap → PvhIs image offset (suc i) (first_found cap pvh.PvhEntryNotPresent)
  unfolding first_found
  pvh_not_found is-4 lacks here (present f) = present (still_first f)
  pvh_not_found is-4 lacks here (not_present _ some none) = not_present lacks (record { k = i; below = omega arith; is_note = is-4 }) (none_more none here)
  pvh_not_found is-4 lacks here (with_offset given) = absurd (both_ways given lacks)
  pvh_not_found is-4 lacks here (no_notes _ none) = not_present lacks (record { k = i; below = omega arith; is_note = is-4 }) (none_more (without none) here)

  one_more : {x : KernelLoaderResult} {e : Effect} → Changes image offset this e → ResultIs image offset i x → ResultIs image offset (suc i) (advanced x e)
  unfolding advanced
  one_more (ends memory) r = record { load = r.load; end = end_raised memory r.end; pvh = pvh_same (λ is-4. no_memory is-4 memory) r.pvh }
  one_more (nothing none not-4) r = record { load = r.load; end = end_same none r.end; pvh = pvh_same not-4 r.pvh }
  one_more (ignored is-4 given) r = record { load = r.load; end = end_same (no_memory is-4) r.end; pvh = pvh_ignored given r.pvh }
  one_more (found gives) r = record { load = r.load; end = end_same (no_memory gives.is_note) r.end; pvh = pvh_found gives r.pvh }
  one_more (not_found is-4 lacks here) r = record { load = r.load; end = end_same (no_memory is-4) r.end; pvh = pvh_not_found is-4 lacks here r.pvh }

-- before any program header
at_first : (image : List ℕ) (offset : Option GuestAddress) → ResultIs image offset 0 (blank (load_address image offset))
at_first image offset =
    record { load = refl; end = record { covers = λ k lt _. absurd (omega arith); attained = inl refl }; pvh = by (is_given offset) refl }
  where
    by : (b : Bool) → is_given offset ≡ b → PvhIs image offset 0 pvh.PvhEntryIgnored
    by true e = with_offset e
    by false e = no_notes e (λ some. let below = some.below in omega arith)

-- ---- the load

module _ (image : List ℕ) (offset highmem : Option GuestAddress) (map : Map) (before after : List ℕ) {r : Answer} (says : LoadSays image offset highmem map before r after) where
  surveyed : {result : KernelLoaderResult} → r ≡ Ok result → survey_of image (room (memory_of before map)) offset ≡ Ok result
  surveyed loaded =
      let is = sym says.answer ∙ loaded in
      let ok = accept_rules image (memory_of before map) offset highmem (subst Accepted (sym is) is_accepted) in
      sym (by_headers image (memory_of before map) offset highmem ok.before) ∙ is

  pub results : {result : KernelLoaderResult} → r ≡ Ok result → ResultIs image offset (e_phnum_of image) result
  results {result} loaded =
      subst (λ n. ResultIs image offset n result) (zero-add (e_phnum_of image))
      (survey_with image (room (memory_of before map)) offset (ResultIs image offset)
      (λ i x e passed. one_more image offset i (of_passed (step_changes image (room (memory_of before map)) offset (header_of image i)) passed))
      (e_phnum_of image) 0 (blank (load_address image offset)) (at_first image offset) (surveyed loaded))

  values : {result : KernelLoaderResult} → ResultIs image offset (e_phnum_of image) result → r ≡ Ok result
      → (answer_number r ≡ 0) × ElfValues image offset (answer_values r)
  unfolding answer_number answer_values
  values {result} is loaded = (
    ap answer_number loaded,
    record {
      end = result.kernel_end.0;
      pvh = result.pvh_boot_cap;
      end_is = is.end;
      pvh_is = is.pvh;
      are = rw (loaded, is.load);
    },
  )

  pub accepted_values : Accepted r → (answer_number r ≡ 0) × ElfValues image offset (answer_values r)
  accepted_values ok = by r ok refl
    where
      by : (a : Answer) → Accepted a → r ≡ a → (answer_number r ≡ 0) × ElfValues image offset (answer_values r)
      by (Err _) x3 loaded = elim x3 [ ]
      by (Ok result) is_accepted loaded = values (results loaded) loaded
