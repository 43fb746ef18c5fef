-- The plan when the image is lengthened by t and guest memory grows to m': it is the same, or it refused with what may lift. One argument
-- serves the image and guest memory, alone and together: a refusal for image bytes lifts, or nothing was added to the image.
use Rattle.std.specs.Prelude.{Ok, Err, Option, Result}
use Rattle.guest.specs.Answers.{Answer}
use Prim.Native.Nat.{ℕ, zero, suc, ◌+◌, ◌≤◌, ◌<◌}
use mathlib.Core.Path.{◌≡◌, sym, ◌∙◌, refl, ap, subst⁻¹}
use mathlib.Core.List.{List, [], ◌∷◌, ◌++◌}
use mathlib.Core.Logic.{◌⊎◌, ⊎_elim}
use native.Mathlib.Omega.{arith}
use native.Mathlib.Nat.{zero-add}
use native.Mathlib.Decide.{dec_le, ℕ_discrete}
use borrow.Author.Tests.{leb-true}
use lib.Dec.{leb}
use lib.ListN.{length, drop, length-drop}
use lib.Seq.{take-append-le, drop-append-le}
use Rattle.answers.specs.Listing.{contains}
use Rattle.answers.specs.Tests.{AllHold, Check}
use Rattle.answers.specs.Keeping.{Keeps, same, lifted, ShutBy, shut_by}
use Rattle.answers.specs.declared.Refusal.{Refusal}
use Rattle.answers.specs.declared.Refusal.TheVariants.{ReadElfHeader, ReadProgramHeader, ReadKernelImage, ReadNoteHeader}
use Rattle.answers.proofs.KeepingLaws.{Widens, end, stays, grows, equal, pick_same, leb_grows, row_keeps, widens_append, widens_same}
use Rattle.fields.proofs.NumbersLaws.{le_append}
use Rattle.fields.proofs.RangesLaws.{within_sum}
use Rattle.fields.proofs.TagsLaws.{tag_append}
use Rattle.guest.specs.Addresses.{amount_of}
use Rattle.guest.specs.Lent.{lent_tests}
use Rattle.guest.specs.Loading.{RefusedFor}
use Rattle.guest.specs.Room.{Grows, room}
use Rattle.guest.specs.declared.GuestAddress.{GuestAddress}
use Rattle.guest.specs.declared.Memory.{Memory}
use Rattle.guest.proofs.LoadingLaws.{LiftPlan, behind_keeps}
use Rattle.elf.specs.Header.{header_size, program_header_size, magic, e_phoff_of, e_phnum_of, stand_within, length_tests, file_tests, entry_tests, stand_tests, field_tests, tests}
use Rattle.elf.specs.ProgramHeaders.{header_place, header_at, header_of, HeadersStand}
use Rattle.elf.specs.Survey.{segment_tests, end_of, step_by, load_step, said_step, note_step, step_of, advanced, blank, after_step, survey_from, load_address, survey_of}
use Rattle.elf.specs.Notes.{NoteAnswer}
use Rattle.elf.specs.Pouring.{segment_stream, stream_from, whole_stream, if_loaded, survey_plan, plan_of}
use Rattle.elf.specs.Verdict.{Accepted, is_accepted}
use Rattle.elf.specs.Rules.{SegmentFits}
use Rattle.elf.specs.Lengthening.{ForBytes}
use Rattle.guest.specs.declared.KernelLoaderResult.{KernelLoaderResult}
use Rattle.elf.specs.declared.program_headers.ProgramHeader.{ProgramHeader}
use Rattle.elf.specs.declared.survey.Effect.{Effect}
use Rattle.elf.proofs.HeaderLaws.{stand_grows, header_stands, headers_stand}
use Rattle.elf.proofs.Verdicts.{by_headers}
use Rattle.elf.proofs.PouringLaws.{stream_none, stream_empty, stream_loads}
use Rattle.elf.proofs.FitsLaws.{accepted_stand, accepted_fit}
use Rattle.elf.proofs.NotesLengthened.{LiftNote, lift_note, longer, as_long, image_widens, entry_longer}

-- ---- the kinds that may lift, from a program header up to the plan

for_header : ForBytes ReadElfHeader
unfolding contains
for_header = refl

for_program_header : ForBytes ReadProgramHeader
unfolding contains
for_program_header = refl

pub for_segment : ForBytes ReadKernelImage
unfolding contains
for_segment = refl

for_note : ForBytes ReadNoteHeader
unfolding contains
for_note = refl

module _ (Lifts : Refusal → Type 0) where
  data LiftStep : Result Effect Refusal → Type 0 where
    lift_step : {r : Refusal} → Lifts r → LiftStep (Err r)

  abbrev LiftAnswer : Answer → Type 0
  LiftAnswer = RefusedFor Err Lifts

  -- what follows each of them

  gate_after : {x x' : Check} (at : GuestAddress) → Keeps (ShutBy Lifts) x x' → Keeps LiftStep (step_by x at) (step_by x' at)
  gate_after at same = same
  gate_after at (lifted (shut_by l)) = lifted (lift_step l)

  said_after : {x x' : NoteAnswer} → Keeps (LiftNote Lifts) x x' → Keeps LiftStep (said_step x) (said_step x')
  said_after same = same
  said_after (lifted (lift_note l)) = lifted (lift_step l)

  step_after : {x x' : Result Effect Refusal} {more more' : Effect → Answer} → Keeps LiftStep x x' → ((e : Effect) → Keeps LiftAnswer (more e) (more' e))
      → Keeps LiftAnswer (after_step x more) (after_step x' more')
  step_after (lifted (lift_step {r} l)) rest = lifted (record { refusal = r; lifts = l; is = refl })
  step_after {x} {more = more} {more' = more'} same rest = at x
    where
      at : (x : Result Effect Refusal) → Keeps LiftAnswer (after_step x more) (after_step x more')
      at (Ok e) = rest e
      at (Err r) = same

-- ---- an image and what is added to it

module _ (s t : List ℕ) where
  pub header_append : (p : ℕ) → p + program_header_size ≤ length s → header_at (s ++ t) p ≡ header_at s p
  unfolding header_at
  header_append p h =
      rw (
        le_append 4 s t p (omega arith),
        le_append 8 s t (p + 8) (omega arith),
        le_append 8 s t (p + 24) (omega arith),
        le_append 8 s t (p + 32) (omega arith),
        le_append 8 s t (p + 40) (omega arith),
      )

-- ---- what is written from the image, where it fits

module _ (s t : List ℕ) (m : Memory) (shift : ℕ) where
  segment_stream_lem : (h : ProgramHeader) → SegmentFits (length s) m shift h → segment_stream (s ++ t) shift h ≡ segment_stream s shift h
  segment_stream_lem h fits = split (ℕ_discrete h.p_type 1) (dec_le 1 h.p_filesz)
    where
      split : Dec (h.p_type ≡ 1) → Dec (1 ≤ h.p_filesz) → segment_stream (s ++ t) shift h ≡ segment_stream s shift h
      split (no other) any = stream_none (s ++ t) shift h other ∙ sym (stream_none s shift h other)
      split (yes loads) (no empty) = stream_empty (s ++ t) shift h (omega arith) ∙ sym (stream_empty s shift h (omega arith))
      split (yes loads) (yes some) =
          let in_image = within_sum (length s) h.p_offset.0 h.p_filesz (fits loads some).in_image in
          let enough : h.p_filesz ≤ length (drop h.p_offset.0 s) = simp length-drop (omega arith) in
          rw (
            stream_loads (s ++ t) shift h loads,
            stream_loads s shift h loads,
            drop-append-le h.p_offset.0 s t (omega arith),
            take-append-le h.p_filesz (drop h.p_offset.0 s) t enough,
          )

  stream_longer : (n i : ℕ) → ((j : ℕ) → j < i + n → header_place s j + 56 ≤ length s)
      → ((j : ℕ) → i ≤ j → j < i + n → SegmentFits (length s) m shift (header_of s j))
      → stream_from n (s ++ t) shift i ≡ stream_from n s shift i
  unfolding stream_from
  stream_longer zero i stand fits = refl
  stream_longer (suc n) i stand fits =
      let first = stand i (omega arith) in
      rw (
        le_append 8 s t 32 (omega arith),
        header_append s t (header_place s i) first,
        segment_stream_lem (header_of s i) (fits i (omega arith) (omega arith)),
        stream_longer n (suc i) (λ j lt. stand j (omega arith)) (λ j le lt. fits j (omega arith) (omega arith)),
      )

module _ (s t : List ℕ) (Lifts : Refusal → Type 0) (lifts : (r : Refusal) → ForBytes r → (t ≡ []) ⊎ Lifts r) where
  -- ---- program headers, with more guest memory too

  module _ (m m' : Memory) (more-memory : Grows m m') (lifts-room : Lifts ReadKernelImage) (offset highmem : Option GuestAddress) where
    segment_longer : (shift : ℕ) (h : ProgramHeader) → Widens Lifts (segment_tests (length s) (room m) shift h) (segment_tests (length (s ++ t)) (room m') shift h)
    segment_longer shift h =
        stays refl
        (λ _. stays refl
        (λ _. image_widens s t Lifts ReadKernelImage (lifts ReadKernelImage for_segment) h.p_offset.0 h.p_filesz
        (λ _. grows (more-memory.rooms _ _) lifts-room (λ _. stays refl (λ _. end)))))

    load_longer : (shift : ℕ) (h : ProgramHeader) → Keeps (LiftStep Lifts) (load_step (length s) (room m) shift h) (load_step (length (s ++ t)) (room m') shift h)
    unfolding load_step
    load_longer shift h = pick_same (LiftStep Lifts) _ _ refl (λ _. same) (λ _. gate_after Lifts (end_of shift h) (row_keeps Lifts (segment_longer shift h)))

    note_longer : (h : ProgramHeader) → Keeps (LiftStep Lifts) (note_step s offset h) (note_step (s ++ t) offset h)
    unfolding note_step
    note_longer h = pick_same (LiftStep Lifts) _ _ refl (λ _. same) (λ _. said_after Lifts (entry_longer s t Lifts (lifts ReadNoteHeader for_note) h.p_offset h.p_filesz))

    step_longer : (h : ProgramHeader) → Keeps (LiftStep Lifts) (step_of s (room m) offset h) (step_of (s ++ t) (room m') offset h)
    unfolding step_of
    step_longer h =
        pick_same (LiftStep Lifts) _ _ refl (λ _. load_longer (amount_of offset) h)
        (λ _. pick_same (LiftStep Lifts) _ _ refl (λ _. note_longer h) (λ _. same))

    survey_longer : (n i : ℕ) (result : KernelLoaderResult) → header_size ≤ length s → HeadersStand s (i + n)
        → Keeps (LiftAnswer Lifts) (survey_from n s (room m) offset i result) (survey_from n (s ++ t) (room m') offset i result)
    unfolding survey_from
    survey_longer zero i result long stand = same
    survey_longer (suc n) i result long stand =
        rw (le_append 8 s t 32 (omega arith), header_append s t (header_place s i) (stand.stands i (omega arith)))
        (step_after Lifts (step_longer (header_of s i))
        (λ e. survey_longer n (suc i) (advanced result e) long (record { stands = λ j lt. stand.stands j (omega arith) })))

    whole_longer : AllHold (tests s m offset highmem) → Keeps (LiftAnswer Lifts) (survey_of s (room m) offset) (survey_of (s ++ t) (room m') offset)
    whole_longer hold =
        let long = header_stands s m offset highmem hold in
        rw (le_append 2 s t 56 (omega arith), le_append 8 s t 24 (omega arith))
        (survey_longer (e_phnum_of s) 0 (blank (load_address s offset)) long
        (subst⁻¹ (HeadersStand s) (zero-add (e_phnum_of s)) (headers_stand s m offset highmem hold)))

    -- what is written comes from the image as it was
    stream_by : AllHold (tests s m offset highmem) → (a : Answer) → survey_of s (room m) offset ≡ a → if_loaded a (whole_stream (s ++ t) offset) ≡ if_loaded a (whole_stream s offset)
    unfolding whole_stream
    stream_by hold (Err r) e = refl
    stream_by hold (Ok result) e =
        let ok : Accepted (plan_of s m offset highmem).answer = subst⁻¹ Accepted (by_headers s m offset highmem hold ∙ e) is_accepted in
        let long = header_stands s m offset highmem hold in
        rw (le_append 2 s t 56 (omega arith))
        (stream_longer s t m (amount_of offset) (e_phnum_of s) 0 (λ j lt. (accepted_stand s m offset highmem ok).stands j (omega arith))
        (λ j le lt. accepted_fit s m offset highmem ok j (omega arith)))

    survey_planned : AllHold (tests s m offset highmem) → {a : Answer} → Keeps (LiftAnswer Lifts) (survey_of s (room m) offset) a
        → Keeps (LiftPlan Err Lifts) (survey_plan s offset (survey_of s (room m) offset)) (survey_plan (s ++ t) offset a)
    survey_planned hold (lifted l) = lifted l
    survey_planned hold same =
        equal (LiftPlan Err Lifts) (ap (λ ps. record { answer = survey_of s (room m) offset; stream = ps }) (stream_by hold (survey_of s (room m) offset) refl))

    -- ---- the tests before them

    module _ (lent : Widens Lifts (lent_tests (length s) m) (lent_tests (length (s ++ t)) m')) where
      length_asked : Widens Lifts (length_tests s) (length_tests (s ++ t))
      length_asked =
          ⊎_elim (λ e. stays (ap (leb header_size) (as_long s t e)) (λ _. end)) (λ l. grows (leb_grows header_size (length s) (length (s ++ t)) (longer s t)) l (λ _. end))
          (lifts ReadElfHeader for_header)

      stand_asked : Widens Lifts (stand_tests s) ((stand_within (length (s ++ t)) (e_phoff_of s) (e_phnum_of s), ReadProgramHeader) ∷ [])
      stand_asked =
          ⊎_elim (λ e. stays (ap (λ len. stand_within len (e_phoff_of s) (e_phnum_of s)) (as_long s t e)) (λ _. end))
          (λ l. grows (stand_grows (length s) (length (s ++ t)) (e_phoff_of s) (e_phnum_of s) (longer s t)) l (λ _. end))
          (lifts ReadProgramHeader for_program_header)

      -- the header stands in the image as it was, so its fields are the same
      fields_asked : header_size ≤ length s → Widens Lifts (field_tests s offset highmem) (field_tests (s ++ t) offset highmem)
      fields_asked long =
          rw (
            tag_append magic s t 0 (omega arith),
            le_append 1 s t 5 (omega arith),
            le_append 2 s t 54 (omega arith),
            le_append 8 s t 32 (omega arith),
            le_append 8 s t 24 (omega arith),
            le_append 2 s t 56 (omega arith),
          )
          (widens_append Lifts (widens_same Lifts (file_tests s)) (λ _. widens_append Lifts (widens_same Lifts (entry_tests s offset highmem)) (λ _. stand_asked)))

      row_longer : Widens Lifts (tests s m offset highmem) (tests (s ++ t) m' offset highmem)
      row_longer =
          widens_append Lifts lent
          (λ _. widens_append Lifts length_asked (λ stands. fields_asked (leb-true header_size (length s) stands.0)))

      pub plan_longer : Keeps (LiftPlan Err Lifts) (plan_of s m offset highmem) (plan_of (s ++ t) m' offset highmem)
      plan_longer = behind_keeps Err Lifts row_longer (λ hold. survey_planned hold (whole_longer hold))
