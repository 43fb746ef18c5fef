-- "Two images of one length that hold the same bytes in the header, the program headers and the notes have the same plan": the same answer, the same
-- number of parts and the same parts, whatever the rest of either image holds. So a caller may plan with those bytes only, and copy the parts
-- from the whole image (`loads`, Footprint).
use Rattle.std.specs.Prelude.{Ok, Err, Option, Result}
use Rattle.guest.specs.declared.GuestAddress.{GuestAddress}
use Rattle.answers.specs.declared.Refusal.{Refusal}
use Rattle.guest.specs.Answers.{Answer}
use Prim.Native.Nat.{ℕ, zero, suc, ◌+◌, ◌*◌, ◌≤◌, ◌<◌}
use mathlib.Core.Path.{◌≡◌, ◌∙◌, refl, ap}
use mathlib.Core.Bool.{false}
use mathlib.Core.List.{List}
use native.Mathlib.Omega.{arith}
use borrow.Author.Tests.{eqb-true, ltb-true}
use lib.Dec.{eqb, ltb}
use Rattle.answers.specs.Pick.{pick}
use Rattle.answers.proofs.PickLaws.{pick_both}
use Rattle.fields.specs.Agreement.{Agree}
use Rattle.fields.specs.Numbers.{le}
use Rattle.fields.proofs.AgreementLaws.{agree_within, agree_le, agree_tag}
use Rattle.guest.specs.Addresses.{amount_of, is_given}
use Rattle.guest.specs.Parts.{no_part}
use Rattle.guest.specs.Room.{room}
use Rattle.guest.specs.declared.Memory.{Memory}
use Rattle.guest.proofs.LoadingLaws.{answer_same}
use Rattle.elf.specs.Footprint.{SameNotes, SameFootprint}
use Rattle.elf.specs.Header.{magic, e_phoff_of, e_phnum_of, program_header_size, tests}
use Rattle.elf.specs.Parts.{part_at, part_of}
use Rattle.elf.specs.Pouring.{survey_plan, plan_of}
use Rattle.elf.specs.ProgramHeaders.{header_place, header_at, header_of}
use Rattle.elf.specs.Survey.{Rooms, note_step, said_step, step_of, after_step, advanced, survey_from, survey_of, blank, load_address}
use Rattle.guest.specs.declared.KernelLoaderResult.{KernelLoaderResult}
use Rattle.elf.specs.declared.program_headers.ProgramHeader.{ProgramHeader}
use Rattle.elf.specs.declared.survey.Effect.{Effect}
use Rattle.elf.proofs.NotesFootprint.{entry_same}

-- ---- what is read

-- a program header at a place
at_same : (s t : List ℕ) (p : ℕ) → Agree s t p program_header_size → header_at s p ≡ header_at t p
unfolding header_at
at_same s t p agree =
    rw (
      agree_le s t 4 p (agree_within s t p program_header_size p 4 agree (omega arith) (omega arith)),
      agree_le s t 8 (p + 8) (agree_within s t p program_header_size (p + 8) 8 agree (omega arith) (omega arith)),
      agree_le s t 8 (p + 24) (agree_within s t p program_header_size (p + 24) 8 agree (omega arith) (omega arith)),
      agree_le s t 8 (p + 32) (agree_within s t p program_header_size (p + 32) 8 agree (omega arith) (omega arith)),
      agree_le s t 8 (p + 40) (agree_within s t p program_header_size (p + 40) 8 agree (omega arith) (omega arith)),
    )

module _ (s t : List ℕ) (offset : Option GuestAddress) (same : SameFootprint s t offset) where
  -- a field of the header
  field_same : (n p : ℕ) → p + n ≤ 64 → le n s p ≡ le n t p
  field_same n p h = agree_le s t n p (agree_within s t 0 64 p n same.header (omega arith) (omega arith))

  pub phnum_same : e_phnum_of s ≡ e_phnum_of t
  phnum_same = field_same 2 56 (omega arith)

  -- a program header
  header_same : (j : ℕ) → j < e_phnum_of s → header_of s j ≡ header_of t j
  header_same j lt =
      at_same s t (header_place s j) (agree_within s t (e_phoff_of s) (program_header_size * e_phnum_of s) (header_place s j) program_header_size same.program_headers (omega arith) (omega arith))
      ∙ ap (λ p. header_at t (p + program_header_size * j)) (field_same 8 32 (omega arith))

  -- ---- the answer

  module _ (hasRoom : Rooms) where
    -- what a program header says, which the footprint has
    said_same : (h : ProgramHeader) → (is_given offset ≡ false → SameNotes s t h) → step_of s hasRoom offset h ≡ step_of t hasRoom offset h
    unfolding step_of note_step
    said_same h notes =
        rw same.lengths
        (pick_both ◌≡◌ (eqb h.p_type 1) (λ _. refl)
        (λ _. pick_both ◌≡◌ (eqb h.p_type 4)
        (λ is. pick_both ◌≡◌ (is_given offset) (λ _. refl)
        (λ none. ap said_step (entry_same s t same.lengths h.p_offset h.p_filesz (notes none (eqb-true h.p_type 4 is)))))
        (λ _. refl)))

    step_same : (j : ℕ) → j < e_phnum_of s → step_of s hasRoom offset (header_of s j) ≡ step_of t hasRoom offset (header_of t j)
    step_same j lt = said_same (header_of s j) (λ none. same.notes none j lt) ∙ ap (step_of t hasRoom offset) (header_same j lt)

    survey_same : (n i : ℕ) (result : KernelLoaderResult) → i + n ≤ e_phnum_of s → survey_from n s hasRoom offset i result ≡ survey_from n t hasRoom offset i result
    unfolding survey_from
    survey_same zero i result h = refl
    survey_same (suc n) i result h =
        ap (λ (x : Result Effect Refusal). after_step x (λ e. survey_from n s hasRoom offset (suc i) (advanced result e))) (step_same i (omega arith))
        ∙ by (step_of t hasRoom offset (header_of t i)) (λ e. survey_same n (suc i) (advanced result e) (omega arith))
      where
        by : {more more' : Effect → Answer} (x : Result Effect Refusal) → ((e : Effect) → more e ≡ more' e) → after_step x more ≡ after_step x more'
        by (Ok e) rest = rest e
        by (Err r) rest = refl

    all_same : survey_of s hasRoom offset ≡ survey_of t hasRoom offset
    all_same =
        survey_same (e_phnum_of s) 0 (blank (load_address s offset)) (omega arith)
        ∙ ap (λ n. survey_from n t hasRoom offset 0 (blank (load_address s offset))) phnum_same
        ∙ ap (λ entry. survey_from (e_phnum_of t) t hasRoom offset 0 (blank (record { 0 = amount_of offset + entry }))) (field_same 8 24 (omega arith))

  module _ (m : Memory) where
    tests_same : (highmem : Option GuestAddress) → tests s m offset highmem ≡ tests t m offset highmem
    tests_same highmem =
        rw (
          same.lengths,
          agree_tag s t magic 0 (agree_within s t 0 64 0 4 same.header (omega arith) (omega arith)),
          field_same 1 5 (omega arith),
          field_same 2 54 (omega arith),
          field_same 8 32 (omega arith),
          field_same 8 24 (omega arith),
          phnum_same,
        )

    pub plan_same : (highmem : Option GuestAddress) → (plan_of s m offset highmem).answer ≡ (plan_of t m offset highmem).answer
    plan_same highmem = answer_same Err (survey_plan s offset (survey_of s (room m) offset)) (survey_plan t offset (survey_of t (room m) offset)) (tests_same highmem) (all_same (room m))

  -- ---- the parts

  part_same : (i : ℕ) → i < e_phnum_of s → part_at s (amount_of offset) i ≡ part_at t (amount_of offset) i
  unfolding part_at
  part_same i lt = rw (header_same i lt, same.lengths, field_same 8 32 (omega arith))

  pub parts_same : (i : ℕ) → part_of s offset i ≡ part_of t offset i
  unfolding part_of
  parts_same i =
      pick_both ◌≡◌ (ltb i (e_phnum_of s)) (λ below. part_same i (ltb-true i (e_phnum_of s) below)) (λ _. refl)
      ∙ ap (λ n. pick (ltb i n) (part_at t (amount_of offset) i) no_part) phnum_same
