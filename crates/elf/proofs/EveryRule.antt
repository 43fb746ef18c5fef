-- "A load answers with success exactly when every rule holds for every header, whichever order they are asked in": rules_accept and
-- accept_rules.
use Rattle.std.specs.Prelude.{Ok, Err, Option, Result}
use Rattle.answers.specs.declared.Refusal.{Refusal}
use Rattle.elf.specs.declared.survey.Effect.{Effect}
use Rattle.guest.specs.Answers.{Answer}
use Prim.Native.Nat.{ℕ, zero, suc, ◌<◌}
use mathlib.Core.Path.{◌≡◌, refl, subst⁻¹}
use mathlib.Core.Bool.{Bool, true, false}
use mathlib.Core.List.{List}
use native.Mathlib.Omega.{arith}
use borrow.Author.Tests.{eqb-true, eqb-false, le-leb}
use lib.Dec.{leb}
use lib.ListN.{length}
use Rattle.answers.specs.Tests.{Test, asked_all, AllHold, Check, pass}
use Rattle.answers.proofs.PickLaws.{pick_with}
use Rattle.answers.proofs.TestsLaws.{open_all, all_open}
use Rattle.guest.specs.Addresses.{amount_of, is_given}
use Rattle.guest.specs.Room.{room}
use Rattle.guest.specs.declared.GuestAddress.{GuestAddress}
use Rattle.guest.specs.declared.Memory.{Memory}
use Rattle.elf.specs.ProgramHeaders.{header_of}
use Rattle.elf.specs.Notes.{NoteAnswer}
use Rattle.elf.specs.NoteWalk.{entry_of}
use Rattle.elf.specs.Survey.{segment_tests, memory_tests, end_of, step_by, load_step, said_step, note_step, step_of}
use Rattle.elf.specs.Pouring.{plan_of}
use Rattle.elf.specs.Verdict.{Passes, passes, Verdict, accepted, Accepted, is_accepted, by_header, by_test}
use Rattle.elf.specs.Rules.{SegmentFits, MemoryRules, NotesSay, notes_say, HeaderRules, Rules}
use Rattle.elf.specs.declared.program_headers.ProgramHeader.{ProgramHeader}
use Rattle.elf.proofs.Verdicts.{none_decides, verdict}

-- ---- one program header passes exactly where its rules hold

passes_open : (gate : Check) (end : GuestAddress) → Passes (step_by gate end) → gate ≡ pass
passes_open (Err _) end x'' = elim x'' [ ]
passes_open (Ok _) end passes = refl

hold_passes : (ts : List Test) (end : GuestAddress) → AllHold ts → Passes (step_by (asked_all pass ts) end)
hold_passes ts end hold = subst⁻¹ (λ (gate : Check). Passes (step_by gate end)) (all_open ts hold) passes

said_passes : {said : NoteAnswer} → NotesSay said → Passes (said_step said)
said_passes notes_say = passes

passes_said : (said : NoteAnswer) → Passes (said_step said) → NotesSay said
passes_said (Err _) x'' = elim x'' [ ]
passes_said (Ok note) passes = notes_say

pub both_ways : {b : Bool} → b ≡ true → b ≡ false → ⊥
both_ways e f = let w : ◌≡◌ {A = ℕ} 0 1 = cc in omega arith

pub positive : (n : ℕ) → (n ≡ 0 → ⊥) → 0 < n
positive zero z = absurd (z refl)
positive (suc n) z = omega arith

module _ (image : List ℕ) (m : Memory) (offset : Option GuestAddress) (h : ProgramHeader) where
  abbrev Rule : Type 0
  Rule = HeaderRules image m offset h

  abbrev shift : ℕ
  shift = amount_of offset

  abbrev row : List Test
  row = segment_tests (length image) (room m) shift h

  -- if it passes, its rules hold
  abbrev Ruled : Result Effect Refusal → Type 0
  Ruled t = Passes t → Rule

  -- the rules of a program header, by its type
  loadable : h.p_type ≡ 1 → leb h.p_filesz h.p_memsz ≡ true → SegmentFits (length image) m shift h
      → (h.p_type ≡ 1 → h.p_filesz ≡ 0 → 0 < h.p_memsz → MemoryRules shift h) → Rule
  loadable is-1 sized file memory = record { sizes = λ _. sized; segment = file; memory = memory; notes = λ is-4 _. absurd (omega arith) }

  other_type : (h.p_type ≡ 1 → ⊥) → (h.p_type ≡ 4 → is_given offset ≡ false → NotesSay (entry_of image h.p_offset h.p_filesz)) → Rule
  other_type not-1 notes =
      record { sizes = λ is-1. absurd (not-1 is-1); segment = λ is-1 _. absurd (not-1 is-1); memory = λ is-1 _ _. absurd (not-1 is-1); notes = notes }

  load_ruled : h.p_type ≡ 1 → Ruled (load_step (length image) (room m) shift h)
  unfolding load_step
  load_ruled is-1 =
      pick_with Ruled _
      (λ no-file. let none = eqb-true h.p_filesz 0 no-file in let sized = le-leb h.p_filesz h.p_memsz (omega arith) in
      pick_with Ruled _
      (λ no_memory _. let empty = eqb-true h.p_memsz 0 no_memory in loadable is-1 sized (λ _ some. absurd (omega arith)) (λ _ _ some. absurd (omega arith)))
      (λ _ p. let all = open_all (memory_tests shift h) (passes_open _ _ p) in
      loadable is-1 sized (λ _ some. absurd (omega arith)) (λ _ _ _. record { address_fits = all.0; end_fits = all.1.0 })))
      (λ file p. let some = eqb-false h.p_filesz 0 file in let all = open_all row (passes_open _ _ p) in
      loadable is-1 all.0
      (λ _ _. record { address_fits = all.1.0; in_image = all.1.1.0; in_guest = all.1.1.1.0; end_fits = all.1.1.1.1.0 })
      (λ _ none _. absurd (some none)))

  passes_rules : Ruled (step_of image (room m) offset h)
  unfolding step_of note_step
  passes_rules =
      pick_with Ruled _ (λ one. load_ruled (eqb-true h.p_type 1 one))
      (λ other. let not-1 = eqb-false h.p_type 1 other in
      pick_with Ruled _
      (λ _. pick_with Ruled _ (λ given _. other_type not-1 (λ _ none. absurd (both_ways given none)))
      (λ _ p. other_type not-1 (λ _ _. passes_said (entry_of image h.p_offset h.p_filesz) p)))
      (λ other' _. other_type not-1 (λ is-4 _. absurd (eqb-false h.p_type 4 other' is-4))))

  load_passes : Rule → h.p_type ≡ 1 → Passes (load_step (length image) (room m) shift h)
  unfolding load_step
  load_passes rule is-1 =
      pick_with Passes _
      (λ no-file. pick_with Passes _ (λ _. passes)
      (λ memory. let r = rule.memory is-1 (eqb-true h.p_filesz 0 no-file) (positive h.p_memsz (eqb-false h.p_memsz 0 memory)) in
      hold_passes (memory_tests shift h) (end_of shift h) (r.address_fits, (r.end_fits, tt))))
      (λ file. let r = rule.segment is-1 (positive h.p_filesz (eqb-false h.p_filesz 0 file)) in
      hold_passes row (end_of shift h) (rule.sizes is-1, (r.address_fits, (r.in_image, (r.in_guest, (r.end_fits, tt))))))

  rules_pass : Rule → Passes (step_of image (room m) offset h)
  unfolding step_of note_step
  rules_pass rule =
      pick_with Passes _ (λ one. load_passes rule (eqb-true h.p_type 1 one))
      (λ _. pick_with Passes _
      (λ four. pick_with Passes _ (λ _. passes) (λ none. said_passes (rule.notes (eqb-true h.p_type 4 four) none)))
      (λ _. passes))

-- ---- the whole load

module _ (image : List ℕ) (m : Memory) (offset highmem : Option GuestAddress) where
  abbrev told : Answer
  told = (plan_of image m offset highmem).answer

  pub rules_accept : Rules image m offset highmem → Accepted told
  rules_accept rules = none_decides image m offset highmem rules.before (λ j lt. rules_pass image m offset (header_of image j) (rules.headers j lt))

  of_verdict : {a : Answer} → Verdict image m offset highmem a → Accepted a → Rules image m offset highmem
  of_verdict (by_header {r = r} _ _) x8 = elim x8 [ ]
  of_verdict (by_test {r = r} _) x5 = elim x5 [ ]
  of_verdict (accepted hold pass) is_accepted = record { before = hold; headers = λ j lt. passes_rules image m offset (header_of image j) (pass j lt) }

  pub accept_rules : Accepted told → Rules image m offset highmem
  accept_rules = of_verdict (verdict image m offset highmem)
