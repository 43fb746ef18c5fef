-- "Bad input gets its listed number", of an ELF load and of a note walk: a refusal has one of these numbers and no other.
use Rattle.std.specs.Prelude.{Ok, Err, Option, Result}
use Rattle.guest.specs.Answers.{Answer}
use Prim.Native.Nat.{ℕ, zero, suc, ◌+◌}
use mathlib.Core.Path.{◌≡◌, refl, subst}
use mathlib.Core.Bool.{Bool, true, false}
use mathlib.Core.List.{List}
use native.Mathlib.Omega.{arith}
use Rattle.answers.specs.Listing.{contains, Listed, row_listed}
use Rattle.answers.specs.Tests.{Test, asked_all, Check, pass}
use Rattle.answers.specs.declared.Refusal.{Refusal}
use Rattle.answers.proofs.ListingLaws.{first_listed}
use Rattle.answers.proofs.TestsLaws.{shut_first}
use Rattle.answers.specs.Pick.{pick}
use Rattle.answers.proofs.PickLaws.{pick_with}
use Rattle.guest.specs.Room.{room}
use Rattle.guest.specs.declared.GuestAddress.{GuestAddress}
use Rattle.guest.specs.declared.ImagePlace.{ImagePlace}
use Rattle.guest.specs.declared.Memory.{Memory}
use Rattle.reading.specs.Notes.{note_header_of}
use Rattle.elf.specs.Header.{tests}
use Rattle.elf.specs.Listing.{elf_numbers, note_numbers}
use Rattle.elf.specs.Notes.{is_pvh_note, note_length, note_at, note_tests, NoteAnswer}
use Rattle.elf.specs.NoteWalk.{turn_by, turn_at, after_turn, walk_from, twelves, entry_of, public_note}
use Rattle.elf.specs.Pouring.{plan_of}
use Rattle.elf.specs.Survey.{Rooms, segment_tests, memory_tests, end_of, step_by, load_step, said_step, note_step, step_of}
use Rattle.elf.specs.Verdict.{stops, Verdict, by_test, by_header, accepted}
use Rattle.elf.specs.declared.ElfNote.{ElfNote}
use Rattle.elf.specs.declared.notes.Turn.TheVariants as turn
use Rattle.elf.specs.declared.program_headers.ProgramHeader.{ProgramHeader}
use Rattle.elf.specs.declared.survey.Effect.{Effect}
use Rattle.elf.proofs.NotesLaws.{found}
use Rattle.elf.proofs.Verdicts.{verdict}

-- ---- notes: where the walk refuses, the number is one of a list that has those of a note's tests

data ListedNote (numbers : List ℕ) : NoteAnswer → Type 0 where
  says : {note : ElfNote} → ListedNote numbers (Ok note)
  refuses : {r : Refusal} → Listed numbers r → ListedNote numbers (Err r)

module _ (numbers : List ℕ) (row : (image : List ℕ) (p : ℕ) → row_listed numbers (note_tests image p) ≡ true) where
  turn_listed : (image : List ℕ) (p headers : ℕ) (more : ℕ → NoteAnswer) → ((k : ℕ) → ListedNote numbers (more k))
      → ListedNote numbers (after_turn (note_at image p) (turn_at image p) headers more)
  unfolding turn_at pick
  turn_listed image p headers more rest = by (asked_all pass (note_tests image p)) refl (is_pvh_note image p)
    where
      by : (gate : Check) → asked_all pass (note_tests image p) ≡ gate → (it : Bool)
          → ListedNote numbers (after_turn (note_at image p) (turn_by gate (pick it (found image p) (turn.Skip (note_length (note_header_of image p))))) headers more)
      by (Err r) e it = refuses (first_listed numbers (note_tests image p) (row image p) (shut_first (note_tests image p) r e))
      by (Ok _) e true = says
      by (Ok _) e false = rest (note_length (note_header_of image p))

  walk_listed : (left : ℕ) (image : List ℕ) (from size read headers : ℕ) → ListedNote numbers (walk_from left image from size read headers)
  unfolding walk_from
  walk_listed zero image from size read headers = says
  walk_listed (suc left) image from size read headers =
      pick_with (ListedNote numbers) _
      (λ _. turn_listed image (from + read) (suc headers) (λ k. walk_from left image from size (read + k) (suc headers)) (λ k. walk_listed left image from size (read + k) (suc headers)))
      (λ _. says)

  entry_listed : (image : List ℕ) (from : ImagePlace) (size : ℕ) → ListedNote numbers (entry_of image from size)
  unfolding entry_of
  entry_listed image from size = walk_listed (twelves size) image from.0 size 0 0

-- ---- the public walk

note_row : (image : List ℕ) (p : ℕ) → row_listed note_numbers (note_tests image p) ≡ true
unfolding note_tests row_listed contains
note_row image p = pick_with (λ (ts : List Test). row_listed note_numbers ts ≡ true) (is_pvh_note image p) (λ _. refl) (λ _. refl)

public_listed : (image : List ℕ) (from : ImagePlace) (size : ℕ) → ListedNote note_numbers (public_note image from size)
unfolding public_note contains
public_listed image from size = pick_with (ListedNote note_numbers) _ (λ _. entry_listed note_numbers note_row image from size) (λ _. refuses refl)

refused_listed : {a : NoteAnswer} {r : Refusal} → ListedNote note_numbers a → a ≡ Err r → Listed note_numbers r
refused_listed {r = r} (refuses {r = s} l) e = let same : s ≡ r = cc in subst (Listed note_numbers) same l
refused_listed (says {note}) e = absurd (let w : ◌≡◌ {A = ℕ} 0 1 = cc in omega arith)

pub note_listed : (image : List ℕ) (from : ImagePlace) (size : ℕ) {r : Refusal} → public_note image from size ≡ Err r → Listed note_numbers r
note_listed image from size e = refused_listed (public_listed image from size) e

-- ---- program headers

data ListedStep : Result Effect Refusal → Type 0 where
  step_passes : {e : Effect} → ListedStep (Ok e)
  step_stops : {r : Refusal} → Listed elf_numbers r → ListedStep (Err r)

row_listed_lem : (ts : List Test) (end : GuestAddress) → row_listed elf_numbers ts ≡ true → ListedStep (step_by (asked_all pass ts) end)
row_listed_lem ts end ok = by (asked_all pass ts) refl
  where
    by : (gate : Check) → asked_all pass ts ≡ gate → ListedStep (step_by gate end)
    by (Ok _) e = step_passes
    by (Err r) e = step_stops (first_listed elf_numbers ts ok (shut_first ts r e))

load_listed : (imageLength : ℕ) (hasRoom : Rooms) (shift : ℕ) (h : ProgramHeader) → ListedStep (load_step imageLength hasRoom shift h)
unfolding load_step row_listed contains
load_listed imageLength hasRoom shift h =
    pick_with ListedStep _ (λ _. pick_with ListedStep _ (λ _. step_passes) (λ _. row_listed_lem (memory_tests shift h) (end_of shift h) refl))
    (λ _. row_listed_lem (segment_tests imageLength hasRoom shift h) (end_of shift h) refl)

elf_row : (image : List ℕ) (p : ℕ) → row_listed elf_numbers (note_tests image p) ≡ true
unfolding note_tests row_listed contains
elf_row image p = pick_with (λ (ts : List Test). row_listed elf_numbers ts ≡ true) (is_pvh_note image p) (λ _. refl) (λ _. refl)

said_step_lem : {a : NoteAnswer} → ListedNote elf_numbers a → ListedStep (said_step a)
said_step_lem says = step_passes
said_step_lem (refuses l) = step_stops l

step_listed : (image : List ℕ) (hasRoom : Rooms) (offset : Option GuestAddress) (h : ProgramHeader) → ListedStep (step_of image hasRoom offset h)
unfolding step_of note_step
step_listed image hasRoom offset h =
    pick_with ListedStep _ (λ _. load_listed _ hasRoom _ h)
    (λ _. pick_with ListedStep _
    (λ _. pick_with ListedStep _ (λ _. step_passes) (λ _. said_step_lem (entry_listed elf_numbers elf_row image h.p_offset h.p_filesz)))
    (λ _. step_passes))

-- ---- the load

stop_listed : {s : Result Effect Refusal} {r : Refusal} → ListedStep s → s ≡ Err r → Listed elf_numbers r
stop_listed {r = r} (step_stops {r = t} l) e = let same : t ≡ r = cc in subst (Listed elf_numbers) same l
stop_listed (step_passes {e = x}) e = absurd (let w : ◌≡◌ {A = ℕ} 0 1 = cc in omega arith)

by_verdict : (image : List ℕ) (m : Memory) (offset highmem : Option GuestAddress) {a : Answer} {r : Refusal} → Verdict image m offset highmem a → a ≡ Err r → Listed elf_numbers r
unfolding row_listed contains
by_verdict image m offset highmem {r = r} (by_test {r = s} f) e =
    let same : s ≡ r = cc in subst (Listed elf_numbers) same (first_listed elf_numbers (tests image m offset highmem) refl f)
by_verdict image m offset highmem {r = r} (by_header {r = s} hold (stops k lt before is)) e =
    let same : s ≡ r = cc in subst (Listed elf_numbers) same (stop_listed (step_listed image (room m) offset _) is)
by_verdict image m offset highmem (accepted {result} hold pass) e = absurd (let w : ◌≡◌ {A = ℕ} 0 1 = cc in omega arith)

pub elf_listed : (image : List ℕ) (m : Memory) (offset highmem : Option GuestAddress) {r : Refusal} → (plan_of image m offset highmem).answer ≡ Err r → Listed elf_numbers r
elf_listed image m offset highmem e = by_verdict image m offset highmem (verdict image m offset highmem) e
