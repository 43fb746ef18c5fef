-- Laws of the plan by which a line is loaded.
use Rattle.std.specs.Prelude.{Ok, Err, is_ok}
use Prim.Native.Nat.{ℕ}
use mathlib.Core.Path.{◌≡◌, refl, sym, ap, ◌∙◌, subst}
use mathlib.Core.Bool.{true, false}
use mathlib.Core.List.{List, [], ◌∷◌, ◌++◌}
use native.Mathlib.Omega.{arith}
use borrow.Author.Tests.{leb-false}
use lib.Dec.{leb}
use lib.ListN.{length, length-append}
use Rattle.answers.specs.Tests.{Test, asked, asked_all, AllHold, FirstFails, Check, pass}
use Rattle.answers.specs.declared.Refusal.{Refusal}
use Rattle.answers.specs.declared.Refusal.TheVariants.{InvalidCommandLine, CommandLineOverflow}
use Rattle.answers.proofs.TestsLaws.{hold_right}
use Rattle.cmdline.specs.Text.{Text, size_of}
use Rattle.cmdline.specs.Writing.{whole_line, text_gate, bare}
use Rattle.cmdline.proofs.WritingLaws.{whole_size}
use Rattle.guest.specs.Lent.{memory_tests}
use Rattle.guest.specs.Loading.{Plan}
use Rattle.guest.specs.Room.{room, memory_of}
use Rattle.guest.specs.Stream.{pour, stream_at}
use Rattle.guest.specs.declared.Map.{Map}
use Rattle.guest.specs.declared.Memory.{Memory}
use Rattle.guest.proofs.RoomLaws.{room_beyond}
use Rattle.guest.proofs.LoadingLaws.{behind_with, tests_open, tests_shut, all_planned, first_planned}
use Rattle.loader.specs.Lines.{line_bytes, text_row, room_row, tests, line_plan, plan_of, LineLoads}

-- the line and its zero have the counted size
pub line_length : (b i : List ℕ) → length (line_bytes (bare b i)) ≡ size_of (length b) (length i)
line_length b i = length-append (whole_line b i) (0 ∷ []) ∙ whole_size b i

-- the tests as they are called, one after the other: memory's, the text's, the room's
pub row_tests : (b i : List ℕ) (m : Memory) (address : ℕ)
    → asked (asked (asked_all pass (memory_tests m)) (is_ok (text_gate (bare b i))) InvalidCommandLine) (room m address (size_of (length b) (length i))) CommandLineOverflow
    ≡ asked_all pass (tests (bare b i) m address)
row_tests b i m address = rw (line_length b i)

-- ---- room for a line

pub long_line : (m : Memory) (address b i : ℕ) → leb (size_of b i) m.size ≡ false → room m address (size_of b i) ≡ false
long_line m address b i e = let over = leb-false (size_of b i) m.size e in room_beyond m address (size_of b i) (omega arith)

module _ (t : Text) (m : Memory) (address : ℕ) where
  abbrev row : List Test
  row = tests t m address

  -- a line that passed the tests has room
  pub hold_room : AllHold row → room m address (length (line_bytes t)) ≡ true
  hold_room hold = (hold_right (text_row t) (room_row t m address) (hold_right (memory_tests m) (text_row t ++ room_row t m address) hold)).0

  -- a plan by its answer: one that loads passed all tests, and one that refuses failed one
  pub plan_loaded : (plan_of t m address).answer ≡ pass → AllHold row
  plan_loaded =
      behind_with Err row (line_plan t address) (λ p. p.answer ≡ pass → AllHold row) (λ hold _. hold)
      (λ r fails e. let z : ◌≡◌ {A = ℕ} 0 1 = cc in absurd (omega arith))

  pub plan_refused : {refusal : Refusal} → (plan_of t m address).answer ≡ Err refusal → FirstFails refusal row
  plan_refused {refusal} =
      behind_with Err row (line_plan t address) (λ p. p.answer ≡ Err refusal → FirstFails refusal row)
      (λ hold e. let z : ◌≡◌ {A = ℕ} 0 1 = cc in absurd (omega arith))
      (λ r fails e. let same : ◌≡◌ {A = Refusal} r refusal = cc in subst (λ x. FirstFails x row) same fails)

  -- the answer, as code works it out
  pub answer_shut : {gate : Check} {refusal : Refusal} → gate ≡ asked_all pass row → gate ≡ Err refusal → Err refusal ≡ (plan_of t m address).answer
  answer_shut asked is = sym (ap (λ (p : Plan Check). p.answer) (tests_shut Err row (line_plan t address) (sym asked ∙ is)))

  pub answer_open : {gate : Check} → gate ≡ asked_all pass row → gate ≡ pass → pass ≡ (plan_of t m address).answer
  answer_open asked is = sym (ap (λ (p : Plan Check). p.answer) (tests_open Err row (line_plan t address) (sym asked ∙ is)))

  -- the answer of the tests, as it is returned
  pub answer_as : {gate : Check} → gate ≡ asked_all pass row → gate ≡ (plan_of t m address).answer
  answer_as {gate} e = by gate e refl
    where
      by : (g : Check) → gate ≡ asked_all pass row → gate ≡ g → gate ≡ (plan_of t m address).answer
      by (Ok _) a is = is ∙ answer_open a is
      by (Err r) a is = is ∙ answer_shut a is

-- ---- what code does by the answer

module _ (t : Text) (address : ℕ) (map : Map) (guest : List ℕ) where
  pub refused_loads : {answer : Check} {refusal : Refusal} → answer ≡ (plan_of t (memory_of guest map) address).answer → answer ≡ Err refusal
      → LineLoads t address map guest (Err refusal) guest
  unfolding pour
  refused_loads ea er =
      let m = memory_of guest map in
      rw (first_planned Err (tests t m address) (line_plan t address) (plan_refused t m address (sym ea ∙ er))) (record { answer = refl; memory = refl })

  pub written_loads : {answer : Check} {after : List ℕ} → answer ≡ (plan_of t (memory_of guest map) address).answer → answer ≡ pass
      → after ≡ pour (stream_at address (line_bytes t)) guest → LineLoads t address map guest pass after
  written_loads ea er written =
      let m = memory_of guest map in
      rw (all_planned Err (tests t m address) (line_plan t address) (plan_loaded t m address (sym ea ∙ er))) (record { answer = refl; memory = written })
