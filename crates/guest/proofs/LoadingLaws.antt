-- Laws of every load. A loader gives its tests, its stream and what may lift; what follows is said here once.
use Rattle.std.specs.Prelude.{Ok, Err}
use Prim.Native.Nat.{ℕ, ◌≤◌}
use mathlib.Core.Path.{◌≡◌, sym, ◌∙◌, refl, ap, subst⁻¹}
use mathlib.Core.Bool.{false}
use mathlib.Core.List.{List, [], ◌++◌}
use lib.ListN.{length, get_or}
use Rattle.answers.specs.Tests.{Test, asked_all, AllHold, FirstFails, Check, pass}
use Rattle.answers.specs.Keeping.{Keeps, same, lifted, ShutBy, shut_by}
use Rattle.answers.specs.declared.Refusal.{Refusal}
use Rattle.answers.proofs.TestsLaws.{open_all, all_open, shut_first, first_shut}
use Rattle.answers.proofs.KeepingLaws.{Widens, row_keeps, kept}
use Rattle.guest.specs.Maps.{ranges_of, in_ranges}
use Rattle.guest.specs.Room.{memory_of}
use Rattle.guest.specs.Stream.{pour, Inside, none}
use Rattle.guest.specs.Loading.{Plan, Loads, refused_plan, behind_gate, behind_tests, RefusedFor}
use Rattle.guest.specs.declared.Map.{Map}
use Rattle.guest.specs.declared.Memory.{Memory}
use Rattle.guest.proofs.RoomLaws.{no_range}
use Rattle.guest.proofs.StreamLaws.{length_pour, pour_longer, pour_hole}

-- ---- what a load leaves

module _ {A : Type 0} (plan : Plan A) (before after : List ℕ) {r : A} (loads : Loads plan before r after) where
  pub load_length : length after ≡ length before
  load_length = ap length loads.memory ∙ length_pour plan.stream before

  -- a plan that writes nothing leaves everything
  pub nothing_written : plan.stream ≡ [] → after ≡ before
  unfolding pour
  nothing_written e = loads.memory ∙ ap (λ ps. pour ps before) e

  -- no byte in a hole changes
  pub hole_untouched : (map : Map) → Inside (memory_of before map) plan.stream → (a : ℕ) → in_ranges (ranges_of map) a 1 ≡ false
      → get_or after a 0 ≡ get_or before a 0
  hole_untouched map inside a hole =
      ap (λ l. get_or l a 0) loads.memory ∙ pour_hole plan.stream before (memory_of before map) inside a (no_range (memory_of before map) a 1 hole)

  -- the same plan over longer memory: the same answer and bytes, the added memory untouched
  same_plan : (m : Memory) → Inside m plan.stream → m.size ≤ length before → {plan' : Plan A} → plan' ≡ plan → (more : List ℕ) {r' : A} {after' : List ℕ}
      → Loads plan' (before ++ more) r' after' → (r' ≡ r) × (after' ≡ after ++ more)
  same_plan m inside fits as_planned more loads' = (
    loads'.answer ∙ ap (λ (p : Plan A). p.answer) as_planned ∙ sym loads.answer,
    loads'.memory
        ∙ ap (λ (p : Plan A). pour p.stream (before ++ more)) as_planned
        ∙ pour_longer plan.stream before more m inside fits
        ∙ ap (λ l. l ++ more) (sym loads.memory),
  )

  -- more memory keeps a load, unless its answer may lift
  pub load_kept : (Lifts : A → Type 0) (m : Memory) → Inside m plan.stream → m.size ≤ length before → {plan' : Plan A}
      → Keeps (λ (p : Plan A). Lifts p.answer) plan plan' → (more : List ℕ) {r' : A} {after' : List ℕ} → Loads plan' (before ++ more) r' after'
      → (Lifts r → ⊥) → (r' ≡ r) × (after' ≡ after ++ more)
  load_kept Lifts m inside fits keeps more loads' stays =
      same_plan m inside fits (kept (λ (p : Plan A). Lifts p.answer) keeps (λ l. stays (subst⁻¹ Lifts loads.answer l))) more loads'

-- ---- a plan behind a row of tests

module _ {A : Type 0} (refused : Refusal → A) (ts : List Test) (plan : Plan A) where
  pub tests_open : asked_all pass ts ≡ pass → behind_tests refused ts plan ≡ plan
  unfolding behind_tests
  tests_open e = ap (λ gate. behind_gate refused gate plan) e

  pub tests_shut : {r : Refusal} → asked_all pass ts ≡ Err r → behind_tests refused ts plan ≡ refused_plan refused r
  unfolding behind_tests
  tests_shut e = ap (λ gate. behind_gate refused gate plan) e

  -- where all tests hold it is the plan, and where one fails the refusal of the first that does
  pub all_planned : AllHold ts → behind_tests refused ts plan ≡ plan
  all_planned h = tests_open (all_open ts h)

  pub first_planned : {r : Refusal} → FirstFails r ts → behind_tests refused ts plan ≡ refused_plan refused r
  first_planned {r} f = tests_shut (first_shut ts r f)

  -- so what holds of both holds of it
  by_gate : (P : Plan A → Type 0) → (AllHold ts → P plan) → ((r : Refusal) → FirstFails r ts → P (refused_plan refused r)) → (gate : Check)
      → asked_all pass ts ≡ gate → P (behind_gate refused gate plan)
  by_gate P holds fails (Ok _) e = holds (open_all ts e)
  by_gate P holds fails (Err r) e = fails r (shut_first ts r e)

  pub behind_with : (P : Plan A → Type 0) → (AllHold ts → P plan) → ((r : Refusal) → FirstFails r ts → P (refused_plan refused r))
      → P (behind_tests refused ts plan)
  unfolding behind_tests
  behind_with P holds fails = by_gate P holds fails (asked_all pass ts) refl

  -- it goes into memory where the plan does whenever all tests hold
  pub behind_inside : (m : Memory) → (AllHold ts → Inside m plan.stream) → Inside m (behind_tests refused ts plan).stream
  behind_inside m inside = behind_with (λ p. Inside m p.stream) inside (λ r f. none)

  -- what a function says that asks the tests and, if they pass, writes the plan's stream
  pub load_refused : {gate : Check} {r : Refusal} (before : List ℕ) → gate ≡ asked_all pass ts → gate ≡ Err r
      → Loads (behind_tests refused ts plan) before (refused r) before
  unfolding pour
  load_refused before asked is = rw (tests_shut (sym asked ∙ is)) (record { answer = refl; memory = refl })

  pub load_accepted : {gate : Check} {before after : List ℕ} → gate ≡ asked_all pass ts → gate ≡ pass → after ≡ pour plan.stream before
      → Loads (behind_tests refused ts plan) before plan.answer after
  load_accepted asked is written = rw (tests_open (sym asked ∙ is)) (record { answer = refl; memory = written })

-- ---- more memory, or more image bytes: tests that widen, and a plan that is kept behind them

module _ {A : Type 0} (refused : Refusal → A) (Lifts : Refusal → Type 0) where
  -- a plan that refuses with one of these
  abbrev pub LiftPlan : Plan A → Type 0
  LiftPlan plan = RefusedFor refused Lifts plan.answer

  gate_keeps : {x x' : Check} {plan plan' : Plan A} → Keeps (ShutBy Lifts) x x' → (x ≡ pass → Keeps LiftPlan plan plan')
      → Keeps LiftPlan (behind_gate refused x plan) (behind_gate refused x' plan')
  gate_keeps (lifted (shut_by {refusal = r} l)) rest = lifted (record { refusal = r; lifts = l; is = refl })
  gate_keeps {x} {plan = plan} {plan' = plan'} same rest = at x rest
    where
      at : (x : Check) → (x ≡ pass → Keeps LiftPlan plan plan') → Keeps LiftPlan (behind_gate refused x plan) (behind_gate refused x plan')
      at (Ok _) rest = rest refl
      at (Err r) rest = same

  pub behind_keeps : {ts ts' : List Test} {plan plan' : Plan A} → Widens Lifts ts ts' → (AllHold ts → Keeps LiftPlan plan plan')
      → Keeps LiftPlan (behind_tests refused ts plan) (behind_tests refused ts' plan')
  unfolding behind_tests
  behind_keeps {ts} widens rest = gate_keeps (row_keeps Lifts widens) (λ e. rest (open_all ts e))

-- ---- two plans behind the same tests

-- they answer the same where the plans do, whatever each writes
pub answer_same : {A : Type 0} (refused : Refusal → A) {ts ts' : List Test} (plan plan' : Plan A) → ts ≡ ts' → plan.answer ≡ plan'.answer
    → (behind_tests refused ts plan).answer ≡ (behind_tests refused ts' plan').answer
unfolding behind_tests
answer_same refused {ts} {ts'} plan plan' et ea = ap (λ (xs : List Test). (behind_gate refused (asked_all pass xs) plan).answer) et ∙ by (asked_all pass ts')
  where
    by : (g : Check) → (behind_gate refused g plan).answer ≡ (behind_gate refused g plan').answer
    by (Ok _) = ea
    by (Err r) = refl
