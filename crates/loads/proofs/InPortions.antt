-- "Load in portions", of a load of any format: any calls from a load that is not started, refused calls anywhere between, are the whole load stopped after
-- as many bytes as the budgets add up to, and the answer is the whole load's: `in_portions`.
use Rattle.std.specs.Prelude.{Ok, Err, is_ok}
use Prim.Native.Nat.{ℕ, zero, suc, ◌+◌, ◌-◌, ◌*◌, ◌≤◌, ◌<◌, min}
use mathlib.Core.Path.{◌≡◌, sym, ◌∙◌, refl, ap, subst, subst⁻¹}
use mathlib.Core.Bool.{Bool, true, false}
use mathlib.Core.List.{List, [], ◌∷◌, ◌++◌}
use native.Mathlib.Omega.{arith}
use native.Mathlib.Decide.{dec_le}
use native.Mathlib.Nat.{zero-mul, suc-mul, add_comm, div-lt_iff_lt-mul}
use borrow.Author.Tests.{le-leb, lt-leb, leb-true}
use lib.Dec.{leb}
use lib.ListN.{length, take, drop, replicate, length-drop, drop_of_length-le}
use lib.Seq.{take-nil, drop-drop}
use Rattle.answers.specs.Pick.{pick}
use Rattle.answers.specs.Tests.{AllHold}
use Rattle.answers.proofs.PickLaws.{pick_with}
use Rattle.guest.specs.Answers.{Answer}
use Rattle.guest.specs.Lent.{lent_tests}
use Rattle.guest.specs.Loading.{Plan, Loads}
use Rattle.guest.specs.Parts.{Place, place_after, parts_from, left_of}
use Rattle.guest.specs.Room.{memory_of}
use Rattle.guest.specs.Stream.{Poke, pour}
use Rattle.guest.specs.declared.Map.{Map}
use Rattle.guest.specs.declared.Memory.{Memory}
use Rattle.guest.specs.declared.Part.{Part}
use Rattle.guest.proofs.PartsLaws.{leb_same, left_after_portion}
use Rattle.guest.proofs.StreamLaws.{pour_append}
use Rattle.loads.specs.Calls.{as_first, moved_to, begun_with}
use Rattle.loads.specs.Formats.{answer_of, count_of, part_of, plan_of}
use Rattle.loads.specs.Portions.{total, Calls, none, step, no_step, answering_step, NextStep, InPortions}
use Rattle.loads.specs.Steps.{tested_part, started_state, stays, reply_after, next_portion, first_step, by_stage, step_plan, StepSays}
use Rattle.loads.specs.declared.Options.{Options}
use Rattle.loads.specs.declared.Stage.{Stage}
use Rattle.loads.specs.declared.Stage.TheVariants.{Fresh, Copying, Done}
use Rattle.loads.specs.declared.steps.Reply.TheVariants as reply
use Rattle.loads.specs.declared.steps.State.{State}
use Rattle.loads.specs.declared.steps.Stepped.{Stepped}
use Rattle.loads.proofs.FormatsLaws.{parts_stand, parts_tested}
use Rattle.loads.proofs.StepsLaws.{fresh_first, later_first, step_open, step_refused}

-- ---- lists and numbers

take_split : (a c : ℕ) (xs : List Poke) → take a xs ++ take c (drop a xs) ≡ take (a + c) xs
take_split zero c xs = ap (λ n. take n xs) (let e : c ≡ 0 + c = omega arith in e)
take_split (suc a) c [] = take-nil c ∙ sym (take-nil (suc a + c))
take_split (suc a) c (x ∷ xs) = ap (λ r. x ∷ r) (take_split a c xs) ∙ ap (λ n. take n (x ∷ xs)) (let e : suc (a + c) ≡ suc a + c = omega arith in e)

leb_shift : (l t b : ℕ) → leb (l - t) b ≡ leb l (t + b)
leb_shift l t b = split (dec_le (l - t) b)
  where
    split : Dec (l - t ≤ b) → leb (l - t) b ≡ leb l (t + b)
    split (yes h) = le-leb (l - t) b h ∙ sym (le-leb l (t + b) (omega arith))
    split (no h) = lt-leb (l - t) b (omega arith) ∙ sym (lt-leb l (t + b) (omega arith))

place_within : (n : ℕ) (part : ℕ → Part) (k i q budget : ℕ) → n ≡ i + k → (place_after k part i q budget).at ≤ n
unfolding place_after
place_within n part zero i q budget en = omega arith
place_within n part (suc k) i q budget en =
    pick_with (λ (p : Place). p.at ≤ n) _
    (λ _. place_within n part k (suc i) (q - min q (part i).size) (budget - ((part i).size - min q (part i).size)) (omega arith)) (λ _. omega arith)

-- t bytes are covered by k + 1 budgets of b exactly where the step that answers is no later
answering : (t b k : ℕ) → 0 < b → leb t (k * b + b) ≡ leb (answering_step t b) (suc k)
answering t b k positive =
    let twice : suc (suc k) * b ≡ k * b + b + b = suc-mul (suc k) b ∙ ap (λ n. n + b) (suc-mul k b) in
    let below = div-lt_iff_lt-mul {k = b} {x = t + b - 1} {y = suc (suc k)} positive in
    leb_same t (k * b + b) (answering_step t b) (suc k)
    (λ covered. let lt = below.1 (omega arith) in omega arith)
    (λ early. let lt = below.0 (omega arith) in omega arith)

equal_total : (k b : ℕ) → total (replicate k b) ≡ k * b
unfolding total
equal_total zero b = sym (zero-mul b)
equal_total (suc k) b = ap (λ n. b + n) (equal_total k b) ∙ add_comm b (k * b) ∙ sym (suc-mul k b)

-- ---- where a load is between two steps

module _ (image : List ℕ) (m : Memory) (o : Options) where
  abbrev whole : List Poke
  whole = (plan_of image m o).stream

  abbrev left : State → List Poke
  left st = left_of (count_of image o) image (tested_part image m o) st.progress.at st.progress.done

  -- t bytes of budget after its start
  data At : ℕ → State → Type 0 where
    fresh : {st : State} → st.options ≡ o → st.progress.stage ≡ Fresh → At 0 st
    copying : {st : State} (t : ℕ) → st.options ≡ o → st.progress.stage ≡ Copying → st.answer ≡ answer_of image m o → st.progress.image_len ≡ length image
        → st.progress.memory ≡ m → st.progress.at ≤ count_of image o → left st ≡ drop t whole → At t st
    done : {st : State} (t : ℕ) → st.options ≡ o → st.progress.stage ≡ Done → st.answer ≡ answer_of image m o → st.progress.image_len ≡ length image
        → st.progress.memory ≡ m → length whole ≤ t → At t st

  -- after the first step the answer is kept
  at_answer : {t : ℕ} {st : State} → 0 < t → At t st → st.answer ≡ answer_of image m o
  at_answer some (fresh eo es) = absurd (omega arith)
  at_answer some (copying t eo es ea el em le is-left) = ea
  at_answer some (done t eo es ea el em past) = ea

  -- what one step does there
  record Once (t b : ℕ) (plan : Plan Stepped) : Type 0 where
    writes : plan.stream ≡ take b (drop t whole)
    reports : plan.answer.copied ≡ min b (length whole - t)
    replies : plan.answer.reply ≡ reply_after (leb (length whole) (t + b)) (answer_of image m o)
    leads : At (t + b) plan.answer.state

  -- ---- a portion more

  module _ (st : State) (t b : ℕ) (eo : st.options ≡ o) (ea : st.answer ≡ answer_of image m o) (el : st.progress.image_len ≡ length image)
      (em : st.progress.memory ≡ m) (le : st.progress.at ≤ count_of image o) (is-left : left st ≡ drop t whole) where
    abbrev parts : List Poke
    parts = parts_from (count_of image o - st.progress.at) image (tested_part image m o) st.progress.at

    length_left : length parts - st.progress.done ≡ length whole - t
    length_left = sym (length-drop st.progress.done parts) ∙ ap length is-left ∙ length-drop t whole

    all_is : leb (length parts - st.progress.done) b ≡ leb (length whole) (t + b)
    all_is = ap (λ x. leb x b) length_left ∙ leb_shift (length whole) t b

    -- the state with the options of the load
    abbrev own : State
    own = record { progress = st.progress; answer = st.answer; options = o }

    abbrev next : Plan Stepped
    next = next_portion image m own b

    after_left : left next.answer.state ≡ drop (t + b) whole
    unfolding moved_to
    after_left =
        left_after_portion (count_of image o) image (tested_part image m o) (λ j. (parts_stand image m o j).in_image) (count_of image o - st.progress.at) st.progress.at st.progress.done b (omega arith)
        ∙ ap (drop b) is-left ∙ drop-drop b t whole

    next_at : (x : Bool) → leb (length whole) (t + b) ≡ x → At (t + b) next.answer.state
    unfolding moved_to pick
    next_at true e = done (t + b) refl (ap (λ (x : Bool). pick x Done Copying) (all_is ∙ e)) ea el em (leb-true _ _ e)
    next_at false e =
        copying (t + b) refl (ap (λ (x : Bool). pick x Done Copying) (all_is ∙ e)) ea el em
        (place_within (count_of image o) (tested_part image m o) (count_of image o - st.progress.at) st.progress.at st.progress.done b (omega arith)) after_left

    own_goes : Once t b next
    own_goes =
        record {
          writes = ap (take b) is-left;
          reports = ap (min b) length_left;
          replies = ap (λ (x : Bool). reply_after x st.answer) all_is ∙ ap (reply_after (leb (length whole) (t + b))) ea;
          leads = next_at (leb (length whole) (t + b)) refl;
        }

    goes : Once t b (next_portion image m st b)
    goes =
        subst⁻¹ (λ (x : Options). Once t b (next_portion image m (record { progress = st.progress; answer = st.answer; options = x }) b)) eo own_goes

  -- ---- one step

  stays_there : (st : State) (t b : ℕ) → st.options ≡ o → st.progress.stage ≡ Done → st.answer ≡ answer_of image m o
      → st.progress.image_len ≡ length image → st.progress.memory ≡ m → length whole ≤ t → Once t b (stays st (reply.Answers st.answer))
  unfolding reply_after pick
  stays_there st t b eo es ea el em past =
      record {
        writes = sym (ap (take b) (drop_of_length-le whole past) ∙ take-nil b);
        reports = omega arith;
        replies = ap reply.Answers ea ∙ ap (λ (x : Bool). pick x (reply.Answers (answer_of image m o)) reply.More) (sym (le-leb (length whole) (t + b) (omega arith)));
        leads = done (t + b) eo es ea el em (omega arith);
      }

  -- the first, by whether the load loads
  all_parts : (a : Answer) → answer_of image m o ≡ a → is_ok (answer_of image m o) ≡ true → parts_from (count_of image o - 0) image (tested_part image m o) 0 ≡ whole
  unfolding pick
  all_parts (Ok k) e is =
      ap (λ n. parts_from n image (tested_part image m o) 0) (let z : count_of image o - 0 ≡ count_of image o = omega arith in z)
      ∙ parts_tested image m o e
      ∙ sym (ap (λ (x : Bool). pick x (parts_from (count_of image o) image (part_of image o) 0) []) is)
  all_parts (Err r) e is = let z : ◌≡◌ {A = Bool} false true = sym (ap is_ok e) ∙ is in let w : ◌≡◌ {A = ℕ} 0 1 = cc in absurd (omega arith)

  no_parts : is_ok (answer_of image m o) ≡ false → length whole ≡ 0
  unfolding pick
  no_parts e = ap (λ (x : Bool). length (pick x (parts_from (count_of image o) image (part_of image o) 0) [])) e

  started_done : is_ok (answer_of image m o) ≡ false → (started_state image m o).progress.stage ≡ Done
  unfolding pick begun_with
  started_done e = ap (λ (x : Bool). pick x Copying Done) e

  first : (b : ℕ) → Once 0 b (first_step image m o b)
  unfolding first_step begun_with
  first b =
      pick_with (Once 0 b) (is_ok (answer_of image m o))
      (λ e. goes (started_state image m o) 0 b refl refl refl refl (omega arith) (all_parts (answer_of image m o) refl e))
      (λ e. let empty = no_parts e in stays_there (started_state image m o) 0 b refl (started_done e) refl refl refl (omega arith))

  module _ (lent : AllHold (lent_tests (length image) m)) where
    opened : (st : State) (b : ℕ) → 0 < b → {stage : Stage} {t : ℕ} → as_first st.progress (length image) m ≡ true → st.progress.stage ≡ stage
        → Once t b (by_stage stage image m st b) → Once t b (step_plan image m st b)
    opened st b positive {t = t} is_first es on =
        subst⁻¹ (Once t b) (step_open image m st b lent positive is_first ∙ ap (λ s. by_stage s image m st b) es) on

    once : (st : State) (b : ℕ) → 0 < b → {t : ℕ} → At t st → Once t b (step_plan image m st b)
    once st b positive (fresh eo es) =
        opened st b positive (fresh_first st.progress (length image) m es) es (subst⁻¹ (λ (x : Options). Once 0 b (first_step image m x b)) eo (first b))
    once st b positive (copying t eo es ea el em le is-left) =
        opened st b positive (later_first st.progress (length image) m el em) es (goes st t b eo ea el em le is-left)
    once st b positive (done t eo es ea el em past) =
        opened st b positive (later_first st.progress (length image) m el em) es (stays_there st t b eo es ea el em past)

    -- a call by its contract, over this memory
    module _ {st : State} {t b : ℕ} (at : At t st) (positive : 0 < b) {map : Map} {guest : List ℕ} (em : memory_of guest map ≡ m) {r : Stepped} {after : List ℕ}
        (says : StepSays image st b map guest r after) where
      over : Loads (step_plan image m st b) guest r after
      over = subst (λ (x : Memory). Loads (step_plan image x st b) guest r after) em says

      call_says : NextStep (plan_of image m o) t b guest r after
      call_says =
          let here = once st b positive at in
          record {
            written = over.memory ∙ ap (λ ps. pour ps guest) here.writes;
            reported = ap (λ (x : Stepped). x.copied) over.answer ∙ here.reports;
            reply = ap (λ (x : Stepped). x.reply) over.answer ∙ here.replies;
            kept = ap (λ (x : Stepped). x.state.answer) over.answer ∙ at_answer (omega arith) here.leads;
          }

      next_at' : At (t + b) r.state
      next_at' = subst⁻¹ (At (t + b)) (ap (λ (x : Stepped). x.state) over.answer) (once st b positive at).leads

    -- ---- calls from a load that is not started

    record Called (first bs guest : List ℕ) (n : ℕ) (st : State) : Type 0 where
      poured : guest ≡ pour (take (total bs) whole) first
      reported : n ≡ min (total bs) (length whole)
      at : At (total bs) st

    module _ (from : State) (eo : from.options ≡ o) (begins : from.progress.stage ≡ Fresh) where
      called : {first bs guest : List ℕ} {n : ℕ} {st : State} → Calls image m from first bs guest n st → Called first bs guest n st
      unfolding total pour
      called none = record { poured = refl; reported = omega arith; at = fresh eo begins }
      called {first} (step {bs} {guest} {n} {st} b positive em {r} {after} says calls) =
          let before = called calls in
          let here = call_says before.at positive em says in
          let sum : total bs + b ≡ b + total bs = omega arith in
          let counted = before.reported in
          let copied = here.reported in
          record {
            poured =
                here.written
                ∙ ap (pour (take b (drop (total bs) whole))) before.poured
                ∙ sym (pour_append (take (total bs) whole) (take b (drop (total bs) whole)) first)
                ∙ ap (λ ps. pour ps first) (take_split (total bs) b whole)
                ∙ ap (λ k. pour (take k whole) first) sum;
            reported = omega arith;
            at = subst (λ k. At k r.state) sum (next_at' before.at positive em says);
          }
      called (no_step {bs} {guest} {n} {st} image' map b e {r} {after} says calls) =
          let before = called calls in
          let refused = step_refused image' (memory_of guest map) st b e in
          let copied : r.copied ≡ 0 = ap (λ (x : Stepped). x.copied) (says.answer ∙ ap (λ (p : Plan Stepped). p.answer) refused) in
          let counted = before.reported in
          record {
            poured = says.memory ∙ ap (λ (p : Plan Stepped). pour p.stream guest) refused ∙ before.poured;
            reported = omega arith;
            at =
                subst⁻¹ (At (total bs)) (ap (λ (x : Stepped). x.state) (says.answer ∙ ap (λ (p : Plan Stepped). p.answer) refused)) before.at;
          }

      pub in_portions : InPortions image m from (plan_of image m o)
      in_portions =
          record {
            guest = λ calls. (called calls).poured;
            reported = λ calls. (called calls).reported;
            next = λ calls b positive em says. call_says (called calls).at positive em says;
            equal = λ b k positive calls em says.
                (call_says (called calls).at positive em says).reply
                ∙ ap (λ (x : Bool). reply_after x (answer_of image m o))
                (ap (λ n. leb (length whole) (n + b)) (equal_total k b) ∙ answering (length whole) b k positive);
          }
