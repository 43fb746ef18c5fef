-- For a line made only by accepted `insert` calls, with keys free of quotes and values either free of quotes or of two bytes or more with one
-- at each end, the words read are the insertions in order, key and value at their places, whatever the capacity: `insertions_read`.
use Rattle.std.specs.Prelude.{Ok, Err}
use Prim.Native.Nat.{ℕ}
use mathlib.Core.Path.{◌≡◌, refl, sym, ap, subst₂, subst⁻¹, ◌∙◌}
use mathlib.Core.Bool.{false}
use mathlib.Core.List.{List, [], ◌∷◌, ◌++◌, append_assoc, append-nil}
use native.Mathlib.Omega.{arith}
use Rattle.answers.specs.Pick.{pick}
use Rattle.answers.specs.Tests.{AllHold, Check, pass}
use Rattle.answers.proofs.TestsLaws.{open_all, hold_left, hold_right}
use Rattle.slugs.specs.Bytes.{quote, has}
use Rattle.slugs.specs.Joining.{joined}
use Rattle.slugs.specs.Keys.{key_tests}
use Rattle.slugs.specs.Values.{value_tests, pair}
use Rattle.cmdline.specs.Calls as Calls
use Rattle.cmdline.specs.Insertion.{plan_gate, answer_of, settled, insert, insert_str}
use Rattle.cmdline.specs.Making.{new}
use Rattle.cmdline.specs.Text.{Text, empty}
use Rattle.cmdline.specs.Writing.{whole_line, whole}
use Rattle.cmdline.proofs.InsertedPair.{inserted_pair}
use Rattle.words.specs.Inserting.{Insertion, insertions, AllAccepted, accepted, ValueQuotes, WellQuoted, no_more, well_quoted, ReadsBack}
use Rattle.words.proofs.JoinedLaws.{text_of, Good, Goods, none_left, one_more}
use Rattle.words.proofs.QuotingLaws.{good}
use Rattle.words.proofs.InsertedLineLaws.{line_of, line_more, line_reads}

open_of : (g : Check) → answer_of g ≡ pass → g ≡ pass
open_of (Ok _) e = refl
open_of (Err r) e = let z : ◌≡◌ {A = ℕ} 0 1 = cc in absurd (omega arith)

first_accepted : {s : Calls.Said} {ss : List Calls.Said} → AllAccepted (s ∷ ss) → s ≡ Calls.answered pass
first_accepted (accepted more) = refl

rest_accepted : {s : Calls.Said} {ss : List Calls.Said} → AllAccepted (s ∷ ss) → AllAccepted ss
rest_accepted (accepted more) = more

same_answer : {a b : Check} → Calls.answered a ≡ Calls.answered b → a ≡ b
same_answer e = cc

-- what is known of a line between two calls: its texts, and the insertions that it is
record Made (xs : List Insertion) (t : Text) : Type 0 where
  boot : t.boot ≡ line_of xs
  init : t.init ≡ []
  goods : Goods xs

good_more : (xs : List Insertion) (y : Insertion) → Goods xs → Good y → Goods (xs ++ (y ∷ []))
good_more [] y none_left g = one_more g none_left
good_more (x ∷ xs) y (one_more h gs) g = one_more h (good_more xs y gs g)

made_start : (c : ℕ) → Made [] (empty c)
unfolding line_of
made_start c = record { boot = refl; init = refl; goods = none_left }

-- an accepted insertion
module _ (xs : List Insertion) (t : Text) (y : Insertion) (m : Made xs t) (k : has quote y.key ≡ false) (v : ValueQuotes y.value)
    (is_open : plan_gate (insert t y.key y.value) ≡ pass) where
  pair_tests : AllHold (key_tests y.key ++ value_tests y.value)
  unfolding insert
  pair_tests =
      hold_left (key_tests y.key ++ value_tests y.value) (insert_str t (pair y.key y.value)).tests
      (open_all (insert t y.key y.value).tests is_open)

  made_more : Made (xs ++ (y ∷ [])) (insert t y.key y.value).text
  made_more =
      let put = inserted_pair t y.key y.value is_open in
      let hk = hold_left (key_tests y.key) (value_tests y.value) pair_tests in
      let hv = hold_right (key_tests y.key) (value_tests y.value) pair_tests in
      record {
        boot = put.boot ∙ ap (λ (l : List ℕ). joined l (text_of y)) m.boot ∙ sym (line_more xs y);
        init = put.init ∙ m.init;
        goods = good_more xs y m.goods (good y k v hk hv);
      }

-- the texts that an accepted call leaves
settled_open : (g : Check) (old new : Text) → g ≡ pass → settled g old new ≡ new
settled_open g old new e = rw e

call_open : (t : Text) (y : Insertion) → (Calls.calling (Calls.inserts y.key y.value) t).said ≡ Calls.answered pass
    → plan_gate (insert t y.key y.value) ≡ pass
unfolding Calls.calling
call_open t y e = open_of (plan_gate (insert t y.key y.value)) (same_answer e)

call_text : (t : Text) (y : Insertion) → plan_gate (insert t y.key y.value) ≡ pass
    → (Calls.calling (Calls.inserts y.key y.value) t).text ≡ (insert t y.key y.value).text
unfolding Calls.calling
call_text t y e = settled_open (plan_gate (insert t y.key y.value)) t (insert t y.key y.value).text e

making_text : (c : ℕ) → (Calls.making Calls.makes_new c).said ≡ Calls.answered pass → (Calls.making Calls.makes_new c).text ≡ empty c
unfolding Calls.making new
making_text c e = settled_open (plan_gate (new c)) (empty 0) (empty c) (open_of (plan_gate (new c)) (same_answer e))

all_made : (xs ys : List Insertion) (t : Text) → Made xs t → WellQuoted ys → AllAccepted (Calls.calls (insertions ys) t).said
    → Made (xs ++ ys) (Calls.calls (insertions ys) t).text
unfolding Calls.calls
all_made xs [] t m no_more said = subst⁻¹ (λ (l : List Insertion). Made l t) (append-nil xs) m
all_made xs (y ∷ ys) t m (well_quoted k v more) said =
    let is_open = call_open t y (first_accepted said) in
    subst₂ (λ (l : List Insertion) (u : Text). Made l (Calls.calls (insertions ys) u).text) (append_assoc xs (y ∷ []) ys) refl
    (all_made (xs ++ (y ∷ [])) ys (Calls.calling (Calls.inserts y.key y.value) t).text
    (subst⁻¹ (λ (u : Text). Made (xs ++ (y ∷ [])) u) (call_text t y is_open) (made_more xs t y m k v is_open)) more (rest_accepted said))

whole_boot : (boot : List ℕ) (init : List ℕ) → init ≡ [] → whole_line boot init ≡ boot
unfolding whole_line pick
whole_boot boot init e = rw e (append-nil boot)

made_reads : (xs : List Insertion) (t : Text) → Made xs t → ReadsBack (whole t) xs
made_reads xs t m = subst⁻¹ (λ (l : List ℕ). ReadsBack l xs) (whole_boot t.boot t.init m.init ∙ m.boot) (line_reads xs m.goods)

-- ---- the theorem

pub insertions_read : (capacity : ℕ) (xs : List Insertion) → WellQuoted xs → AllAccepted (Calls.run Calls.makes_new (insertions xs) capacity).said
    → ReadsBack (whole (Calls.run Calls.makes_new (insertions xs) capacity).text) xs
unfolding Calls.run
insertions_read capacity xs quotes said =
    let start = making_text capacity (first_accepted said) in
    made_reads xs (Calls.calls (insertions xs) (Calls.making Calls.makes_new capacity).text).text
    (all_made [] xs (Calls.making Calls.makes_new capacity).text (subst⁻¹ (λ (u : Text). Made [] u) start (made_start capacity)) quotes (rest_accepted said))
