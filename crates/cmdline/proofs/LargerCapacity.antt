-- Never smaller for more room: calls on a new line, its making counted among them, of which none was refused for room, say the same and
-- leave the same texts under any larger allowed capacity. `larger_capacity` is the theorem.
use Rattle.std.specs.Prelude.{Ok, Err}
use Prim.Native.Nat.{ℕ, ◌+◌, ◌≤◌}
use mathlib.Core.Path.{◌≡◌, refl, ap}
use mathlib.Core.Bool.{Bool, true, false, not}
use mathlib.Core.List.{List, [], ◌∷◌, ◌++◌}
use native.Mathlib.Omega.{arith}
use lib.Dec.{leb, eqb}
use lib.ListN.{length}
use Rattle.answers.specs.Pick.{pick}
use Rattle.answers.specs.Tests.{Test, asked, asked_all, Check, pass}
use Rattle.answers.specs.Keeping.{ShutBy, shut_by}
use Rattle.answers.specs.declared.Refusal.TheVariants as refusal
use Rattle.answers.proofs.KeepingLaws.{Widens, end, stays, grows, row_keeps, kept, leb_grows, widens_append, widens_same}
use Rattle.cmdline.specs.Limit.{allowed}
use Rattle.slugs.specs.Trimming.{trim}
use Rattle.slugs.specs.Bytes.{equals}
use Rattle.slugs.specs.Keys.{key_tests}
use Rattle.slugs.specs.Values.{value_tests, pair}
use Rattle.cmdline.specs.Text.{Text, counted, boot_gap, init_gap, under}
use Rattle.cmdline.specs.Insertion.{Plan, plan_gate, answer_of, settled, insert, insert_str, insert_init_args, insert_multiple}
use Rattle.slugs.specs.Lists.{listed, list_pre}
use Rattle.cmdline.specs.Device.{device_text, add_device}
use Rattle.cmdline.specs.Making.{new, parted, try_from}
use Rattle.cmdline.specs.Writing.{write_gate, written_of, written_bytes}
use Rattle.cmdline.specs.Calls

-- a step under another capacity: it says the same, and its texts are the same
abbrev same_step : ℕ → Calls.Step → Calls.Step
same_step c s = record { said = s.said; text = under c s.text }

-- tests that capacity has no part in, before a row that widens
widens_after : (pre : List Test) {ts ts' : List Test} → Widens Calls.ForRoom ts ts' → Widens Calls.ForRoom (pre ++ ts) (pre ++ ts')
widens_after pre w = widens_append Calls.ForRoom (widens_same Calls.ForRoom pre) (λ h. w)

-- a check that does not fail for room is the same under a row that widens
same_gate : (ts ts' : List Test) → Widens Calls.ForRoom ts ts' → (Calls.RefusedForRoom (Calls.answered (answer_of (asked_all pass ts))) → ⊥)
    → asked_all pass ts' ≡ asked_all pass ts
same_gate ts ts' w none = kept (ShutBy Calls.ForRoom) (row_keeps Calls.ForRoom w) (λ shut. none (told (asked_all pass ts) shut))
  where
    told : (g : Check) → ShutBy Calls.ForRoom g → Calls.RefusedForRoom (Calls.answered (answer_of g))
    told (Ok _) x' = elim x' [ ]
    told (Err r) (shut_by f) = Calls.call_refused f

-- a call by a plan: where its tests widen and its texts are the same but for the capacity
module _ (c : ℕ) (t : Text) (p p' : Plan) where
  same_planned : Widens Calls.ForRoom p.tests p'.tests → p'.text ≡ under c p.text → (Calls.RefusedForRoom (Calls.planned p t).said → ⊥)
      → Calls.planned p' (under c t) ≡ same_step c (Calls.planned p t)
  same_planned w e none = rw (same_gate p.tests p'.tests w none, e) (split (plan_gate p))
    where
      split : (g : Check) → ◌≡◌ {A = Calls.Step}
          (record { said = Calls.answered (answer_of g); text = settled g (under c t) (under c p.text) })
          (record { said = Calls.answered (answer_of g); text = under c (settled g t p.text) })
      split (Ok _) = refl
      split (Err r) = refl

  same_capacity : p.text.capacity ≡ t.capacity → (Calls.planned p t).text.capacity ≡ t.capacity
  same_capacity e = split (plan_gate p)
    where
      split : (g : Check) → (settled g t p.text).capacity ≡ t.capacity
      split (Ok _) = e
      split (Err r) = refl

-- what is written has nothing to do with the capacity
same_written : (c : ℕ) (t : Text) (g : Check)
    → ◌≡◌ {A = Calls.Said} (Calls.wrote (written_of g (under c t)) (written_bytes g (under c t))) (Calls.wrote (written_of g t) (written_bytes g t))
same_written c t (Ok _) = refl
same_written c t (Err r) = refl

module _ (c : ℕ) (t : Text) (more : t.capacity ≤ c) where
  str_widens : (slug : List ℕ) → Widens Calls.ForRoom (insert_str t slug).tests (insert_str (under c t) slug).tests
  unfolding insert_str
  str_widens slug =
      stays refl (λ h. grows (leb_grows (counted t + boot_gap (length t.boot) + length (trim slug)) t.capacity c more) Calls.line_full (λ e. end))

  init_widens : (slug : List ℕ) → Widens Calls.ForRoom (insert_init_args t slug).tests (insert_init_args (under c t) slug).tests
  unfolding insert_init_args
  init_widens slug =
      stays refl (λ h. grows (leb_grows (counted t + init_gap (length t.init) + length (trim slug)) t.capacity c more) Calls.line_full (λ e. end))

  same_call : (k : Calls.Call) → (Calls.RefusedForRoom (Calls.calling k t).said → ⊥)
      → (Calls.calling k (under c t) ≡ same_step c (Calls.calling k t)) × ((Calls.calling k t).text.capacity ≡ t.capacity)
  unfolding Calls.calling insert insert_str insert_init_args insert_multiple add_device
  same_call (Calls.inserts key value) none = (
    same_planned c t (insert t key value) (insert (under c t) key value) (widens_after (key_tests key ++ value_tests value) (str_widens (pair key value))) refl none,
    same_capacity c t (insert t key value) (insert t key value) refl,
  )
  same_call (Calls.inserts_multiple key values ends) none = (
    same_planned c t (insert_multiple t key values ends) (insert_multiple (under c t) key values ends) (widens_after (list_pre key values ends) (str_widens (key ++ listed equals 0 ends values))) refl none,
    same_capacity c t (insert_multiple t key values ends) (insert_multiple t key values ends) refl,
  )
  same_call (Calls.inserts_str slug) none =
      (same_planned c t (insert_str t slug) (insert_str (under c t) slug) (str_widens slug) refl none, same_capacity c t (insert_str t slug) (insert_str t slug) refl)
  same_call (Calls.inserts_init_args slug) none = (
    same_planned c t (insert_init_args t slug) (insert_init_args (under c t) slug) (init_widens slug) refl none,
    same_capacity c t (insert_init_args t slug) (insert_init_args t slug) refl,
  )
  same_call (Calls.adds_device size base irq id) none = (
    same_planned c t (add_device t size base irq id) (add_device (under c t) size base irq id) (widens_after ((not (eqb size 0), refusal.MmioSize) ∷ []) (str_widens (device_text size base irq id))) refl none,
    same_capacity c t (add_device t size base irq id) (add_device t size base irq id) refl,
  )
  same_call (Calls.writes room) none =
      (ap (λ (s : Calls.Said). record { said = s; text = under c t }) (same_written c t (write_gate t room)), refl)
  same_call (Calls.compares other) none = (refl, refl)
  same_call (Calls.tells f) none = (refl, refl)

abbrev same_run : ℕ → Calls.Run → Calls.Run
same_run c r = record { said = r.said; text = under c r.text }

this_not : {s : Calls.Said} {ss : List Calls.Said} → Calls.NoneForRoom (s ∷ ss) → Calls.RefusedForRoom s → ⊥
this_not (Calls.not_this n more) = n

others_not : {s : Calls.Said} {ss : List Calls.Said} → Calls.NoneForRoom (s ∷ ss) → Calls.NoneForRoom ss
others_not (Calls.not_this n more) = more

same_calls : (c : ℕ) (ks : List Calls.Call) (t : Text) → t.capacity ≤ c → Calls.NoneForRoom (Calls.calls ks t).said
    → Calls.calls ks (under c t) ≡ same_run c (Calls.calls ks t)
unfolding Calls.calls
same_calls c [] t more none = refl
same_calls c (k ∷ ks) t more none =
    let step = same_call c t more k (this_not none) in
    let later = step.1 in
    rw (step.0, same_calls c ks (Calls.calling k t).text (omega arith) (others_not none))

-- ---- the making

module _ (c c' : ℕ) (good : allowed c ≡ true) (good' : allowed c' ≡ true) (more : c ≤ c') where
  same_making : (m : Calls.Making) → (Calls.RefusedForRoom (Calls.making m c).said → ⊥)
      → (Calls.making m c' ≡ same_step c' (Calls.making m c)) × ((Calls.making m c).text.capacity ≡ c)
  unfolding Calls.making new try_from asked pick
  same_making Calls.makes_new none = (rw (good, good'), rw good)
  same_making (Calls.makes_from s) none = split (leb (counted (parted s c)) c) refl
    where
      split : (b : Bool) → leb (counted (parted s c)) c ≡ b
          → (Calls.making (Calls.makes_from s) c' ≡ same_step c' (Calls.making (Calls.makes_from s) c)) × ((Calls.making (Calls.makes_from s) c).text.capacity ≡ c)
      split true e = (rw (good, good', e, leb_grows (counted (parted s c)) c c' more e), rw (good, e))
      split false e = absurd (none (rw (good, e) (Calls.call_refused Calls.text_long)))

-- ---- the theorem

pub larger_capacity : (m : Calls.Making) (ks : List Calls.Call) (c c' : ℕ) → allowed c ≡ true → allowed c' ≡ true → c ≤ c'
    → Calls.NoneForRoom (Calls.run m ks c).said
    → ((Calls.run m ks c').said ≡ (Calls.run m ks c).said) × ((Calls.run m ks c').text ≡ under c' (Calls.run m ks c).text)
unfolding Calls.run
larger_capacity m ks c c' good good' more none =
    let made = same_making c c' good good' more m (this_not none) in
    let size = made.1 in
    let rest = same_calls c' ks (Calls.making m c).text (omega arith) (others_not none) in
    (rw (made.0, rest), rw (made.0, rest))
