-- The counted size never exceeds the capacity: every accepted call leaves a line that fits, so does every making that is accepted, and so
-- does any run of calls. `never_exceeds` is the theorem; `str_fits` and its like say it of each call. That a capacity never exceeds the limit
-- stands beside each making: `new_most` and `from_most` (file MakingLaws).
use Rattle.std.specs.Prelude.{Ok, Err, Option}
use Prim.Native.Nat.{ℕ, ◌+◌}
use mathlib.Core.Path.{◌≡◌, refl}
use mathlib.Core.Bool.{not}
use mathlib.Core.List.{List, [], ◌∷◌, ◌++◌}
use native.Mathlib.Omega.{arith}
use lib.Dec.{eqb}
use lib.ListN.{length}
use borrow.Author.Tests.{leb-true}
use Rattle.answers.specs.Pick.{pick}
use Rattle.answers.specs.Tests.{Test, AllHold, Check, pass}
use Rattle.answers.specs.declared.Refusal.TheVariants as refusal
use Rattle.answers.proofs.TestsLaws.{open_all, hold_right}
use Rattle.cmdline.specs.Fitting.{Fits}
use Rattle.slugs.specs.Trimming.{trim}
use Rattle.slugs.specs.Bytes.{equals}
use Rattle.slugs.specs.Keys.{key_tests}
use Rattle.slugs.specs.Values.{value_tests, pair}
use Rattle.cmdline.specs.Text.{Text, size_of, counted, boot_gap, init_gap}
use Rattle.cmdline.specs.Insertion.{Plan, plan_gate, answer_of, settled, insert, insert_str, insert_init_args, insert_multiple}
use Rattle.slugs.specs.Lists.{listed, list_pre}
use Rattle.cmdline.specs.Device.{device_text, add_device}
use Rattle.cmdline.specs.Making.{new, parted, try_from}
use Rattle.cmdline.specs.Calls
use Rattle.cmdline.proofs.TextLaws.{joined_long, size_after_boot, size_after_init}
use Rattle.cmdline.proofs.MakingLaws.{allowed_least}

-- ---- each insertion, where every test holds

pub str_fits : (t : Text) (slug : List ℕ) → AllHold (insert_str t slug).tests → Fits (insert_str t slug).text
unfolding insert_str
str_fits t slug hold =
    let room = leb-true (counted t + boot_gap (length t.boot) + length (trim slug)) t.capacity hold.1.0 in
    rw (joined_long t.boot (trim slug), size_after_boot (length t.boot) (length t.init) (boot_gap (length t.boot)) (length (trim slug))) room

pub init_fits : (t : Text) (slug : List ℕ) → AllHold (insert_init_args t slug).tests → Fits (insert_init_args t slug).text
unfolding insert_init_args
init_fits t slug hold =
    let room = leb-true (counted t + init_gap (length t.init) + length (trim slug)) t.capacity hold.1.0 in
    let size = size_after_init (length t.boot) (length t.init) (length (trim slug)) in
    rw (joined_long t.init (trim slug)) (omega arith)

after_fits : (pre : List Test) (t : Text) (slug : List ℕ) → AllHold (pre ++ (insert_str t slug).tests) → Fits (insert_str t slug).text
after_fits pre t slug hold = str_fits t slug (hold_right pre (insert_str t slug).tests hold)

pub insert_fits : (t : Text) (key value : List ℕ) → AllHold (insert t key value).tests → Fits (insert t key value).text
unfolding insert
insert_fits t key value hold = after_fits (key_tests key ++ value_tests value) t (pair key value) hold

pub multiple_fits : (t : Text) (key values ends : List ℕ) → AllHold (insert_multiple t key values ends).tests → Fits (insert_multiple t key values ends).text
unfolding insert_multiple
multiple_fits t key values ends hold = after_fits (list_pre key values ends) t (key ++ listed equals 0 ends values) hold

pub device_fits : (t : Text) (size base irq : ℕ) (id : Option ℕ) → AllHold (add_device t size base irq id).tests → Fits (add_device t size base irq id).text
unfolding add_device
device_fits t size base irq id hold = after_fits ((not (eqb size 0), refusal.MmioSize) ∷ []) t (device_text size base irq id) hold

-- ---- each making, where every test holds

pub new_fits : (c : ℕ) → AllHold (new c).tests → Fits (new c).text
unfolding new size_of pick
new_fits c hold = let l = allowed_least c hold.0 in omega arith

pub from_fits : (s : List ℕ) (c : ℕ) → AllHold (try_from s c).tests → Fits (try_from s c).text
unfolding try_from
from_fits s c hold = leb-true (counted (parted s c)) c hold.1.0

-- ---- whether a call is accepted or refused

pub settled_fits : (t : Text) (p : Plan) → (AllHold p.tests → Fits p.text) → Fits t → Fits (settled (plan_gate p) t p.text)
settled_fits t p told f = split (plan_gate p) refl
  where
    split : (g : Check) → plan_gate p ≡ g → Fits (settled g t p.text)
    split (Ok _) e = told (open_all p.tests e)
    split (Err r) e = f

call_fits : (k : Calls.Call) (t : Text) → Fits t → Fits (Calls.calling k t).text
unfolding Calls.calling
call_fits (Calls.inserts key value) t f = settled_fits t (insert t key value) (insert_fits t key value) f
call_fits (Calls.inserts_multiple key values ends) t f = settled_fits t (insert_multiple t key values ends) (multiple_fits t key values ends) f
call_fits (Calls.inserts_str slug) t f = settled_fits t (insert_str t slug) (str_fits t slug) f
call_fits (Calls.inserts_init_args slug) t f = settled_fits t (insert_init_args t slug) (init_fits t slug) f
call_fits (Calls.adds_device size base irq id) t f = settled_fits t (add_device t size base irq id) (device_fits t size base irq id) f
call_fits (Calls.writes room) t f = f
call_fits (Calls.compares other) t f = f
call_fits (Calls.tells g) t f = f

pub calls_fit : (ks : List Calls.Call) (t : Text) → Fits t → Fits (Calls.calls ks t).text
unfolding Calls.calls
calls_fit [] t f = f
calls_fit (k ∷ ks) t f = calls_fit ks (Calls.calling k t).text (call_fits k t f)

-- a making that says that it is accepted
pub made_fits : (p : Plan) (t : Text) → (AllHold p.tests → Fits p.text) → answer_of (plan_gate p) ≡ pass → Fits (settled (plan_gate p) t p.text)
made_fits p t told e = split (plan_gate p) refl e
  where
    split : (g : Check) → plan_gate p ≡ g → answer_of g ≡ pass → Fits (settled g t p.text)
    split (Ok _) o a = told (open_all p.tests o)
    split (Err r) o a = let z : ◌≡◌ {A = ℕ} 0 1 = cc in absurd (omega arith)

making_fits : (m : Calls.Making) (c : ℕ) → (Calls.making m c).said ≡ Calls.answered pass → Fits (Calls.making m c).text
unfolding Calls.making
making_fits Calls.makes_new c e = made_fits (new c) _ (new_fits c) (same e)
  where
    same : {a b : _} → Calls.answered a ≡ Calls.answered b → a ≡ b
    same e = cc
making_fits (Calls.makes_from s) c e = made_fits (try_from s c) _ (from_fits s c) (same e)
  where
    same : {a b : _} → Calls.answered a ≡ Calls.answered b → a ≡ b
    same e = cc

-- ---- the theorem

pub never_exceeds : (m : Calls.Making) (ks : List Calls.Call) (c : ℕ) → (Calls.making m c).said ≡ Calls.answered pass → Fits (Calls.run m ks c).text
unfolding Calls.run
never_exceeds m ks c e = calls_fit ks (Calls.making m c).text (making_fits m c e)
