-- Nothing inserted earlier is lost, no word drops off the line: over any calls, the boot text that stood there begins the later one, and so
-- does the init text. `nothing_lost` is the theorem; `str_extends` and its like say it of each insertion.
use Rattle.answers.specs.Tests.{Check}
use Rattle.std.specs.Prelude.{Ok, Err, Option}
use Prim.Native.Nat.{ℕ, ◌≤◌}
use mathlib.Core.Path.{refl, sym, ap, ◌∙◌}
use mathlib.Core.List.{List, [], ◌∷◌, ◌++◌, append_assoc, append-nil}
use native.Mathlib.Omega.{arith}
use lib.ListN.{length, length-append}
use Rattle.slugs.specs.Trimming.{trim}
use Rattle.cmdline.specs.Text.{Text}
use Rattle.cmdline.specs.Insertion.{Plan, plan_gate, settled, insert, insert_str, insert_init_args, insert_multiple}
use Rattle.cmdline.specs.Device.{add_device}
use Rattle.cmdline.specs.Growing.{Begins, Extends}
use Rattle.cmdline.specs.Calls
use Rattle.slugs.specs.Joining.{joined, space_after}

begins_same : (a : List ℕ) → Begins a a
begins_same a = record { rest = []; whole = sym (append-nil a) }

begins_joined : (a s : List ℕ) → Begins a (joined a s)
begins_joined a s = record { rest = space_after (length a) ++ s; whole = refl }

begins_then : {a b d : List ℕ} → Begins a b → Begins b d → Begins a d
begins_then {a} {b} {d} p q =
    record { rest = p.rest ++ q.rest; whole = q.whole ∙ ap (λ (l : List ℕ). l ++ q.rest) p.whole ∙ append_assoc a p.rest q.rest }

-- a text that begins another is no longer
pub begins_long : {a b : List ℕ} → Begins a b → length a ≤ length b
begins_long {a} {b} p = let n = ap length p.whole ∙ length-append a p.rest in omega arith

extends_same : (t : Text) → Extends t t
extends_same t = record { boot = begins_same t.boot; init = begins_same t.init; capacity = refl }

extends_then : {t u v : Text} → Extends t u → Extends u v → Extends t v
extends_then p q = record { boot = begins_then p.boot q.boot; init = begins_then p.init q.init; capacity = q.capacity ∙ p.capacity }

-- ---- each insertion

pub str_extends : (t : Text) (slug : List ℕ) → Extends t (insert_str t slug).text
unfolding insert_str
str_extends t slug = record { boot = begins_joined t.boot (trim slug); init = begins_same t.init; capacity = refl }

pub init_extends : (t : Text) (slug : List ℕ) → Extends t (insert_init_args t slug).text
unfolding insert_init_args
init_extends t slug = record { boot = begins_same t.boot; init = begins_joined t.init (trim slug); capacity = refl }

pub insert_extends : (t : Text) (key value : List ℕ) → Extends t (insert t key value).text
unfolding insert
insert_extends t key value = str_extends t _

pub multiple_extends : (t : Text) (key values ends : List ℕ) → Extends t (insert_multiple t key values ends).text
unfolding insert_multiple
multiple_extends t key values ends = str_extends t _

pub device_extends : (t : Text) (size base irq : ℕ) (id : Option ℕ) → Extends t (add_device t size base irq id).text
unfolding add_device
device_extends t size base irq id = str_extends t _

-- whether it is accepted or refused
settled_extends : (t : Text) (p : Plan) → Extends t p.text → Extends t (settled (plan_gate p) t p.text)
settled_extends t p e = split (plan_gate p)
  where
    split : (g : Check) → Extends t (settled g t p.text)
    split (Ok _) = e
    split (Err r) = extends_same t

-- ---- over any calls

call_extends : (k : Calls.Call) (t : Text) → Extends t (Calls.calling k t).text
unfolding Calls.calling
call_extends (Calls.inserts key value) t = settled_extends t (insert t key value) (insert_extends t key value)
call_extends (Calls.inserts_multiple key values ends) t = settled_extends t (insert_multiple t key values ends) (multiple_extends t key values ends)
call_extends (Calls.inserts_str slug) t = settled_extends t (insert_str t slug) (str_extends t slug)
call_extends (Calls.inserts_init_args slug) t = settled_extends t (insert_init_args t slug) (init_extends t slug)
call_extends (Calls.adds_device size base irq id) t = settled_extends t (add_device t size base irq id) (device_extends t size base irq id)
call_extends (Calls.writes room) t = extends_same t
call_extends (Calls.compares other) t = extends_same t
call_extends (Calls.tells f) t = extends_same t

pub nothing_lost : (ks : List Calls.Call) (t : Text) → Extends t (Calls.calls ks t).text
unfolding Calls.calls
nothing_lost [] t = extends_same t
nothing_lost (k ∷ ks) t = extends_then (call_extends k t) (nothing_lost ks (Calls.calling k t).text)
