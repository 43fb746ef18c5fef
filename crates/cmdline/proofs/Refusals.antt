-- The sentence "a number is given exactly when its turn comes in the order and its condition holds", of every call on a line and of writing it:
-- a call is accepted exactly where every test of its row holds, and refused exactly by the first test that fails. Stated of each function's
-- own contract: `new_answers`, `insert_answers` and their like; `as_cstring_answers` for writing, by value and over lent texts
-- (`texts_answers`). A making says whether it returns a line (`said_of`).
use Rattle.std.specs.Prelude.{Ok, Err, Result}
use Prim.Native.Nat.{ℕ}
use mathlib.Core.Path.{◌≡◌, refl, sym, ap, ◌∙◌}
use mathlib.Core.List.{List}
use native.Mathlib.Omega.{arith}
use lib.ListN.{length}
use Rattle.answers.specs.Tests.{Test, asked_all, Check, pass}
use Rattle.answers.specs.declared.Refusal.{Refusal}
use Rattle.answers.proofs.TestsLaws.{open_all, all_open, shut_first, first_shut}
use Rattle.cmdline.specs.Text.{Text}
use Rattle.cmdline.specs.Insertion.{Plan, plan_gate, answer_of, call_number, insert, insert_str, insert_init_args, insert_multiple}
use Rattle.cmdline.specs.Device.{add_device}
use Rattle.cmdline.specs.Making.{new, try_from}
use Rattle.cmdline.specs.Writing.{bare, write_tests, write_gate, written_of, written_number, Writes}
use Rattle.cmdline.specs.declared.Cmdline.{Cmdline}
use Rattle.cmdline.specs.Held.{text_of, made_of, line_by, line_of, said_of}
use Rattle.cmdline.specs.Keeping.{Says}
use Rattle.cmdline.specs.Answering.{AnswersBy, WritesBy}
use Rattle.cmdline.proofs.Cmdline.new.Kinds as new_kinds
use Rattle.cmdline.proofs.Cmdline.new.Reads as new_reads
use Rattle.cmdline.proofs.Cmdline.try_from.Kinds as try_from_kinds
use Rattle.cmdline.proofs.Cmdline.try_from.Reads as try_from_reads
use Rattle.cmdline.proofs.Cmdline.insert.Kinds as insert_kinds
use Rattle.cmdline.proofs.Cmdline.insert.Reads as insert_reads
use Rattle.cmdline.proofs.Cmdline.insert_multiple.Kinds as insert_multiple_kinds
use Rattle.cmdline.proofs.Cmdline.insert_multiple.Reads as insert_multiple_reads
use Rattle.cmdline.proofs.Cmdline.insert_str.Kinds as insert_str_kinds
use Rattle.cmdline.proofs.Cmdline.insert_str.Reads as insert_str_reads
use Rattle.cmdline.proofs.Cmdline.insert_init_args.Kinds as insert_init_args_kinds
use Rattle.cmdline.proofs.Cmdline.insert_init_args.Reads as insert_init_args_reads
use Rattle.cmdline.proofs.Cmdline.add_virtio_mmio_device.Kinds as add_virtio_mmio_device_kinds
use Rattle.cmdline.proofs.Cmdline.add_virtio_mmio_device.Reads as add_virtio_mmio_device_reads
use Rattle.cmdline.proofs.Cmdline.as_cstring.Kinds as as_cstring_kinds
use Rattle.cmdline.proofs.Cmdline.as_cstring.Reads as as_cstring_reads
use Rattle.cmdline.proofs.writing.as_cstring.Kinds as texts_kinds
use Rattle.cmdline.proofs.writing.as_cstring.Reads as texts_reads

-- ---- an answer, by how the tests end

pub answered_open : (g : Check) → answer_of g ≡ pass → g ≡ pass
answered_open (Ok _) e = refl
answered_open (Err r) e = let w : ◌≡◌ {A = ℕ} 0 1 = cc in absurd (omega arith)

pub answered_shut : (g : Check) {refusal : Refusal} → answer_of g ≡ Err refusal → g ≡ Err refusal
answered_shut (Ok _) e = let w : ◌≡◌ {A = ℕ} 0 1 = cc in absurd (omega arith)
answered_shut (Err first) {refusal} e = let is : ◌≡◌ {A = Refusal} first refusal = cc in ap Err is

by_row : (ts : List Test) {a : Check} → a ≡ answer_of (asked_all pass ts) → AnswersBy ts a
by_row ts {a} e =
    record {
      accepted_where = λ h. e ∙ ap answer_of (all_open ts h);
      where_accepted = λ is. open_all ts (answered_open (asked_all pass ts) (sym e ∙ is));
      refused_where = λ refusal f. e ∙ ap answer_of (first_shut ts refusal f);
      where_refused = λ refusal is. shut_first ts refusal (answered_shut (asked_all pass ts) (sym e ∙ is));
      accepted_number = λ h. ap call_number (e ∙ ap answer_of (all_open ts h));
      refused_number = λ refusal f. ap call_number (e ∙ ap answer_of (first_shut ts refusal f));
    }

-- ---- each call

-- what a function says that makes a line
made_said : (g : Check) (l : Cmdline) → said_of (line_by g l) ≡ g
made_said (Ok _) l = refl
made_said (Err r) l = refl

by_making : (p : Plan) {z : Result Cmdline Refusal} → z ≡ line_of (made_of p) → AnswersBy p.tests (said_of z)
by_making p e = by_row p.tests (ap (λ (r : Result Cmdline Refusal). said_of r) e ∙ made_said (answer_of (plan_gate p)) (made_of p).line)

pub new_answers : Says 0 new_kinds.ps new_kinds.r new_reads.Post (λ κs a z. AnswersBy (new a.0).tests (said_of z))
new_answers κs a z ws p = by_making (new a.0) p

pub try_from_answers : Says 1 try_from_kinds.ps try_from_kinds.r try_from_reads.Post (λ κs a z. AnswersBy (try_from a.0.now a.1.0).tests (said_of z))
try_from_answers κs a z ws p = by_making (try_from a.0.now a.1.0) p

pub insert_answers : Says 3 insert_kinds.ps insert_kinds.r insert_reads.Post
    (λ κs a z. AnswersBy (insert (text_of a.0.now) a.1.0.now a.1.1.0.now).tests z)
insert_answers κs a z ws p = by_row (insert (text_of a.0.now) a.1.0.now a.1.1.0.now).tests p.0.0

pub insert_multiple_answers : Says 4 insert_multiple_kinds.ps insert_multiple_kinds.r insert_multiple_reads.Post
    (λ κs a z. AnswersBy (insert_multiple (text_of a.0.now) a.1.0.now a.1.1.0.now a.1.1.1.0.now).tests z)
insert_multiple_answers κs a z ws p = by_row (insert_multiple (text_of a.0.now) a.1.0.now a.1.1.0.now a.1.1.1.0.now).tests p.0.0

pub insert_str_answers : Says 2 insert_str_kinds.ps insert_str_kinds.r insert_str_reads.Post
    (λ κs a z. AnswersBy (insert_str (text_of a.0.now) a.1.0.now).tests z)
insert_str_answers κs a z ws p = by_row (insert_str (text_of a.0.now) a.1.0.now).tests p.0.0

pub insert_init_args_answers : Says 2 insert_init_args_kinds.ps insert_init_args_kinds.r insert_init_args_reads.Post
    (λ κs a z. AnswersBy (insert_init_args (text_of a.0.now) a.1.0.now).tests z)
insert_init_args_answers κs a z ws p = by_row (insert_init_args (text_of a.0.now) a.1.0.now).tests p.0.0

pub add_virtio_mmio_device_answers : Says 1 add_virtio_mmio_device_kinds.ps add_virtio_mmio_device_kinds.r add_virtio_mmio_device_reads.Post
    (λ κs a z. AnswersBy (add_device (text_of a.0.now) a.1.0 a.1.1.0.0 a.1.1.1.0 a.1.1.1.1.0).tests z)
add_virtio_mmio_device_answers κs a z ws p = by_row (add_device (text_of a.0.now) a.1.0 a.1.1.0.0 a.1.1.1.0 a.1.1.1.1.0).tests p.0.0

-- ---- writing

written_open : (t : Text) (g : Check) {n : ℕ} → written_of g t ≡ Ok n → g ≡ pass
written_open t (Ok _) e = refl
written_open t (Err r) e = let w : ◌≡◌ {A = ℕ} 0 1 = cc in absurd (omega arith)

written_shut : (t : Text) (g : Check) {refusal : Refusal} → written_of g t ≡ Err refusal → g ≡ Err refusal
written_shut t (Ok _) e = let w : ◌≡◌ {A = ℕ} 0 1 = cc in absurd (omega arith)
written_shut t (Err first) {refusal} e = let is : ◌≡◌ {A = Refusal} first refusal = cc in ap Err is

by_writing : (t : Text) (out : List ℕ) {w : Result ℕ Refusal} {left : List ℕ} → Writes t out w left → WritesBy t (length out) w
by_writing t out {w} writes =
    let by : (g : Check) → write_gate t (length out) ≡ g → w ≡ written_of g t = λ g e. writes.answer ∙ ap (λ (x : Check). written_of x t) e in
    record {
      written_where = λ h. by pass (all_open (write_tests t (length out)) h);
      where_written = λ n is. open_all (write_tests t (length out)) (written_open t (write_gate t (length out)) (sym writes.answer ∙ is));
      refused_where = λ refusal f. by (Err refusal) (first_shut (write_tests t (length out)) refusal f);
      where_refused = λ refusal is. shut_first (write_tests t (length out)) refusal (written_shut t (write_gate t (length out)) (sym writes.answer ∙ is));
      number_written = λ h. ap written_number (by pass (all_open (write_tests t (length out)) h));
      refused_number = λ refusal f. ap written_number (by (Err refusal) (first_shut (write_tests t (length out)) refusal f));
    }

pub as_cstring_answers : Says 2 as_cstring_kinds.ps as_cstring_kinds.r as_cstring_reads.Post (λ κs a z. WritesBy (text_of a.0.now) (length a.1.0.now) z)
as_cstring_answers κs a z ws p = by_writing (text_of a.0.now) a.1.0.now p

pub texts_answers : Says 3 texts_kinds.ps texts_kinds.r texts_reads.Post (λ κs a z. WritesBy (bare a.1.0.now a.1.1.0.now) (length a.0.now) z)
texts_answers κs a z ws p = by_writing (bare a.1.0.now a.1.1.0.now) a.0.now p
