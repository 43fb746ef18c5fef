-- What stands behind the texts has no part: two lines of equal numbers and texts get equal answers from every call, and leave equal numbers and
-- texts (`call_behind`, and for each function `insert_behind` and its like); and they are written, compared and loaded alike (`write_behind`,
-- `equal_behind`, `load_behind`).
use Rattle.std.specs.Prelude.{Ok, Err, Option}
use Prim.Native.Nat.{ℕ}
use mathlib.Core.Path.{◌≡◌, refl, sym, ap, ◌∙◌, subst, subst⁻¹}
use mathlib.Core.List.{List, [], ◌∷◌, ◌++◌}
use lib.Dec.{eqb}
use lib.ListN.{length}
use lib.Seq.{sets}
use Rattle.answers.specs.Pick.{pick}
use Rattle.answers.specs.Tests.{Test, asked_all, Check, pass}
use Rattle.answers.specs.declared.Refusal.TheVariants.{NoRoom}
use Rattle.answers.proofs.TestsLaws.{open_all, hold_left, hold_right}
use Rattle.cmdline.specs.Text.{Text}
use Rattle.cmdline.specs.Insertion.{Plan, answer_of, call_number, settled, insert, insert_multiple, insert_str, insert_init_args}
use Rattle.cmdline.specs.Device.{add_device}
use Rattle.cmdline.specs.Writing as writing
use Rattle.guest.specs.Loading as loading
use Rattle.guest.specs.Room.{memory_of}
use Rattle.guest.specs.declared.Map.{Map}
use Rattle.guest.specs.declared.Memory.{Memory}
use Rattle.guest.specs.Stream.{pour}
use Rattle.loader.specs.Lines as lines
use Rattle.capi_lines.specs.Lines
use Rattle.capi_lines.proofs.HoldsLaws.{holds_text}
use Rattle.capi_lines.proofs.LinesStay.{call_holds, insert_appends, multiple_appends, str_appends, init_appends, device_appends}

same_tests : (a b : List ℕ) → Lines.SameLine a b → Lines.line_tests a ≡ Lines.line_tests b
unfolding Lines.line_tests
same_tests a b s = rw (s.size, s.boots, s.inits, s.capacity)

-- bytes that hold the same texts
holds_same : (a b : List ℕ) (t : Text) → Lines.Holds a t → Lines.Holds b t → Lines.SameLine a b
holds_same a b t g h =
    record {
      size = g.size ∙ sym h.size;
      boots = g.boots ∙ sym h.boots;
      inits = g.inits ∙ sym h.inits;
      capacity = g.capacity ∙ sym h.capacity;
      text = holds_text a t g ∙ sym (holds_text b t h);
    }

-- ---- a call

module _ {part : Lines.Part} {plan : Text → Plan} (k : Lines.AppendsTo part plan) (a b : List ℕ) {r q : ℕ} {left last : List ℕ} (s : Lines.SameLine a b)
    (x : Lines.LineCalls part a (plan (Lines.text_in a)) r left) (y : Lines.LineCalls part b (plan (Lines.text_in b)) q last) where
  abbrev row : List ℕ → List Test
  row bytes = Lines.line_tests bytes ++ (plan (Lines.text_in bytes)).tests

  abbrev put : List ℕ → List ℕ
  put bytes = Lines.with_part part bytes (plan (Lines.text_in bytes)).text

  same_row : row a ≡ row b
  same_row =
      ap (λ (ts : List Test). ts ++ (plan (Lines.text_in a)).tests) (same_tests a b s)
      ∙ ap (λ (t : Text). Lines.line_tests b ++ (plan t).tests) s.text

  pub call_behind : (r ≡ q) × Lines.SameLine left last
  call_behind = split (asked_all pass (row a)) refl x (subst⁻¹ (λ (g : Check). Lines.LineLeft g b (put b) q last) (ap (asked_all pass) same_row) y)
    where
      split : (g : Check) → asked_all pass (row a) ≡ g → Lines.LineLeft g a (put a) r left → Lines.LineLeft g b (put b) q last
          → (r ≡ q) × Lines.SameLine left last
      split (Ok _) e v w =
          let all = open_all (row a) e in
          let other = open_all (row b) (sym (ap (asked_all pass) same_row) ∙ e) in
          let one = call_holds k a (hold_left (Lines.line_tests a) (plan (Lines.text_in a)).tests all) (hold_right (Lines.line_tests a) (plan (Lines.text_in a)).tests all) in
          let two = call_holds k b (hold_left (Lines.line_tests b) (plan (Lines.text_in b)).tests other) (hold_right (Lines.line_tests b) (plan (Lines.text_in b)).tests other) in
          let same = holds_same (put a) (put b) (plan (Lines.text_in b)).text
          (subst (λ (t : Text). Lines.Holds (put a) (plan t).text) s.text one) two in
          (v.answer ∙ sym w.answer, rw (v.line, w.line) same)
      split (Err refusal) e v w = (v.answer ∙ sym w.answer, rw (v.line, w.line) s)

-- ---- each function

module _ (a b : List ℕ) {r q : ℕ} {left last : List ℕ} (s : Lines.SameLine a b) where
  pub insert_behind : (key value : List ℕ) → Lines.LineCalls Lines.the_boot a (insert (Lines.text_in a) key value) r left
      → Lines.LineCalls Lines.the_boot b (insert (Lines.text_in b) key value) q last → (r ≡ q) × Lines.SameLine left last
  insert_behind key value = call_behind (insert_appends key value) a b s

  pub insert_multiple_behind : (key values ends : List ℕ) → Lines.LineCalls Lines.the_boot a (insert_multiple (Lines.text_in a) key values ends) r left
      → Lines.LineCalls Lines.the_boot b (insert_multiple (Lines.text_in b) key values ends) q last → (r ≡ q) × Lines.SameLine left last
  insert_multiple_behind key values ends = call_behind (multiple_appends key values ends) a b s

  pub insert_str_behind : (slug : List ℕ) → Lines.LineCalls Lines.the_boot a (insert_str (Lines.text_in a) slug) r left
      → Lines.LineCalls Lines.the_boot b (insert_str (Lines.text_in b) slug) q last → (r ≡ q) × Lines.SameLine left last
  insert_str_behind slug = call_behind (str_appends slug) a b s

  pub insert_init_args_behind : (slug : List ℕ) → Lines.LineCalls Lines.the_init a (insert_init_args (Lines.text_in a) slug) r left
      → Lines.LineCalls Lines.the_init b (insert_init_args (Lines.text_in b) slug) q last → (r ≡ q) × Lines.SameLine left last
  insert_init_args_behind slug = call_behind (init_appends slug) a b s

  pub device_behind : (size base irq : ℕ) (id : Option ℕ) → Lines.LineCalls Lines.the_boot a (add_device (Lines.text_in a) size base irq id) r left
      → Lines.LineCalls Lines.the_boot b (add_device (Lines.text_in b) size base irq id) q last → (r ≡ q) × Lines.SameLine left last
  device_behind size base irq id = call_behind (device_appends size base irq id) a b s

-- ---- writing, comparing, loading

write_gate_lem : (a b count : List ℕ) (room : ℕ) → Lines.SameLine a b → Lines.line_write_gate a count room ≡ Lines.line_write_gate b count room
unfolding Lines.line_write_gate
write_gate_lem a b count room s =
    ap (λ (ts : List Test). asked_all pass (((eqb (length count) 1, NoRoom) ∷ ts) ++ writing.write_tests (Lines.text_in a) room)) (same_tests a b s)
    ∙ ap (λ (t : Text). asked_all pass (((eqb (length count) 1, NoRoom) ∷ Lines.line_tests b) ++ writing.write_tests t room)) s.text

equal_gate_lem : (a b c d out : List ℕ) → Lines.SameLine a b → Lines.SameLine c d → Lines.equal_gate a c out ≡ Lines.equal_gate b d out
unfolding Lines.equal_gate
equal_gate_lem a b c d out s u =
    ap (λ (ts : List Test). asked_all pass (((eqb (length out) 1, NoRoom) ∷ ts) ++ Lines.line_tests c)) (same_tests a b s)
    ∙ ap (λ (ts : List Test). asked_all pass (((eqb (length out) 1, NoRoom) ∷ Lines.line_tests b) ++ ts)) (same_tests c d u)

pub write_behind : (a b : List ℕ) (out count : List ℕ) {r : ℕ} {out-left count_left : List ℕ} → Lines.SameLine a b
    → Lines.LineWrites a out count r out-left count_left → Lines.LineWrites b out count r out-left count_left
write_behind a b out count s w =
    record {
      answer = w.answer ∙ by_both (λ g t. writing.written_number (writing.written_of g t));
      text = w.text ∙ by_both (λ g t. sets out 0 (writing.written_bytes g t));
      told = w.told ∙ by_both (λ g t. sets count 0 (writing.written_count (writing.written_of g t)));
    }
  where
    gate : Lines.line_write_gate a count (length out) ≡ Lines.line_write_gate b count (length out)
    gate = write_gate_lem a b count (length out) s

    by_both : {A : Type 0} (f : Check → Text → A)
        → f (Lines.line_write_gate a count (length out)) (Lines.text_in a) ≡ f (Lines.line_write_gate b count (length out)) (Lines.text_in b)
    by_both f = ap (λ (g : Check). f g (Lines.text_in a)) gate ∙ ap (f (Lines.line_write_gate b count (length out))) s.text

pub equal_behind : (a b c d : List ℕ) (out : List ℕ) {r : ℕ} {left : List ℕ} → Lines.SameLine a b → Lines.SameLine c d → Lines.LinesCompare a c out r left
    → Lines.LinesCompare b d out r left
equal_behind a b c d out s u w =
    let gate = equal_gate_lem a b c d out s u in
    record {
      answer = w.answer ∙ ap (λ (g : Check). call_number (answer_of g)) gate;
      told =
          w.told
          ∙ ap (λ (g : Check). settled g out (sets out 0 (pick (writing.same_line (Lines.text_in a) (Lines.text_in c)) 1 0 ∷ []))) gate
          ∙ ap (λ (t : Text). settled (Lines.equal_gate b d out) out (sets out 0 (pick (writing.same_line t (Lines.text_in c)) 1 0 ∷ []))) s.text
          ∙ ap (λ (t : Text). settled (Lines.equal_gate b d out) out (sets out 0 (pick (writing.same_line (Lines.text_in b) t) 1 0 ∷ []))) u.text;
    }

same_load_plan : (a b : List ℕ) (m : Memory) (address : ℕ) → Lines.SameLine a b → Lines.load_plan a m address ≡ Lines.load_plan b m address
same_load_plan a b m address s =
    ap (λ (ts : List Test). loading.behind_tests Err (ts ++ lines.tests (Lines.text_in a) m address) (lines.line_plan (Lines.text_in a) address)) (same_tests a b s)
    ∙ ap (λ (t : Text). loading.behind_tests Err (Lines.line_tests b ++ lines.tests t m address) (lines.line_plan t address)) s.text

pub load_behind : (a b : List ℕ) (address : ℕ) (map : Map) (guest : List ℕ) {r : ℕ} {after : List ℕ} → Lines.SameLine a b → Lines.LineLoadsFrom a address map guest r after
    → Lines.LineLoadsFrom b address map guest r after
load_behind a b address map guest s w =
    let plan = same_load_plan a b (memory_of guest map) address s in
    record {
      answer = w.answer ∙ ap (λ (p : loading.Plan Check). lines.line_number p.answer) plan;
      memory = w.memory ∙ ap (λ (p : loading.Plan Check). pour p.stream guest) plan;
    }

pub plan_behind : (a b : List ℕ) (size : ℕ) (map : Map) (address : ℕ) → Lines.SameLine a b → Lines.plan_number a size map address ≡ Lines.plan_number b size map address
plan_behind a b size map address s =
    ap (λ (p : loading.Plan Check). lines.line_number p.answer) (same_load_plan a b (record { size = size; map = map }) address s)
