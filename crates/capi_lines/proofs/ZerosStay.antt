-- A line that is made here has zeros behind its texts (`new_zero`, `try_from_zero`), and every call on it keeps them (`insert_zero` and its like).
use Rattle.std.specs.Prelude.{Ok, Err, Option}
use Prim.Native.Nat.{ℕ, ◌+◌, ◌≤◌}
use mathlib.Core.Path.{◌≡◌, refl, ap, ◌∙◌, subst, subst⁻¹}
use mathlib.Core.List.{List, ◌∷◌, ◌++◌}
use native.Mathlib.Omega.{arith}
use lib.ListN.{length, replicate}
use lib.Seq.{sets}
use borrow.Author.Tests.{eq-eqb}
use Rattle.answers.specs.Tests.{asked_all, AllHold, Check, pass}
use Rattle.answers.proofs.TestsLaws.{open_all, all_open, hold_left, hold_right}
use Rattle.fields.specs.Numbers.{le_bytes}
use Rattle.fields.proofs.CopyingLaws.{sets_below, sets_above}
use Rattle.fields.proofs.NumbersLaws.{length_le_bytes}
use Rattle.cmdline.specs.Limit.{limit}
use Rattle.cmdline.specs.Text.{Text}
use Rattle.cmdline.specs.Fitting.{Fits, Short}
use Rattle.cmdline.specs.Insertion.{Plan, settled, with_boot, insert, insert_multiple, insert_str, insert_init_args}
use Rattle.cmdline.specs.Device.{add_device}
use Rattle.cmdline.specs.Making.{new, try_from}
use Rattle.cmdline.proofs.CountedSize.{new_fits, from_fits}
use Rattle.cmdline.proofs.NothingLost.{begins_long}
use Rattle.cmdline.proofs.HeldTexts.{fits_short}
use Rattle.cmdline.proofs.MakingLaws.{new_most, from_most}
use Rattle.cmdline.proofs.ZeroLaws.{zeros}
use Rattle.capi_lines.specs.Lines
use Rattle.capi_lines.proofs.HoldsLaws.{line_holds, blank_holds, put_boot, put_init}
use Rattle.capi_lines.proofs.LinesStay.{plan_short, call_holds, insert_appends, multiple_appends, str_appends, init_appends, device_appends}

-- a text that is no shorter than the one before it, put in its place
module _ (bytes : List ℕ) (t : Text) (h : Lines.Holds bytes t) (z : Lines.ZeroBehind bytes) (s : List ℕ) (short : length s ≤ limit) where
  boot_zero : length t.boot ≤ length s → Lines.Holds (Lines.with_text 0 Lines.boot_place bytes s) (with_boot t s) → Lines.ZeroBehind (Lines.with_text 0 Lines.boot_place bytes s)
  boot_zero more after =
      let eight = length_le_bytes 8 (length s) in
      let b = h.boots in
      let i = h.inits in
      let nb = after.boots in
      let ni = after.inits in
      record {
        boot =
            λ k low high.
            sets_above (le_bytes 8 (length s)) (sets bytes Lines.boot_place s) 0 (Lines.boot_place + k) (omega arith)
            ∙ sets_above s bytes Lines.boot_place (Lines.boot_place + k) (omega arith)
            ∙ z.boot k (omega arith) high;
        init =
            λ k low high.
            sets_above (le_bytes 8 (length s)) (sets bytes Lines.boot_place s) 0 (Lines.init_place + k) (omega arith)
            ∙ sets_above s bytes Lines.boot_place (Lines.init_place + k) (omega arith)
            ∙ z.init k (omega arith) high;
      }

  init_zero : {u : Text} → length t.init ≤ length s → u.boot ≡ t.boot → u.init ≡ s → Lines.Holds (Lines.with_text 8 Lines.init_place bytes s) u
      → Lines.ZeroBehind (Lines.with_text 8 Lines.init_place bytes s)
  init_zero more same-boot same-init after =
      let eight = length_le_bytes 8 (length s) in
      let b = h.boots in
      let i = h.inits in
      let nb = after.boots ∙ ap length same-boot in
      let ni = after.inits ∙ ap length same-init in
      record {
        boot =
            λ k low high.
            sets_above (le_bytes 8 (length s)) (sets bytes Lines.init_place s) 8 (Lines.boot_place + k) (omega arith)
            ∙ sets_below s bytes Lines.init_place (Lines.boot_place + k) (omega arith)
            ∙ z.boot k (omega arith) high;
        init =
            λ k low high.
            sets_above (le_bytes 8 (length s)) (sets bytes Lines.init_place s) 8 (Lines.init_place + k) (omega arith)
            ∙ sets_above s bytes Lines.init_place (Lines.init_place + k) (omega arith)
            ∙ z.init k (omega arith) high;
      }

-- ---- a new line

blank_zero : (c : ℕ) → Lines.ZeroBehind (sets (replicate Lines.line_size 0) 16 (le_bytes 8 c))
blank_zero c =
    let eight = length_le_bytes 8 c in
    record {
      boot =
          λ k low high.
          sets_above (le_bytes 8 c) (replicate Lines.line_size 0) 16 (Lines.boot_place + k) (omega arith) ∙ zeros Lines.line_size (Lines.boot_place + k);
      init =
          λ k low high.
          sets_above (le_bytes 8 c) (replicate Lines.line_size 0) 16 (Lines.init_place + k) (omega arith) ∙ zeros Lines.line_size (Lines.init_place + k);
    }

new_line_zero : (t : Text) → Short t → Lines.ZeroBehind (Lines.new_line Lines.line_size t)
new_line_zero t short =
    let blank = blank_holds t.capacity short.capacity in
    let first = put_boot _ _ blank t.boot short.boot in
    init_zero _ _ first (boot_zero _ _ blank (blank_zero t.capacity) t.boot short.boot (omega arith) first) t.init short.init (omega arith) refl refl
    (put_init _ _ first t.init short.boot short.init)

made_zero : (bytes : List ℕ) (p : Plan) {r : ℕ} {left : List ℕ} → (AllHold p.tests → Fits p.text) → (AllHold p.tests → p.text.capacity ≤ limit)
    → Lines.LineMakes bytes p r left → length bytes ≡ Lines.line_size → AllHold p.tests → Lines.ZeroBehind left
made_zero bytes p told most made size hold =
    subst⁻¹ Lines.ZeroBehind
    (made.line
    ∙ ap (λ (g : Check). settled g bytes (Lines.new_line Lines.line_size p.text))
    (all_open (Lines.size_test bytes ∷ p.tests) (eq-eqb (length bytes) Lines.line_size size, hold)))
    (new_line_zero p.text (fits_short p.text (told hold) (most hold)))

-- ---- a call

part_zero : (part : Lines.Part) (bytes : List ℕ) (t u : Text) → Lines.Holds bytes t → Lines.ZeroBehind bytes → length u.boot ≤ limit → length u.init ≤ limit
    → length t.boot ≤ length u.boot → length t.init ≤ length u.init → u ≡ Lines.with_one part t u → Lines.Holds (Lines.with_part part bytes u) u
    → Lines.ZeroBehind (Lines.with_part part bytes u)
part_zero Lines.the_boot bytes t u h z sb si mb mi one after =
    boot_zero bytes t h z u.boot sb mb (subst (λ (x : Text). Lines.Holds (Lines.with_text 0 Lines.boot_place bytes u.boot) x) one after)
part_zero Lines.the_init bytes t u h z sb si mb mi one after =
    init_zero bytes t h z u.init si mi (ap (λ (x : Text). x.boot) one) refl after

pub call_zero : {part : Lines.Part} {plan : Text → Plan} → Lines.AppendsTo part plan → (bytes : List ℕ) {r : ℕ} {left : List ℕ}
    → Lines.LineCalls part bytes (plan (Lines.text_in bytes)) r left → Lines.ZeroBehind bytes → Lines.ZeroBehind left
call_zero {part} {plan} a bytes {r} {left} call z = split (asked_all pass (Lines.line_tests bytes ++ (plan (Lines.text_in bytes)).tests)) refl call
  where
    split : (g : Check) → asked_all pass (Lines.line_tests bytes ++ (plan (Lines.text_in bytes)).tests) ≡ g
        → Lines.LineLeft g bytes (Lines.with_part part bytes (plan (Lines.text_in bytes)).text) r left → Lines.ZeroBehind left
    split (Ok _) e v =
        let all = open_all (Lines.line_tests bytes ++ (plan (Lines.text_in bytes)).tests) e in
        let is = hold_left (Lines.line_tests bytes) (plan (Lines.text_in bytes)).tests all in
        let hold = hold_right (Lines.line_tests bytes) (plan (Lines.text_in bytes)).tests all in
        let short = plan_short a bytes is hold in
        let grown = a.extends (Lines.text_in bytes) in
        subst⁻¹ Lines.ZeroBehind v.line
        (part_zero part bytes (Lines.text_in bytes) (plan (Lines.text_in bytes)).text (line_holds bytes is) z short.boot short.init (begins_long grown.boot) (begins_long grown.init) (a.one (Lines.text_in bytes))
        (call_holds a bytes is hold))
    split (Err refusal) e v = subst⁻¹ Lines.ZeroBehind v.line z

-- ---- each function

module _ (bytes : List ℕ) {r : ℕ} {left : List ℕ} where
  pub new_zero : (c : ℕ) → Lines.LineMakes bytes (new c) r left → length bytes ≡ Lines.line_size → AllHold (new c).tests → Lines.ZeroBehind left
  new_zero c = made_zero bytes (new c) (new_fits c) (new_most c)

  pub try_from_zero : (s : List ℕ) (c : ℕ) → Lines.LineMakes bytes (try_from s c) r left → length bytes ≡ Lines.line_size → AllHold (try_from s c).tests
      → Lines.ZeroBehind left
  try_from_zero s c = made_zero bytes (try_from s c) (from_fits s c) (from_most s c)

  pub insert_zero : (key value : List ℕ) → Lines.LineCalls Lines.the_boot bytes (insert (Lines.text_in bytes) key value) r left → Lines.ZeroBehind bytes
      → Lines.ZeroBehind left
  insert_zero key value = call_zero (insert_appends key value) bytes

  pub insert_multiple_zero : (key values ends : List ℕ) → Lines.LineCalls Lines.the_boot bytes (insert_multiple (Lines.text_in bytes) key values ends) r left
      → Lines.ZeroBehind bytes → Lines.ZeroBehind left
  insert_multiple_zero key values ends = call_zero (multiple_appends key values ends) bytes

  pub insert_str_zero : (slug : List ℕ) → Lines.LineCalls Lines.the_boot bytes (insert_str (Lines.text_in bytes) slug) r left → Lines.ZeroBehind bytes
      → Lines.ZeroBehind left
  insert_str_zero slug = call_zero (str_appends slug) bytes

  pub insert_init_args_zero : (slug : List ℕ) → Lines.LineCalls Lines.the_init bytes (insert_init_args (Lines.text_in bytes) slug) r left
      → Lines.ZeroBehind bytes → Lines.ZeroBehind left
  insert_init_args_zero slug = call_zero (init_appends slug) bytes

  pub device_zero : (size base irq : ℕ) (id : Option ℕ) → Lines.LineCalls Lines.the_boot bytes (add_device (Lines.text_in bytes) size base irq id) r left
      → Lines.ZeroBehind bytes → Lines.ZeroBehind left
  device_zero size base irq id = call_zero (device_appends size base irq id) bytes
