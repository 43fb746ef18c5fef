-- Bytes that hold a line hold one after every call on it, and so do bytes over which one is made: what one function leaves, the next accepts
-- (`insert_stays` and its like, `new_stays`, `try_from_stays`). The texts that they then hold are those of the call's plan, or, where it is
-- refused, those that they held (`call_texts`).
use Rattle.std.specs.Prelude.{Ok, Err, Option}
use Prim.Native.Nat.{ℕ, ◌≤◌}
use mathlib.Core.Path.{◌≡◌, refl, ap, ◌∙◌, subst⁻¹}
use mathlib.Core.List.{List, ◌∷◌}
use native.Mathlib.Omega.{arith}
use lib.ListN.{length}
use borrow.Author.Tests.{eq-eqb}
use Rattle.answers.specs.Tests.{asked_all, AllHold, Check, pass}
use Rattle.answers.proofs.TestsLaws.{open_all, all_open, asked_append}
use Rattle.cmdline.specs.Limit.{limit}
use Rattle.cmdline.specs.Text.{Text}
use Rattle.cmdline.specs.Fitting.{Fits, Short}
use Rattle.cmdline.specs.Insertion.{Plan, plan_gate, settled, insert, insert_multiple, insert_str, insert_init_args}
use Rattle.cmdline.specs.Device.{add_device}
use Rattle.cmdline.specs.Making.{new, try_from}
use Rattle.cmdline.proofs.CountedSize.{str_fits, init_fits, insert_fits, multiple_fits, device_fits, new_fits, from_fits}
use Rattle.cmdline.proofs.NothingLost.{str_extends, init_extends, insert_extends, multiple_extends, device_extends}
use Rattle.cmdline.proofs.HeldTexts.{fits_short}
use Rattle.cmdline.proofs.MakingLaws.{new_most, from_most}
use Rattle.capi_lines.specs.Lines
use Rattle.capi_lines.proofs.LinesLaws.{line_sized}
use Rattle.capi_lines.proofs.HoldsLaws.{line_holds, holds_text, holds_line, put_boot, put_init, new_holds}

-- ---- what appends to one text

pub insert_appends : (key value : List ℕ) → Lines.AppendsTo Lines.the_boot (λ t. insert t key value)
unfolding insert insert_str
insert_appends key value = record { fits = λ t. insert_fits t key value; extends = λ t. insert_extends t key value; one = λ t. refl }

pub multiple_appends : (key values ends : List ℕ) → Lines.AppendsTo Lines.the_boot (λ t. insert_multiple t key values ends)
unfolding insert_multiple insert_str
multiple_appends key values ends =
    record { fits = λ t. multiple_fits t key values ends; extends = λ t. multiple_extends t key values ends; one = λ t. refl }

pub str_appends : (slug : List ℕ) → Lines.AppendsTo Lines.the_boot (λ t. insert_str t slug)
unfolding insert_str
str_appends slug = record { fits = λ t. str_fits t slug; extends = λ t. str_extends t slug; one = λ t. refl }

pub init_appends : (slug : List ℕ) → Lines.AppendsTo Lines.the_init (λ t. insert_init_args t slug)
unfolding insert_init_args
init_appends slug = record { fits = λ t. init_fits t slug; extends = λ t. init_extends t slug; one = λ t. refl }

pub device_appends : (size base irq : ℕ) (id : Option ℕ) → Lines.AppendsTo Lines.the_boot (λ t. add_device t size base irq id)
unfolding add_device insert_str
device_appends size base irq id =
    record { fits = λ t. device_fits t size base irq id; extends = λ t. device_extends t size base irq id; one = λ t. refl }

-- ---- what a call leaves

-- the bytes with the new text hold the texts of the plan
put_holds : (part : Lines.Part) (bytes : List ℕ) (t u : Text) → Lines.Holds bytes t → Short t → Short u
    → Lines.Holds (Lines.with_part part bytes u) (Lines.with_one part t u)
put_holds Lines.the_boot bytes t u h own short = put_boot bytes t h u.boot short.boot
put_holds Lines.the_init bytes t u h own short = put_init bytes t h u.init own.boot short.init

module _ {part : Lines.Part} {plan : Text → Plan} (a : Lines.AppendsTo part plan) (bytes : List ℕ) where
  abbrev t : Text
  t = Lines.text_in bytes

  pub plan_short : Lines.IsLine bytes → AllHold (plan t).tests → Short (plan t).text
  plan_short is hold =
      let most = (line_sized bytes is).capacity in
      let cap = (a.extends t).capacity in
      fits_short (plan t).text (a.fits t hold) (omega arith)

  own_short : Lines.IsLine bytes → Short t
  own_short is =
      let s = line_sized bytes is in
      let h = line_holds bytes is in
      let b = s.boots in
      let i = s.inits in
      let hb = h.boots in
      let hi = h.inits in
      record { boot = omega arith; init = omega arith; capacity = s.capacity }

  pub call_holds : Lines.IsLine bytes → AllHold (plan t).tests → Lines.Holds (Lines.with_part part bytes (plan t).text) (plan t).text
  call_holds is hold =
      subst⁻¹ (λ (u : Text). Lines.Holds (Lines.with_part part bytes (plan t).text) u) (a.one t)
      (put_holds part bytes t (plan t).text (line_holds bytes is) (own_short is) (plan_short is hold))

  module _ {r : ℕ} {left : List ℕ} (call : Lines.LineCalls part bytes (plan t) r left) (is : Lines.IsLine bytes) where
    -- the tests of the bytes hold: those of the call decide
    left_is : left ≡ settled (plan_gate (plan t)) bytes (Lines.with_part part bytes (plan t).text)
    left_is =
        call.line
        ∙ ap (λ (g : Check). settled g bytes (Lines.with_part part bytes (plan t).text))
        (asked_append pass (Lines.line_tests bytes) (plan t).tests ∙ ap (λ (g : Check). asked_all g (plan t).tests) (all_open (Lines.line_tests bytes) is))

    left_holds : Lines.Holds left (settled (plan_gate (plan t)) t (plan t).text)
    left_holds = subst⁻¹ (λ (x : List ℕ). Lines.Holds x (settled (plan_gate (plan t)) t (plan t).text)) left_is (split (plan_gate (plan t)) refl)
      where
        split : (g : Check) → plan_gate (plan t) ≡ g → Lines.Holds (settled g bytes (Lines.with_part part bytes (plan t).text)) (settled g t (plan t).text)
        split (Ok _) e = call_holds is (open_all (plan t).tests e)
        split (Err refusal) e = line_holds bytes is

    pub call_texts : Lines.text_in left ≡ settled (plan_gate (plan t)) t (plan t).text
    call_texts = holds_text left (settled (plan_gate (plan t)) t (plan t).text) left_holds

    pub call_stays : Lines.IsLine left
    call_stays = subst⁻¹ Lines.IsLine left_is (split (plan_gate (plan t)) refl)
      where
        split : (g : Check) → plan_gate (plan t) ≡ g → Lines.IsLine (settled g bytes (Lines.with_part part bytes (plan t).text))
        split (Ok _) e =
            let hold = open_all (plan t).tests e in
            holds_line (Lines.with_part part bytes (plan t).text) (plan t).text (call_holds is hold) (a.fits t hold) (plan_short is hold).capacity
        split (Err refusal) e = is

-- a making that is accepted
made_holds : (bytes : List ℕ) (p : Plan) {r : ℕ} {left : List ℕ} → (AllHold p.tests → Fits p.text) → (AllHold p.tests → p.text.capacity ≤ limit)
    → Lines.LineMakes bytes p r left → length bytes ≡ Lines.line_size → AllHold p.tests → Lines.Holds left p.text
made_holds bytes p told most made size hold =
    subst⁻¹ (λ (x : List ℕ). Lines.Holds x p.text)
    (made.line
    ∙ ap (λ (g : Check). settled g bytes (Lines.new_line Lines.line_size p.text))
    (all_open (Lines.size_test bytes ∷ p.tests) (eq-eqb (length bytes) Lines.line_size size, hold)))
    (new_holds p.text (fits_short p.text (told hold) (most hold)))

-- ---- each function

module _ (bytes : List ℕ) {r : ℕ} {left : List ℕ} where
  pub new_texts : (c : ℕ) → Lines.LineMakes bytes (new c) r left → length bytes ≡ Lines.line_size → AllHold (new c).tests → Lines.Holds left (new c).text
  new_texts c = made_holds bytes (new c) (new_fits c) (new_most c)

  pub try_from_texts : (s : List ℕ) (c : ℕ) → Lines.LineMakes bytes (try_from s c) r left → length bytes ≡ Lines.line_size → AllHold (try_from s c).tests
      → Lines.Holds left (try_from s c).text
  try_from_texts s c = made_holds bytes (try_from s c) (from_fits s c) (from_most s c)

  pub new_stays : (c : ℕ) → Lines.LineMakes bytes (new c) r left → length bytes ≡ Lines.line_size → AllHold (new c).tests → Lines.IsLine left
  new_stays c made size hold = holds_line left (new c).text (new_texts c made size hold) (new_fits c hold) (new_most c hold)

  pub try_from_stays : (s : List ℕ) (c : ℕ) → Lines.LineMakes bytes (try_from s c) r left → length bytes ≡ Lines.line_size → AllHold (try_from s c).tests
      → Lines.IsLine left
  try_from_stays s c made size hold = holds_line left (try_from s c).text (try_from_texts s c made size hold) (from_fits s c hold) (from_most s c hold)

  pub insert_stays : (key value : List ℕ) → Lines.LineCalls Lines.the_boot bytes (insert (Lines.text_in bytes) key value) r left → Lines.IsLine bytes → Lines.IsLine left
  insert_stays key value = call_stays (insert_appends key value) bytes

  pub insert_multiple_stays : (key values ends : List ℕ)
      → Lines.LineCalls Lines.the_boot bytes (insert_multiple (Lines.text_in bytes) key values ends) r left → Lines.IsLine bytes → Lines.IsLine left
  insert_multiple_stays key values ends = call_stays (multiple_appends key values ends) bytes

  pub insert_str_stays : (slug : List ℕ) → Lines.LineCalls Lines.the_boot bytes (insert_str (Lines.text_in bytes) slug) r left → Lines.IsLine bytes → Lines.IsLine left
  insert_str_stays slug = call_stays (str_appends slug) bytes

  pub insert_init_args_stays : (slug : List ℕ) → Lines.LineCalls Lines.the_init bytes (insert_init_args (Lines.text_in bytes) slug) r left → Lines.IsLine bytes
      → Lines.IsLine left
  insert_init_args_stays slug = call_stays (init_appends slug) bytes

  pub device_stays : (size base irq : ℕ) (id : Option ℕ) → Lines.LineCalls Lines.the_boot bytes (add_device (Lines.text_in bytes) size base irq id) r left
      → Lines.IsLine bytes → Lines.IsLine left
  device_stays size base irq id = call_stays (device_appends size base irq id) bytes
