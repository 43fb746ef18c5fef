-- Laws of insertion in place, and of the line whose boot buffer was lent.
use Rattle.std.specs.Prelude.{Ok, Err, Option, Result}
use Rattle.answers.specs.declared.Refusal.{Refusal}
use Prim.Native.Nat.{ℕ, ◌+◌, ◌≤◌, min}
use mathlib.Core.Path.{◌≡◌, refl, sym, ap, ◌∙◌, subst}
use mathlib.Core.Bool.{Bool, true, false, not}
use mathlib.Core.List.{List, [], ◌∷◌, ◌++◌}
use native.Mathlib.Omega.{arith}
use lib.Dec.{leb, ltb, eqb}
use native.Mathlib.Decide.{dec_le}
use lib.ListN.{length}
use lib.Seq.{sets}
use borrow.Author.Tests.{leb-true, le-leb, lt-leb}
use Rattle.answers.specs.Pick.{pick}
use Rattle.answers.specs.Tests.{Test, asked, asked_all, AllHold, Check, pass}
use Rattle.answers.specs.declared.Refusal.TheVariants as refusal
use Rattle.answers.proofs.TestsLaws.{open_all, shut_stays, asked_append, hold_right}
use Rattle.slugs.specs.Bytes.{equals, printable, all_bytes}
use Rattle.slugs.specs.Lists.{good_list, list_pre, list_tests, listed}
use Rattle.slugs.specs.Trimming.{trim}
use Rattle.slugs.specs.Keys.{key_tests}
use Rattle.slugs.specs.Values.{value_tests, pair}
use Rattle.slugs.specs.Stored.{Stored}
use Rattle.slugs.specs.Joining.{space_after, joined}
use Rattle.cmdline.specs.declared.Cmdline.{Cmdline}
use Rattle.cmdline.specs.Limit.{limit}
use Rattle.cmdline.specs.Text.{Text, size_of, counted, boot_gap, init_gap, boot_room, init_room}
use Rattle.cmdline.specs.Insertion.{settled, with_boot, with_init, insert_str, insert_init_args, insert, insert_multiple}
use Rattle.cmdline.specs.Device.{device_text, add_device}
use Rattle.cmdline.specs.Held.{Reply, Replies, text_of, holding, clamped_line, settled_reply, reply_of}
use Rattle.cmdline.specs.InPlace.{Append, after_tests, appended_of, str_append, pair_append, list_append, device_append, init_append, slug_append, room_tests, append_gate, AppendsBy, Appends}
use Rattle.cmdline.proofs.TextLaws.{size_boot, init_asked, after_long}
use Rattle.slugs.proofs.StoredLaws.{stored_as}
use Rattle.cmdline.proofs.HeldLaws.{boot_long, init_long, boot_held, init_held}

-- ---- in place

-- a row whose first tests fail, and one whose first tests hold
pub stops : (ts us : List Test) {r : Refusal} → asked_all pass ts ≡ Err r → asked_all pass (ts ++ us) ≡ Err r
stops ts us {r} e = asked_append pass ts us ∙ ap (λ (x : Check). asked_all x us) e ∙ shut_stays us r

pub goes_on : (ts us : List Test) → asked_all pass ts ≡ pass → asked_all pass (ts ++ us) ≡ asked_all pass us
goes_on ts us e = asked_append pass ts us ∙ ap (λ (x : Check). asked_all x us) e

-- a test fails: nothing is put
pub appends_not : (g : Append) (buffer : List ℕ) (n : ℕ) {r : Refusal} → append_gate g buffer n ≡ Err r → Appends g buffer n (Err r) buffer
appends_not g buffer n e =
    record {
      answer = ap (λ (x : Check). appended_of x (n + length (space_after n ++ g.slug))) (sym e);
      bytes = ap (λ (x : Check). settled x buffer (sets buffer n (space_after n ++ g.slug))) (sym e);
    }

last_held : (x : Check) (b : Bool) → asked x b refusal.TooLarge ≡ pass → b ≡ true
unfolding asked pick
last_held (Ok _) true p = refl
last_held (Ok _) false p = let z : ◌≡◌ {A = ℕ} 0 1 = cc in absurd (omega arith)
last_held (Err r) b p = let z : ◌≡◌ {A = ℕ} 0 1 = cc in absurd (omega arith)

-- every test holds: the slug is put
pub appends_all : (g : Append) (buffer : List ℕ) (n : ℕ) {left : List ℕ} {k : ℕ} → append_gate g buffer n ≡ pass
    → Stored buffer n (space_after n ++ g.slug) left k → Appends g buffer n (Ok k) left
appends_all g buffer n {left} {k} e w =
    let fits = leb-true (n + length (space_after n ++ g.slug)) (length buffer)
    (last_held (asked_all pass g.tests) (leb (n + length (space_after n ++ g.slug)) (length buffer)) e) in
    let place = w.place in
    let whole : k ≡ n + length (space_after n ++ g.slug) = omega arith in
    record {
      answer = ap Ok whole ∙ ap (λ (x : Check). appended_of x (n + length (space_after n ++ g.slug))) (sym e);
      bytes = w.bytes ∙ ap (λ (x : Check). settled x buffer (sets buffer n (space_after n ++ g.slug))) (sym e);
    }

-- the tests before that of the buffer
pub gate_stops : (g : Append) (buffer : List ℕ) (n : ℕ) {r : Refusal} → asked_all pass g.tests ≡ Err r → append_gate g buffer n ≡ Err r
unfolding asked
gate_stops g buffer n e = ap (λ (x : Check). asked x (leb (n + length (space_after n ++ g.slug)) (length buffer)) refusal.TooLarge) e

-- a test that let a slug by
pub printed : (s : List ℕ) {a : Bool} → a ≡ all_bytes printable s → asked pass a refusal.InvalidAscii ≡ pass → all_bytes printable s ≡ true
unfolding asked pick
printed s {a} e f = by a e f
  where
    by : (b : Bool) → b ≡ all_bytes printable s → pick b pass (Err refusal.InvalidAscii) ≡ pass → all_bytes printable s ≡ true
    by true h k = sym h
    by false h k = let z : ◌≡◌ {A = ℕ} 0 1 = cc in absurd (omega arith)

-- a slug that is not printable
pub slug_stops : (size c : ℕ) (slug s buffer : List ℕ) (n : ℕ) {r : Refusal} → s ≡ trim slug → asked pass (all_bytes printable s) refusal.InvalidAscii ≡ Err r
    → append_gate (slug_append size c slug) buffer n ≡ Err r
unfolding slug_append
slug_stops size c slug s buffer n {r} trimmed e =
    let first : asked pass (all_bytes printable (trim slug)) refusal.InvalidAscii ≡ Err r = rw trimmed at e in
    gate_stops (slug_append size c slug) buffer n (stops ((all_bytes printable (trim slug), refusal.InvalidAscii) ∷ []) ((leb (size + length (trim slug)) c, refusal.TooLarge) ∷ []) first)

-- one that is has the tests of its room left
pub slug_room : (size c : ℕ) (slug s buffer : List ℕ) (n : ℕ) → s ≡ trim slug → all_bytes printable s ≡ true
    → append_gate (slug_append size c slug) buffer n ≡ asked_all pass (room_tests size c n (length buffer) (length s))
unfolding slug_append asked pick
slug_room size c slug s buffer n trimmed e = rw (← trimmed, e, after_long n s)

-- the tests of a room, by its numbers
pub room_as : {size size' c c' text text' : ℕ} (buffer n : ℕ) → size ≡ size' → c ≡ c' → text ≡ text'
    → asked_all pass (room_tests size' c' text' buffer n) ≡ asked_all pass (room_tests size c text buffer n)
room_as buffer n es ec et = rw (es, ec, et)

-- a slug with the room of the one text
pub slug_boot : (b i c : ℕ) (slug buffer : List ℕ) {size cap text : ℕ} {r : Result ℕ Refusal} {left : List ℕ} → text ≡ b → size ≡ size_of b i + boot_gap b → cap ≡ c
    → Appends (slug_append size cap slug) buffer text r left → Appends (str_append b i c slug) buffer b r left
unfolding slug_append str_append
slug_boot b i c slug buffer et es ec w = record { answer = rw (et, es, ec) at w.answer; bytes = rw (et, es, ec) at w.bytes }

pub slug_init : (b i c : ℕ) (slug buffer : List ℕ) {size cap text : ℕ} {r : Result ℕ Refusal} {left : List ℕ} → text ≡ i → size ≡ size_of b i + init_gap i → cap ≡ c
    → Appends (slug_append size cap slug) buffer text r left → Appends (init_append b i c slug) buffer i r left
unfolding slug_append init_append
slug_init b i c slug buffer et es ec w = record { answer = rw (et, es, ec) at w.answer; bytes = rw (et, es, ec) at w.bytes }

-- a count above the limit has no room, whether it counts in full or as the limit
room_same : (size c text buffer n : ℕ) {m : ℕ} → m ≡ min n limit → 1 ≤ size → c ≤ limit
    → asked_all pass (room_tests size c text buffer m) ≡ asked_all pass (room_tests size c text buffer n)
unfolding asked pick
room_same size c text buffer n {m} e low high = split (dec_le n limit)
  where
    split : Dec (n ≤ limit) → asked_all pass (room_tests size c text buffer m) ≡ asked_all pass (room_tests size c text buffer n)
    split (yes h) = ap (λ (k : ℕ). asked_all pass (room_tests size c text buffer k)) (let same : m ≡ n = omega arith in same)
    split (no h) = rw (lt-leb (size + m) c (omega arith), lt-leb (size + n) c (omega arith))

-- the tests before the slug of a list, as they are called: the list, the key, that there is a value, each value
module _ (key values ends : List ℕ) where
  abbrev list_test : Test
  list_test = (good_list ends (length values), refusal.BadList)

  abbrev some_test : Test
  some_test = (ltb 0 (length ends), refusal.MissingVal)

  pub list_bad : {r : Refusal} → asked pass (good_list ends (length values)) refusal.BadList ≡ Err r → asked_all pass (list_pre key values ends) ≡ Err r
  list_bad e = stops (list_test ∷ []) (key_tests key ++ (some_test ∷ list_tests 0 ends values)) e

  module _ (good : asked pass (good_list ends (length values)) refusal.BadList ≡ pass) where
    pub list_key : {r : Refusal} → asked_all pass (key_tests key) ≡ Err r → asked_all pass (list_pre key values ends) ≡ Err r
    list_key e =
        goes_on (list_test ∷ []) (key_tests key ++ (some_test ∷ list_tests 0 ends values)) good
        ∙ stops (key_tests key) (some_test ∷ list_tests 0 ends values) e

    module _ (held : asked_all pass (key_tests key) ≡ pass) where
      pub list_none : {r : Refusal} → asked pass (ltb 0 (length ends)) refusal.MissingVal ≡ Err r → asked_all pass (list_pre key values ends) ≡ Err r
      list_none e =
          goes_on (list_test ∷ []) (key_tests key ++ (some_test ∷ list_tests 0 ends values)) good
          ∙ goes_on (key_tests key) (some_test ∷ list_tests 0 ends values) held
          ∙ stops (some_test ∷ []) (list_tests 0 ends values) e

      pub list_values : asked pass (ltb 0 (length ends)) refusal.MissingVal ≡ pass
          → asked_all pass (list_pre key values ends) ≡ asked_all pass (list_tests 0 ends values)
      list_values some =
          goes_on (list_test ∷ []) (key_tests key ++ (some_test ∷ list_tests 0 ends values)) good
          ∙ goes_on (key_tests key) (some_test ∷ list_tests 0 ends values) held
          ∙ goes_on (some_test ∷ []) (list_tests 0 ends values) some

-- a slug that the tests before it show to be trimmed and printable
module _ (pre : List Test) (w : List ℕ) (told : AllHold pre → (trim w ≡ w) × (all_bytes printable w ≡ true)) (b i c : ℕ) (buffer : List ℕ) where
  pub pre_stops : {r : Refusal} → asked_all pass pre ≡ Err r → Appends (after_tests pre (str_append b i c w)) buffer b (Err r) buffer
  pre_stops e =
      appends_not (after_tests pre (str_append b i c w)) buffer b
      (gate_stops (after_tests pre (str_append b i c w)) buffer b (stops pre (str_append b i c w).tests e))

  pre_room : {k : ℕ} → asked_all pass pre ≡ pass → c ≤ limit → k ≡ min (length w) limit
      → append_gate (after_tests pre (str_append b i c w)) buffer b ≡ asked_all pass (room_tests (size_of b i + boot_gap b) c b (length buffer) k)
  unfolding str_append slug_append
  pre_room {k} e top count =
      let by = told (open_all pre e) in
      let size = size_boot b i in
      ap (λ (x : Check). asked x (leb (b + length (space_after b ++ trim w)) (length buffer)) refusal.TooLarge) (goes_on pre (str_append b i c w).tests e)
      ∙ slug_room (size_of b i + boot_gap b) c w w buffer b (sym by.0) by.1
      ∙ sym (room_same (size_of b i + boot_gap b) c b (length buffer) (length w) count (omega arith) top)

  -- there is no room for it
  pub room_stops : {k : ℕ} {r : Refusal} → asked_all pass pre ≡ pass → c ≤ limit → k ≡ min (length w) limit
      → asked_all pass (room_tests (size_of b i + boot_gap b) c b (length buffer) k) ≡ Err r → Appends (after_tests pre (str_append b i c w)) buffer b (Err r) buffer
  room_stops e top count f = appends_not (after_tests pre (str_append b i c w)) buffer b (pre_room e top count ∙ f)

  -- there is
  pub room_all : {k m : ℕ} {left : List ℕ} → asked_all pass pre ≡ pass → c ≤ limit → k ≡ min (length w) limit
      → asked_all pass (room_tests (size_of b i + boot_gap b) c b (length buffer) k) ≡ pass → Stored buffer b (space_after b ++ w) left m
      → Appends (after_tests pre (str_append b i c w)) buffer b (Ok m) left
  unfolding str_append
  room_all e top count f v =
      appends_all (after_tests pre (str_append b i c w)) buffer b (pre_room e top count ∙ f)
      (stored_as (ap (λ (s : List ℕ). space_after b ++ s) (sym (told (open_all pre e)).0)) v)

-- in a buffer that holds the whole text, the tests alone decide
pub appends_full : (g : Append) {buffer : List ℕ} {n : ℕ} {left : List ℕ} {r : Result ℕ Refusal}
    → (AllHold g.tests → n + length (space_after n ++ g.slug) ≤ length buffer) → Appends g buffer n r left
    → AppendsBy (asked_all pass g.tests) buffer n g.slug r left
unfolding asked pick
appends_full g {buffer} {n} {left} {r} whole w = split (asked_all pass g.tests) refl w.answer w.bytes
  where
    split : (x : Check) → asked_all pass g.tests ≡ x → r ≡ appended_of (asked x (leb (n + length (space_after n ++ g.slug)) (length buffer)) refusal.TooLarge) (n + length (space_after n ++ g.slug))
        → left ≡ settled (asked x (leb (n + length (space_after n ++ g.slug)) (length buffer)) refusal.TooLarge) buffer (sets buffer n (space_after n ++ g.slug))
        → AppendsBy x buffer n g.slug r left
    split (Ok _) e answer bytes =
        let within = whole (open_all g.tests e) in
        let same : n + length (space_after n ++ g.slug) ≡ min (n + length (space_after n ++ g.slug)) (length buffer) = omega arith in
        let holds = le-leb (n + length (space_after n ++ g.slug)) (length buffer) within in
        record { answer = (rw holds at answer) ∙ ap Ok same; bytes = rw holds at bytes }
    split (Err first) e answer bytes = record { answer = answer; bytes = bytes }

-- a device: nothing where its size is 0, else its text as a slug
module _ (b i c size base irq : ℕ) (id : Option ℕ) (buffer : List ℕ) (n : ℕ) where
  pub device_stops : {r : Refusal} → asked pass (not (eqb size 0)) refusal.MmioSize ≡ Err r → Appends (device_append b i c size base irq id) buffer n (Err r) buffer
  unfolding device_append
  device_stops e =
      let g = device_append b i c size base irq id in
      appends_not g buffer n
      (gate_stops g buffer n (stops ((not (eqb size 0), refusal.MmioSize) ∷ []) (str_append b i c (device_text size base irq id)).tests e))

  pub device_appends : {s left : List ℕ} {r : Result ℕ Refusal} → asked pass (not (eqb size 0)) refusal.MmioSize ≡ pass → s ≡ device_text size base irq id
      → Appends (str_append b i c s) buffer n r left → Appends (device_append b i c size base irq id) buffer n r left
  unfolding device_append
  device_appends {s} {left} {r} some es w =
      let slug = str_append b i c (device_text size base irq id) in
      let v : Appends slug buffer n r left = subst (λ (x : List ℕ). Appends (str_append b i c x) buffer n r left) es w in
      let long = n + length (space_after n ++ slug.slug) in
      let same : append_gate slug buffer n ≡ append_gate (device_append b i c size base irq id) buffer n =
      ap (λ (x : Check). asked (asked_all x slug.tests) (leb long (length buffer)) refusal.TooLarge) (sym some) in
      record {
        answer = v.answer ∙ ap (λ (x : Check). appended_of x long) same;
        bytes = v.bytes ∙ ap (λ (x : Check). settled x buffer (sets buffer n (space_after n ++ slug.slug))) same;
      }

-- ---- the line whose buffer was lent

-- the line with another buffer, where its text has appended
abbrev pub boot_reply : Result ℕ Refusal → List ℕ → Cmdline → Reply
boot_reply (Ok n) boot l = record { answer = pass; line = clamped_line boot n l.init l.inits l.capacity }
boot_reply (Err r) boot l = record { answer = Err r; line = l }

abbrev pub init_reply : Result ℕ Refusal → List ℕ → Cmdline → Reply
init_reply (Ok n) init l = record { answer = pass; line = clamped_line l.boot l.boots init n l.capacity }
init_reply (Err r) init l = record { answer = Err r; line = l }

-- a refused insertion leaves the buffer
pub unchanged : {g : Append} {buffer left : List ℕ} {n : ℕ} {r : Refusal} → Appends g buffer n (Err r) left → left ≡ buffer
unchanged {g} {buffer} {left} {n} {r} w = w.bytes ∙ split (append_gate g buffer n) w.answer
  where
    split : (x : Check) → Err r ≡ appended_of x (n + length (space_after n ++ g.slug)) → settled x buffer (sets buffer n (space_after n ++ g.slug)) ≡ buffer
    split (Ok _) e = let z : ◌≡◌ {A = ℕ} 0 1 = cc in absurd (omega arith)
    split (Err s) e = refl

-- what a function says and leaves that changes the one buffer of a line
module _ (l : Cmdline) {reply : Reply} {d : List ℕ} where
  pub boot_refused : {r : Refusal} → d ≡ l.boot → boot_reply (Err r) d l ≡ reply → Replies reply (Err r) (record l { boot = d })
  boot_refused e f = (ap (λ (x : Reply). x.answer) f, rw e (ap (λ (x : Reply). x.line) f))

  pub boot_accepted : (n : ℕ) → boot_reply (Ok n) d l ≡ reply → Replies reply pass (clamped_line d n l.init l.inits l.capacity)
  boot_accepted n f = (ap (λ (x : Reply). x.answer) f, ap (λ (x : Reply). x.line) f)

  pub init_refused : {r : Refusal} → d ≡ l.init → init_reply (Err r) d l ≡ reply → Replies reply (Err r) (record l { init = d })
  init_refused e f = (ap (λ (x : Reply). x.answer) f, rw e (ap (λ (x : Reply). x.line) f))

  pub init_accepted : (n : ℕ) → init_reply (Ok n) d l ≡ reply → Replies reply pass (clamped_line l.boot l.boots d n l.capacity)
  init_accepted n f = (ap (λ (x : Reply). x.answer) f, ap (λ (x : Reply). x.line) f)

module _ (l : Cmdline) (lb : length l.boot ≡ limit) (li : length l.init ≡ limit) where
  boot_fits : (s : List ℕ) → boot_room (text_of l) (length s) ≡ true → min l.boots limit + length (space_after (min l.boots limit) ++ s) ≤ length l.boot
  boot_fits s room =
      let t : Text = text_of l in
      let n = min l.boots limit in
      let own = boot_long l lb li in
      let gap = ap boot_gap own in
      let fits = leb-true (counted t + boot_gap (length t.boot) + length s) t.capacity room in
      let size = size_boot (length t.boot) (length t.init) in
      let long = after_long n s in
      omega arith

  init_fits : (s : List ℕ) → init_room (text_of l) (length s) ≡ true → min l.inits limit + length (space_after (min l.inits limit) ++ s) ≤ length l.init
  init_fits s room =
      let t : Text = text_of l in
      let n = min l.inits limit in
      let own = init_long l lb li in
      let gap = ap boot_gap own in
      let fits = leb-true (counted t + init_gap (length t.init) + length s) t.capacity room in
      let size = init_asked (length t.boot) (length t.init) in
      let long = after_long n s in
      omega arith

  boot_replied : (ts : List Test) (s : List ℕ) {p : Result ℕ Refusal} {d : List ℕ} → (AllHold ts → boot_room (text_of l) (length s) ≡ true)
      → Appends (record { tests = ts; slug = s }) l.boot (min l.boots limit) p d
      → boot_reply p d l ≡ settled_reply (asked_all pass ts) l (holding l (with_boot (text_of l) (joined (text_of l).boot s)))
  boot_replied ts s {p} {d} room w =
      split (asked_all pass ts) refl (appends_full (record { tests = ts; slug = s }) (λ hold. boot_fits s (room hold)) w)
    where
      split : (g : Check) → asked_all pass ts ≡ g → AppendsBy g l.boot (min l.boots limit) s p d
          → boot_reply p d l ≡ settled_reply g l (holding l (with_boot (text_of l) (joined (text_of l).boot s)))
      split (Ok _) eg v =
          ap (λ (x : Result ℕ Refusal). boot_reply x d l) v.answer
          ∙ ap (λ (x : Cmdline). record { answer = pass; line = x })
          (boot_held l lb li s d (min l.boots limit) (min (min l.boots limit + length (space_after (min l.boots limit) ++ s)) (length l.boot)) refl
          (room (open_all ts eg)) (record { bytes = v.bytes; place = refl }))
      split (Err r) eg v = ap (λ (x : Result ℕ Refusal). boot_reply x d l) v.answer

  pub str_replied : (slug : List ℕ) {p : Result ℕ Refusal} {d : List ℕ}
      → Appends (str_append (min l.boots limit) (min l.inits limit) (min l.capacity limit) slug) l.boot (min l.boots limit) p d
      → boot_reply p d l ≡ reply_of l (insert_str (text_of l) slug)
  unfolding insert_str str_append
  str_replied slug {p} {d} w =
      boot_replied (insert_str (text_of l) slug).tests (trim slug) {p = p} {d = d} (λ hold. hold.1.0) (rw (boot_long l lb li, init_long l lb li) w)

  pub pair_replied : (key value : List ℕ) {p : Result ℕ Refusal} {d : List ℕ}
      → Appends (pair_append (min l.boots limit) (min l.inits limit) (min l.capacity limit) key value) l.boot (min l.boots limit) p d
      → boot_reply p d l ≡ reply_of l (insert (text_of l) key value)
  unfolding insert insert_str str_append pair_append
  pair_replied key value {p} {d} w =
      boot_replied (insert (text_of l) key value).tests (trim (pair key value)) {p = p} {d = d}
      (λ hold. (hold_right (key_tests key ++ value_tests value) (insert_str (text_of l) (pair key value)).tests hold).1.0)
      (rw (boot_long l lb li, init_long l lb li) w)

  pub list_replied : (key values ends : List ℕ) {p : Result ℕ Refusal} {d : List ℕ}
      → Appends (list_append (min l.boots limit) (min l.inits limit) (min l.capacity limit) key values ends) l.boot (min l.boots limit) p d
      → boot_reply p d l ≡ reply_of l (insert_multiple (text_of l) key values ends)
  unfolding insert_multiple insert_str str_append list_append
  list_replied key values ends {p} {d} w =
      boot_replied (insert_multiple (text_of l) key values ends).tests (trim (key ++ listed equals 0 ends values)) {p = p} {d = d}
      (λ hold. (hold_right (list_pre key values ends) (insert_str (text_of l) (key ++ listed equals 0 ends values)).tests hold).1.0)
      (rw (boot_long l lb li, init_long l lb li) w)

  pub device_replied : (size base irq : ℕ) (id : Option ℕ) {p : Result ℕ Refusal} {d : List ℕ}
      → Appends (device_append (min l.boots limit) (min l.inits limit) (min l.capacity limit) size base irq id) l.boot (min l.boots limit) p d
      → boot_reply p d l ≡ reply_of l (add_device (text_of l) size base irq id)
  unfolding add_device insert_str str_append device_append
  device_replied size base irq id {p} {d} w =
      boot_replied (add_device (text_of l) size base irq id).tests (trim (device_text size base irq id)) {p = p} {d = d} (λ hold. hold.1.1.0)
      (rw (boot_long l lb li, init_long l lb li) w)

  init_replied : (ts : List Test) (s : List ℕ) {p : Result ℕ Refusal} {d : List ℕ} → (AllHold ts → init_room (text_of l) (length s) ≡ true)
      → Appends (record { tests = ts; slug = s }) l.init (min l.inits limit) p d
      → init_reply p d l ≡ settled_reply (asked_all pass ts) l (holding l (with_init (text_of l) (joined (text_of l).init s)))
  init_replied ts s {p} {d} room w =
      split (asked_all pass ts) refl (appends_full (record { tests = ts; slug = s }) (λ hold. init_fits s (room hold)) w)
    where
      split : (g : Check) → asked_all pass ts ≡ g → AppendsBy g l.init (min l.inits limit) s p d
          → init_reply p d l ≡ settled_reply g l (holding l (with_init (text_of l) (joined (text_of l).init s)))
      split (Ok _) eg v =
          ap (λ (x : Result ℕ Refusal). init_reply x d l) v.answer
          ∙ ap (λ (x : Cmdline). record { answer = pass; line = x })
          (init_held l lb li s d (min l.inits limit) (min (min l.inits limit + length (space_after (min l.inits limit) ++ s)) (length l.init)) refl
          (room (open_all ts eg)) (record { bytes = v.bytes; place = refl }))
      split (Err r) eg v = ap (λ (x : Result ℕ Refusal). init_reply x d l) v.answer

  pub init_args_replied : (slug : List ℕ) {p : Result ℕ Refusal} {d : List ℕ}
      → Appends (init_append (min l.boots limit) (min l.inits limit) (min l.capacity limit) slug) l.init (min l.inits limit) p d
      → init_reply p d l ≡ reply_of l (insert_init_args (text_of l) slug)
  unfolding insert_init_args init_append
  init_args_replied slug {p} {d} w =
      init_replied (insert_init_args (text_of l) slug).tests (trim slug) {p = p} {d = d} (λ hold. hold.1.0) (rw (boot_long l lb li, init_long l lb li) w)
