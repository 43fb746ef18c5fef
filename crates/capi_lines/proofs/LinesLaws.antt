-- Laws of a line in bytes: what its tests say, and what the entry points come to by how the tests end.
use Rattle.std.specs.Prelude.{Ok, Err, Some, None, Option, Result, not}
use Rattle.std.specs.Bool.{then_some}
use Rattle.std.specs.Result.{result_and}
use mir.Val.{bool_byte}
use Prim.Native.Nat.{ℕ, ◌+◌, ◌-◌, ◌≤◌, min}
use mathlib.Core.Path.{◌≡◌, refl, sym, ap, ◌∙◌, subst, subst⁻¹}
use mathlib.Core.Bool.{Bool, true, false}
use mathlib.Core.List.{List, [], ◌∷◌, ◌++◌}
use native.Mathlib.Omega.{arith}
use native.Mathlib.Decide.{dec_le}
use lib.Dec.{leb, eqb}
use lib.ListN.{length, take, drop, replicate, length-drop, length-take, length-append, drop_of_length-le}
use lib.Seq.{sets, take_all, length-take-le}
use borrow.Author.Tests.{leb-true, le-leb, eqb-true, eq-eqb, ne_eqb}
use borrow.Rule.Slice.PartMut.{mid_of, put_mid}
use Rattle.answers.specs.Catalogue.{number_of}
use Rattle.answers.specs.Pick.{pick}
use Rattle.answers.specs.Tests.{Test, asked, asked_all, AllHold, Check, pass}
use Rattle.answers.specs.declared.Refusal.{Refusal}
use Rattle.answers.specs.declared.Refusal.TheVariants.{NoRoom, InvalidCapacity}
use Rattle.answers.proofs.TestsLaws.{open_all, first_held, first_failed, shut_stays, asked_append, hold_right}
use Rattle.fields.specs.Numbers.{le, le_bytes}
use Rattle.slugs.specs.Bytes.{equals}
use Rattle.slugs.specs.Trimming.{trim}
use Rattle.slugs.specs.Keys.{key_tests}
use Rattle.slugs.specs.Values.{value_tests, pair}
use Rattle.slugs.specs.Lists.{list_pre, listed}
use Rattle.slugs.specs.Joining.{space_after, joined}
use Rattle.slugs.specs.Splitting.{split_at, boot_part, init_part}
use Rattle.slugs.proofs.PartLaws.{part_sets, part_same, sets_own_from}
use Rattle.cmdline.specs.Limit.{limit, allowed}
use Rattle.cmdline.specs.Text.{Text, size_of, counted, boot_gap, init_gap, boot_room, init_room}
use Rattle.cmdline.specs.Insertion.{Plan, answer_of, call_number, settled, insert_str, insert_init_args, insert, insert_multiple}
use Rattle.cmdline.specs.Device.{add_device}
use Rattle.cmdline.specs.Making.{new, size_tests, try_from}
use Rattle.cmdline.specs.InPlace.{Append, str_append, pair_append, list_append, device_append, init_append, AppendsBy, Appends}
use Rattle.cmdline.specs.Writing as writing
use Rattle.cmdline.proofs.InPlaceLaws.{appends_full}
use Rattle.cmdline.proofs.TextLaws.{size_boot, size_init, init_asked, joined_long}
use Rattle.cmdline.proofs.MakingLaws.{allowed_most, allowed_least}
use Rattle.cmdline.proofs.WritingLaws.{writes_any}
use Rattle.guest.specs.Loading as loading
use Rattle.guest.specs.Room.{memory_of}
use Rattle.guest.specs.declared.Map.{Map}
use Rattle.guest.specs.declared.Memory.{Memory}
use Rattle.guest.specs.Stream.{pour}
use Rattle.loader.specs.Lines as lines
use Rattle.cmdline.specs.declared.sizes.Lengths.{Lengths}
use Rattle.capi.specs.Values.{Tells}
use Rattle.capi.proofs.StatesLaws.{and_ok, and_err}
use Rattle.capi_lines.specs.Lines

-- ---- a text in the bytes

-- a place and a length, clipped to the bytes
pub text_read : (place n : ℕ) (bytes : List ℕ) {from end : ℕ} {rest read : List ℕ} → from ≡ min place (length bytes)
    → rest ≡ mid_of from (length bytes - from) bytes → end ≡ min n (length rest) → read ≡ take end rest → read ≡ take n (drop place bytes)
text_read place n bytes {from} {end} {rest} {read} ef er en e =
    e ∙ clipped n rest en ∙ ap (take n) (er ∙ whole ∙ same (dec_le place (length bytes)))
  where
    clipped : (n : ℕ) (s : List ℕ) {k : ℕ} → k ≡ min n (length s) → take k s ≡ take n s
    clipped n s {k} ek = split (dec_le n (length s))
      where
        split : Dec (n ≤ length s) → take k s ≡ take n s
        split (yes h) = ap (λ (m : ℕ). take m s) (let is : k ≡ n = omega arith in is)
        split (no h) = take_all k s (omega arith) ∙ sym (take_all n s (omega arith))

    whole : mid_of from (length bytes - from) bytes ≡ drop from bytes
    whole = take_all (length bytes - from) (drop from bytes) (simp length-drop (omega arith))

    same : Dec (place ≤ length bytes) → drop from bytes ≡ drop place bytes
    same (yes h) = ap (λ (m : ℕ). drop m bytes) (let is : from ≡ place = omega arith in is)
    same (no h) = drop_of_length-le bytes {i = from} (omega arith) ∙ sym (drop_of_length-le bytes {i = place} (omega arith))

-- ---- what the tests of a line tell

pub record Sized (bytes : List ℕ) : Type 0 where
  pub size : length bytes ≡ Lines.line_size
  pub boots : le 8 bytes 0 + 1 ≤ limit
  pub inits : le 8 bytes 8 + 1 ≤ limit
  pub capacity : le 8 bytes 16 ≤ limit
  pub fits : size_of (le 8 bytes 0) (le 8 bytes 8) ≤ le 8 bytes 16

pub line_sized : (bytes : List ℕ) → Lines.IsLine bytes → Sized bytes
unfolding Lines.line_tests
line_sized bytes is =
    let most = allowed_most (le 8 bytes 16) is.1.0 in
    let fits = leb-true (size_of (le 8 bytes 0) (le 8 bytes 8)) (le 8 bytes 16) is.1.1.0 in
    let b = size_boot (le 8 bytes 0) (le 8 bytes 8) in
    let i = size_init (le 8 bytes 0) (le 8 bytes 8) in
    record { size = eqb-true (length bytes) Lines.line_size is.0; boots = omega arith; inits = omega arith; capacity = most; fits = fits }

-- each text of a line has its length
module _ (bytes : List ℕ) (s : Sized bytes) where
  pub boot_long : length (Lines.text_in bytes).boot ≡ le 8 bytes 0
  boot_long =
      let size = s.size in
      let boots = s.boots in
      length-take-le (le 8 bytes 0) (drop Lines.boot_place bytes) (simp length-drop (omega arith))

  pub init_long : length (Lines.text_in bytes).init ≡ le 8 bytes 8
  init_long =
      let size = s.size in
      let inits = s.inits in
      length-take-le (le 8 bytes 8) (drop Lines.init_place bytes) (simp length-drop (omega arith))

-- ---- an insertion, at the places of one text

module _ (number place : ℕ) (bytes : List ℕ) (n : ℕ) (within : n ≤ limit) (room : place + limit ≤ length bytes) where
  abbrev text : List ℕ
  text = take n (drop place bytes)

  text_long : length text ≡ n
  text_long = length-take-le n (drop place bytes) (simp length-drop (omega arith))

  part_long : length (mid_of place limit bytes) ≡ limit
  part_long = length-take-le limit (drop place bytes) (simp length-drop (omega arith))

  put_part : (s d : List ℕ) → length (joined text s) ≤ limit → d ≡ sets (mid_of place limit bytes) n (space_after n ++ s)
      → put_mid place limit bytes d ≡ sets bytes place (joined text s)
  put_part s d top e =
      let gap = ap (λ (k : ℕ). length (space_after k ++ s)) text_long in
      let whole = length-append text (space_after (length text) ++ s) in
      let long = text_long in
      let fits : n + length (space_after n ++ s) ≤ limit = omega arith in
      let there : n ≤ length (drop place bytes) = simp length-drop (omega arith) in
      ap (λ (l : List ℕ). put_mid place limit bytes l) e
      ∙ part_sets place limit n bytes (space_after n ++ s) fits
      ∙ sym (sets_own_from place n bytes (space_after n ++ s) there)
      ∙ ap (λ (k : ℕ). sets bytes place (text ++ (space_after k ++ s))) (sym text_long)

  appended_left : (g : Append) {said : Result ℕ Refusal} {d left : List ℕ} {r : ℕ} → (AllHold g.tests → length (joined text g.slug) ≤ limit)
      → Appends g (mid_of place limit bytes) n said d → Lines.StoresLength said number (put_mid place limit bytes d) r left
      → Lines.LineLeft (asked_all pass g.tests) bytes (Lines.with_text number place bytes (joined text g.slug)) r left
  appended_left g {said} {d} {left} {r} top w told = split (asked_all pass ts) refl (appends_full g whole w)
    where
      ts : List Test
      ts = g.tests

      s : List ℕ
      s = g.slug

      whole : AllHold ts → n + length (space_after n ++ s) ≤ length (mid_of place limit bytes)
      whole hold =
          let high = top hold in
          let gap = ap (λ (k : ℕ). length (space_after k ++ s)) text_long in
          let all = length-append text (space_after (length text) ++ s) in
          let own = text_long in
          let full = part_long in
          omega arith

      split : (g : Check) → asked_all pass ts ≡ g → AppendsBy g (mid_of place limit bytes) n s said d
          → Lines.LineLeft g bytes (Lines.with_text number place bytes (joined text s)) r left
      split (Ok _) e v =
          let high = top (open_all ts e) in
          let gap = ap (λ (k : ℕ). length (space_after k ++ s)) text_long in
          let whole = length-append text (space_after (length text) ++ s) in
          let own = text_long in
          let full = part_long in
          let end : min (n + length (space_after n ++ s)) (length (mid_of place limit bytes)) ≡ length (joined text s) = omega arith in
          let tells : Lines.StoresLength (Ok (length (joined text s))) number (put_mid place limit bytes d) r left =
          subst (λ (x : Result ℕ Refusal). Lines.StoresLength x number (put_mid place limit bytes d) r left) (v.answer ∙ ap Ok end) told in
          record {
            answer = tells.answer;
            line = tells.line ∙ ap (λ (l : List ℕ). sets l number (le_bytes 8 (length (joined text s)))) (put_part s d high v.bytes);
          }
      split (Err x) e v =
          let tells : Lines.StoresLength (Err x) number (put_mid place limit bytes d) r left =
          subst (λ (y : Result ℕ Refusal). Lines.StoresLength y number (put_mid place limit bytes d) r left) v.answer told in
          record {
            answer = tells.answer;
            line = tells.line ∙ ap (λ (l : List ℕ). put_mid place limit bytes l) v.bytes ∙ part_same place limit bytes;
          }

-- ---- the header, and calls on the line behind it

-- the size of the bytes is tested first
pub unsized : (bytes : List ℕ) (ts : List Test) {refusal : Refusal} → asked pass (eqb (length bytes) Lines.line_size) NoRoom ≡ Err refusal
    → asked_all pass (Lines.size_test bytes ∷ ts) ≡ Err refusal
unsized bytes ts {refusal} e = ap (λ (g : Check). asked_all g ts) e ∙ shut_stays ts refusal

pub sized : (bytes : List ℕ) (ts : List Test) → asked pass (eqb (length bytes) Lines.line_size) NoRoom ≡ pass
    → asked_all pass (Lines.size_test bytes ∷ ts) ≡ asked_all pass ts
sized bytes ts e = ap (λ (g : Check). asked_all g ts) e

-- what is read, by how the tests end
module _ (bytes : List ℕ) where
  abbrev sizes : List Test
  sizes = size_tests (le 8 bytes 0) (le 8 bytes 8) (le 8 bytes 16)

  pub header_unread : {refusal : Refusal} → asked_all pass (Lines.size_test bytes ∷ sizes) ≡ Err refusal → Err refusal ≡ Lines.header_of bytes
  unfolding Lines.header_of Lines.line_tests
  header_unread e = ap (λ (g : Check). result_and g (Ok (Lines.lengths_in bytes))) (sym e)

  pub header_read : asked_all pass (Lines.size_test bytes ∷ sizes) ≡ pass → Ok (Lines.lengths_in bytes) ≡ Lines.header_of bytes
  unfolding Lines.header_of Lines.line_tests
  header_read e = ap (λ (g : Check). result_and g (Ok (Lines.lengths_in bytes))) (sym e)

module _ (bytes : List ℕ) {read : Result Lengths Refusal} (reads : read ≡ Lines.header_of bytes) where
  header_shut : {refusal : Refusal} → read ≡ Err refusal → asked_all pass (Lines.line_tests bytes) ≡ Err refusal
  unfolding Lines.header_of
  header_shut e = and_err (asked_all pass (Lines.line_tests bytes)) (Lines.lengths_in bytes) reads e

  header_open : {header : Lengths} → read ≡ Ok header → (asked_all pass (Lines.line_tests bytes) ≡ pass) × (header ≡ Lines.lengths_in bytes)
  unfolding Lines.header_of
  header_open e = let both = and_ok (asked_all pass (Lines.line_tests bytes)) reads e in (both.0, sym both.1)

  pub call_refused : (part : Lines.Part) (plan : Plan) {refusal : Refusal} {r : ℕ} → read ≡ Err refusal → r ≡ number_of refusal
      → Lines.LineCalls part bytes plan r bytes
  call_refused part plan {refusal} {r} shut er =
      subst⁻¹ (λ (g : Check). Lines.LineLeft g bytes (Lines.with_part part bytes plan.text) r bytes)
      (asked_append pass (Lines.line_tests bytes) plan.tests
      ∙ ap (λ (g : Check). asked_all g plan.tests) (header_shut shut)
      ∙ shut_stays plan.tests refusal)
      (record { answer = er; line = refl })

  module _ {header : Lengths} (opened : read ≡ Ok header) where
    pub header_sized : Sized bytes
    header_sized = line_sized bytes (open_all (Lines.line_tests bytes) (header_open opened).0)

    boots_as : min header.boot_len limit ≡ length (Lines.text_in bytes).boot
    boots_as =
        let e : header.boot_len ≡ le 8 bytes 0 = ap (λ (h : Lengths). h.boot_len) (header_open opened).1 in
        let low = header_sized.boots in
        let long = boot_long bytes header_sized in
        omega arith

    inits_as : min header.init_len limit ≡ length (Lines.text_in bytes).init
    inits_as =
        let e : header.init_len ≡ le 8 bytes 8 = ap (λ (h : Lengths). h.init_len) (header_open opened).1 in
        let low = header_sized.inits in
        let long = init_long bytes header_sized in
        omega arith

    capacity_as : min header.capacity limit ≡ le 8 bytes 16
    capacity_as =
        let e : header.capacity ≡ le 8 bytes 16 = ap (λ (h : Lengths). h.capacity) (header_open opened).1 in
        let low = header_sized.capacity in
        omega arith

    -- the tests of the bytes held: those of the call decide
    behind_line : (ts : List Test) {new left : List ℕ} {r : ℕ} → Lines.LineLeft (asked_all pass ts) bytes new r left
        → Lines.LineLeft (asked_all pass (Lines.line_tests bytes ++ ts)) bytes new r left
    behind_line ts {new} {left} {r} w =
        subst⁻¹ (λ (g : Check). Lines.LineLeft g bytes new r left)
        (asked_append pass (Lines.line_tests bytes) ts ∙ ap (λ (g : Check). asked_all g ts) (header_open opened).0) w

    appended_boot : (g : Append) {said : Result ℕ Refusal} {d left : List ℕ} {r : ℕ} → (AllHold g.tests → boot_room (Lines.text_in bytes) (length g.slug) ≡ true)
        → Appends g (mid_of Lines.boot_place limit bytes) (length (Lines.text_in bytes).boot) said d
        → Lines.StoresLength said 0 (put_mid Lines.boot_place limit bytes d) r left
        → Lines.LineLeft (asked_all pass (Lines.line_tests bytes ++ g.tests)) bytes
        (Lines.with_text 0 Lines.boot_place bytes (joined (Lines.text_in bytes).boot g.slug)) r left
    appended_boot g {said} {d} {left} {r} room w told =
        let size = header_sized.size in
        let low = header_sized.boots in
        behind_line g.tests
        (appended_left 0 Lines.boot_place bytes (le 8 bytes 0) (omega arith) (omega arith) g top
        (subst (λ (k : ℕ). Appends g (mid_of Lines.boot_place limit bytes) k said d) (boot_long bytes header_sized) w) told)
      where
        top : AllHold g.tests → length (joined (Lines.text_in bytes).boot g.slug) ≤ limit
        top hold =
            let t : Text = Lines.text_in bytes in
            let fits : counted t + boot_gap (length t.boot) + length g.slug ≤ t.capacity =
            leb-true (counted t + boot_gap (length t.boot) + length g.slug) t.capacity (room hold) in
            let size : length t.boot + 1 ≤ counted t = size_boot (length t.boot) (length t.init) in
            let long : length (joined t.boot g.slug) ≡ length t.boot + boot_gap (length t.boot) + length g.slug = joined_long t.boot g.slug in
            let most = header_sized.capacity in
            omega arith

    appended_init : (g : Append) {said : Result ℕ Refusal} {d left : List ℕ} {r : ℕ} → (AllHold g.tests → init_room (Lines.text_in bytes) (length g.slug) ≡ true)
        → Appends g (mid_of Lines.init_place limit bytes) (length (Lines.text_in bytes).init) said d
        → Lines.StoresLength said 8 (put_mid Lines.init_place limit bytes d) r left
        → Lines.LineLeft (asked_all pass (Lines.line_tests bytes ++ g.tests)) bytes
        (Lines.with_text 8 Lines.init_place bytes (joined (Lines.text_in bytes).init g.slug)) r left
    appended_init g {said} {d} {left} {r} room w told =
        let size = header_sized.size in
        let low = header_sized.inits in
        behind_line g.tests
        (appended_left 8 Lines.init_place bytes (le 8 bytes 8) (omega arith) (omega arith) g top
        (subst (λ (k : ℕ). Appends g (mid_of Lines.init_place limit bytes) k said d) (init_long bytes header_sized) w) told)
      where
        top : AllHold g.tests → length (joined (Lines.text_in bytes).init g.slug) ≤ limit
        top hold =
            let t : Text = Lines.text_in bytes in
            let fits : counted t + init_gap (length t.init) + length g.slug ≤ t.capacity =
            leb-true (counted t + init_gap (length t.init) + length g.slug) t.capacity (room hold) in
            let size : length t.init + boot_gap (length t.init) ≤ counted t + init_gap (length t.init) = init_asked (length t.boot) (length t.init) in
            let long : length (joined t.init g.slug) ≡ length t.init + boot_gap (length t.init) + length g.slug = joined_long t.init g.slug in
            let most = header_sized.capacity in
            omega arith

    -- each call
    module _ {said : Result ℕ Refusal} {d left : List ℕ} {r : ℕ} where
      pub pair_called : (key value : List ℕ)
          → Appends (pair_append (min header.boot_len limit) (min header.init_len limit) (min header.capacity limit) key value)
          (mid_of Lines.boot_place limit bytes) (min header.boot_len limit) said d
          → Lines.StoresLength said 0 (put_mid Lines.boot_place limit bytes d) r left → Lines.LineCalls Lines.the_boot bytes (insert (Lines.text_in bytes) key value) r left
      unfolding insert insert_str str_append pair_append
      pair_called key value w told =
          appended_boot (pair_append (length (Lines.text_in bytes).boot) (length (Lines.text_in bytes).init) (le 8 bytes 16) key value)
          (λ hold. (hold_right (key_tests key ++ value_tests value) (insert_str (Lines.text_in bytes) (pair key value)).tests hold).1.0)
          (rw (boots_as, inits_as, capacity_as) at w) told

      pub list_called : (key values ends : List ℕ)
          → Appends (list_append (min header.boot_len limit) (min header.init_len limit) (min header.capacity limit) key values ends)
          (mid_of Lines.boot_place limit bytes) (min header.boot_len limit) said d
          → Lines.StoresLength said 0 (put_mid Lines.boot_place limit bytes d) r left
          → Lines.LineCalls Lines.the_boot bytes (insert_multiple (Lines.text_in bytes) key values ends) r left
      unfolding insert_multiple insert_str str_append list_append
      list_called key values ends w told =
          appended_boot (list_append (length (Lines.text_in bytes).boot) (length (Lines.text_in bytes).init) (le 8 bytes 16) key values ends)
          (λ hold. (hold_right (list_pre key values ends) (insert_str (Lines.text_in bytes) (key ++ listed equals 0 ends values)).tests hold).1.0)
          (rw (boots_as, inits_as, capacity_as) at w) told

      pub str_called : (slug : List ℕ)
          → Appends (str_append (min header.boot_len limit) (min header.init_len limit) (min header.capacity limit) slug)
          (mid_of Lines.boot_place limit bytes) (min header.boot_len limit) said d
          → Lines.StoresLength said 0 (put_mid Lines.boot_place limit bytes d) r left → Lines.LineCalls Lines.the_boot bytes (insert_str (Lines.text_in bytes) slug) r left
      unfolding insert_str str_append
      str_called slug w told = appended_boot (str_append (length (Lines.text_in bytes).boot) (length (Lines.text_in bytes).init) (le 8 bytes 16) slug) (λ hold. hold.1.0) (rw (boots_as, inits_as, capacity_as) at w) told

      pub device_called : (size base irq : ℕ) (id id' : Option ℕ) → id' ≡ id
          → Appends (device_append (min header.boot_len limit) (min header.init_len limit) (min header.capacity limit) size base irq id')
          (mid_of Lines.boot_place limit bytes) (min header.boot_len limit) said d
          → Lines.StoresLength said 0 (put_mid Lines.boot_place limit bytes d) r left
          → Lines.LineCalls Lines.the_boot bytes (add_device (Lines.text_in bytes) size base irq id) r left
      unfolding add_device insert_str str_append device_append
      device_called size base irq id id' e w told =
          appended_boot (device_append (length (Lines.text_in bytes).boot) (length (Lines.text_in bytes).init) (le 8 bytes 16) size base irq id) (λ hold. hold.1.1.0) (rw (boots_as, inits_as, capacity_as, e) at w) told

      pub init_called : (slug : List ℕ)
          → Appends (init_append (min header.boot_len limit) (min header.init_len limit) (min header.capacity limit) slug)
          (mid_of Lines.init_place limit bytes) (min header.init_len limit) said d
          → Lines.StoresLength said 8 (put_mid Lines.init_place limit bytes d) r left → Lines.LineCalls Lines.the_init bytes (insert_init_args (Lines.text_in bytes) slug) r left
      unfolding insert_init_args init_append
      init_called slug w told = appended_init (init_append (length (Lines.text_in bytes).boot) (length (Lines.text_in bytes).init) (le 8 bytes 16) slug) (λ hold. hold.1.0) (rw (boots_as, inits_as, capacity_as) at w) told

-- the ID of a device, if it has one
pub id_given : (flag id : ℕ) → then_some (not (eqb flag 0)) id ≡ Lines.id_by flag id
unfolding Lines.id_by pick
id_given flag id = by (eqb flag 0)
  where
    by : (b : Bool) → then_some (not b) id ≡ pick b None (Some id)
    by true = refl
    by false = refl

-- ---- a making

-- the zeros, the capacity and the two texts, one after the other
pub new_line_lem : (bytes boot init : List ℕ) (c : ℕ) {zeros d e left : List ℕ} → zeros ≡ replicate (length bytes) 0 → d ≡ sets zeros 16 (le_bytes 8 c)
    → e ≡ Lines.with_text 0 Lines.boot_place d boot → left ≡ Lines.with_text 8 Lines.init_place e init
    → left ≡ Lines.new_line (length bytes) (record { boot = boot; init = init; capacity = c })
new_line_lem bytes boot init c ez ed ee el =
    el
    ∙ ap (λ (x : List ℕ). Lines.with_text 8 Lines.init_place x init)
    (ee ∙ ap (λ (x : List ℕ). Lines.with_text 0 Lines.boot_place x boot) (ed ∙ ap (λ (x : List ℕ). sets x 16 (le_bytes 8 c)) ez))

-- a making whose tests end in one way or the other
pub make_refused : (bytes boot init : List ℕ) (c : ℕ) {refusal : Refusal} → Lines.make_gate bytes c boot init ≡ Err refusal
    → Lines.Makes bytes c boot init (Err refusal) bytes
make_refused bytes boot init c e =
    record {
      answer = sym e;
      line = ap (λ (g : Check). settled g bytes (Lines.new_line (length bytes) (record { boot = boot; init = init; capacity = c }))) (sym e);
    }

pub make_all : (bytes boot init : List ℕ) (c : ℕ) {left : List ℕ} → Lines.make_gate bytes c boot init ≡ pass
    → left ≡ Lines.new_line (length bytes) (record { boot = boot; init = init; capacity = c }) → Lines.Makes bytes c boot init pass left
make_all bytes boot init c e new =
    record {
      answer = sym e;
      line = new ∙ ap (λ (g : Check). settled g bytes (Lines.new_line (length bytes) (record { boot = boot; init = init; capacity = c }))) (sym e);
    }

-- over bytes whose size is tested
made_sized : (bytes : List ℕ) (t : Text) (ts : List Test) {g : Check} {r : ℕ} {said : Check} {left : List ℕ} → g ≡ asked_all pass (Lines.size_test bytes ∷ ts)
    → said ≡ g → left ≡ settled g bytes (Lines.new_line (length bytes) t) → r ≡ call_number said
    → Lines.LineLeft (asked_all pass (Lines.size_test bytes ∷ ts)) bytes (Lines.new_line Lines.line_size t) r left
made_sized bytes t ts {g} {r} {said} {left} eg es el er = split g refl el (er ∙ ap call_number es)
  where
    split : (x : Check) → g ≡ x → left ≡ settled x bytes (Lines.new_line (length bytes) t) → r ≡ call_number g
        → Lines.LineLeft (asked_all pass (Lines.size_test bytes ∷ ts)) bytes (Lines.new_line Lines.line_size t) r left
    split (Ok _) e v n =
        let gate : asked_all pass (Lines.size_test bytes ∷ ts) ≡ pass = sym eg ∙ e in
        let size : length bytes ≡ Lines.line_size = eqb-true (length bytes) Lines.line_size (open_all (Lines.size_test bytes ∷ ts) gate).0 in
        subst⁻¹ (λ (x : Check). Lines.LineLeft x bytes (Lines.new_line Lines.line_size t) r left) gate
        (record { answer = n ∙ ap call_number e; line = v ∙ ap (λ (n : ℕ). Lines.new_line n t) size })
    split (Err refusal) e v n =
        subst⁻¹ (λ (x : Check). Lines.LineLeft x bytes (Lines.new_line Lines.line_size t) r left) (sym eg ∙ e)
        (record { answer = n ∙ ap call_number e; line = v })

-- two empty texts fit every capacity that is allowed
empty_fits : (g : Check) (c : ℕ) → asked_all g (size_tests 0 0 c) ≡ asked g (allowed c) InvalidCapacity
unfolding asked pick size_of
empty_fits (Err r) c = refl
empty_fits (Ok _) c = by (allowed c) refl
  where
    by : (b : Bool) → allowed c ≡ b
        → asked (asked pass b InvalidCapacity) (leb (0 + 1 + pick (eqb 0 0) 0 (4 + 0)) c) InvalidCapacity ≡ asked pass b InvalidCapacity
    by true e = let least = allowed_least c e in rw (le-leb (0 + 1 + pick (eqb 0 0) 0 (4 + 0)) c (omega arith))
    by false e = refl

pub new_made : (bytes : List ℕ) (c : ℕ) {said : Check} {r : ℕ} {left : List ℕ} → Lines.Makes bytes c [] [] said left → r ≡ call_number said
    → Lines.LineMakes bytes (new c) r left
unfolding new
new_made bytes c w er = made_sized bytes (new c).text (new c).tests (empty_fits (asked pass (eqb (length bytes) Lines.line_size) NoRoom) c) w.answer w.line er

pub from_made : (bytes raw : List ℕ) (c at : ℕ) (before after rest : List ℕ) {said : Check} {r : ℕ} {left : List ℕ} → at ≡ split_at raw → before ≡ trim (take at raw)
    → after ≡ trim rest → rest ≡ drop 4 (drop at raw) → Lines.Makes bytes c before after said left → r ≡ call_number said → Lines.LineMakes bytes (try_from raw c) r left
unfolding try_from
from_made bytes raw c at before after rest {said} {r} {left} place first second later w er =
    let boot : before ≡ boot_part raw = rw (← place) first in
    let init : after ≡ init_part raw = rw (← place, ← later) second in
    let v : Lines.Makes bytes c (boot_part raw) (init_part raw) said left =
    subst (λ (x : List ℕ). Lines.Makes bytes c (boot_part raw) x said left) init (subst (λ (x : List ℕ). Lines.Makes bytes c x after said left) boot w) in
    made_sized bytes (try_from raw c).text (try_from raw c).tests refl v.answer v.line er

-- ---- writing

-- a text of no more than the limit is not clipped
clipped_text : (n : ℕ) (s : List ℕ) → n ≤ limit → take limit (take n s) ≡ take n s
clipped_text n s h = let long = length-take n s in take_all limit (take n s) (omega arith)

module _ (bytes out count : List ℕ) where
  abbrev front : List Test
  front = (eqb (length count) 1, NoRoom) ∷ Lines.line_tests bytes

  write_shut : {refusal : Refusal} {r : ℕ} → asked_all pass front ≡ Err refusal → r ≡ number_of refusal → Lines.LineWrites bytes out count r out count
  unfolding Lines.line_write_gate writing.written_count
  write_shut {refusal} {r} e er =
      let t = Lines.text_in bytes in
      let gate : Err refusal ≡ Lines.line_write_gate bytes count (length out) =
      sym
      (asked_append pass front (writing.write_tests t (length out))
      ∙ ap (λ (x : Check). asked_all x (writing.write_tests t (length out))) e
      ∙ shut_stays (writing.write_tests t (length out)) refusal) in
      record {
        answer = er ∙ ap (λ (x : Check). writing.written_number (writing.written_of x t)) gate;
        text = ap (λ (x : Check). sets out 0 (writing.written_bytes x t)) gate;
        told = ap (λ (x : Check). sets count 0 (writing.written_count (writing.written_of x t))) gate;
      }

  -- the list for the count has another size
  pub write_unsized : {r : ℕ} → (length count ≡ 1 → ⊥) → r ≡ number_of NoRoom → Lines.LineWrites bytes out count r out count
  write_unsized n er = write_shut (first_failed (eqb (length count) 1, NoRoom) (Lines.line_tests bytes) (ne_eqb (length count) 1 n)) er

module _ (bytes out count : List ℕ) (one : length count ≡ 1) {read : Result Lengths Refusal} (reads : read ≡ Lines.header_of bytes) where
  front_held : asked_all pass (front bytes out count) ≡ asked_all pass (Lines.line_tests bytes)
  front_held = first_held (eqb (length count) 1, NoRoom) (Lines.line_tests bytes) (eq-eqb (length count) 1 one)

  pub write_refused : {refusal : Refusal} {r : ℕ} → read ≡ Err refusal → r ≡ number_of refusal → Lines.LineWrites bytes out count r out count
  write_refused e er = write_shut bytes out count (front_held ∙ header_shut bytes reads e) er

  pub write_told : {header : Lengths} {w : Result ℕ Refusal} {r : ℕ} {boot init out-left count_left : List ℕ} → read ≡ Ok header → boot ≡ take header.boot_len (drop Lines.boot_place bytes)
      → init ≡ take header.init_len (drop Lines.init_place bytes) → writing.Writes (writing.bare boot init) out w out-left
      → Tells (writing.written_number w) (writing.written_count w) count r count_left → Lines.LineWrites bytes out count r out-left count_left
  unfolding Lines.line_write_gate
  write_told {header} {w} {r} {boot} {init} {out-left} e eb ei wrote tells =
      let t = Lines.text_in bytes in
      let gate : writing.write_gate t (length out) ≡ Lines.line_write_gate bytes count (length out) =
      sym
      (asked_append pass (front bytes out count) (writing.write_tests t (length out))
      ∙ ap (λ (x : Check). asked_all x (writing.write_tests t (length out))) (front_held ∙ (header_open bytes reads e).0)) in
      let same-boot : boot ≡ t.boot = eb ∙ ap (λ (h : Lengths). take h.boot_len (drop Lines.boot_place bytes)) (header_open bytes reads e).1 in
      let same-init : init ≡ t.init = ei ∙ ap (λ (h : Lengths). take h.init_len (drop Lines.init_place bytes)) (header_open bytes reads e).1 in
      let own : writing.Writes t out w out-left =
      writes_any t
      (subst (λ (x : List ℕ). writing.Writes (writing.bare t.boot x) out w out-left) same-init
      (subst (λ (x : List ℕ). writing.Writes (writing.bare x init) out w out-left) same-boot wrote)) in
      let is : w ≡ writing.written_of (Lines.line_write_gate bytes count (length out)) t = own.answer ∙ ap (λ (x : Check). writing.written_of x t) gate in
      record {
        answer = tells.answer ∙ ap writing.written_number is;
        text = own.bytes ∙ ap (λ (x : Check). sets out 0 (writing.written_bytes x t)) gate;
        told = tells.told ∙ ap (λ (x : Result ℕ Refusal). sets count 0 (writing.written_count x)) is;
      }

-- ---- comparing

module _ (a b out : List ℕ) where
  abbrev first : List Test
  first = (eqb (length out) 1, NoRoom) ∷ Lines.line_tests a

  equal_shut : {refusal : Refusal} {r : ℕ} → Lines.equal_gate a b out ≡ Err refusal → r ≡ number_of refusal → Lines.LinesCompare a b out r out
  equal_shut {refusal} e er =
      record {
        answer = er ∙ ap (λ (x : Check). call_number (answer_of x)) (sym e);
        told = ap (λ (x : Check). settled x out (sets out 0 (pick (writing.same_line (Lines.text_in a) (Lines.text_in b)) 1 0 ∷ []))) (sym e);
      }

  -- the tests before those of the second line
  first_shut_lem : {refusal : Refusal} → asked_all pass first ≡ Err refusal → Lines.equal_gate a b out ≡ Err refusal
  unfolding Lines.equal_gate
  first_shut_lem {refusal} e =
      asked_append pass first (Lines.line_tests b) ∙ ap (λ (x : Check). asked_all x (Lines.line_tests b)) e ∙ shut_stays (Lines.line_tests b) refusal

  -- the list for the answer has another size
  pub equal_unsized : {r : ℕ} → (length out ≡ 1 → ⊥) → r ≡ number_of NoRoom → Lines.LinesCompare a b out r out
  equal_unsized n er = equal_shut (first_shut_lem (first_failed (eqb (length out) 1, NoRoom) (Lines.line_tests a) (ne_eqb (length out) 1 n))) er

module _ (a b out : List ℕ) (sized : length out ≡ 1) {read : Result Lengths Refusal} (reads : read ≡ Lines.header_of a) where
  sized_held : asked_all pass (first a b out) ≡ asked_all pass (Lines.line_tests a)
  sized_held = first_held (eqb (length out) 1, NoRoom) (Lines.line_tests a) (eq-eqb (length out) 1 sized)

  pub equal_first : {refusal : Refusal} {r : ℕ} → read ≡ Err refusal → r ≡ number_of refusal → Lines.LinesCompare a b out r out
  equal_first e er = equal_shut a b out (first_shut_lem a b out (sized_held ∙ header_shut a reads e)) er

  module _ {one : Lengths} (opened : read ≡ Ok one) {later : Result Lengths Refusal} (reads_later : later ≡ Lines.header_of b) where
    equal_gate_lem : Lines.equal_gate a b out ≡ asked_all pass (Lines.line_tests b)
    unfolding Lines.equal_gate
    equal_gate_lem =
        asked_append pass (first a b out) (Lines.line_tests b)
        ∙ ap (λ (x : Check). asked_all x (Lines.line_tests b)) (sized_held ∙ (header_open a reads opened).0)

    pub equal_second : {refusal : Refusal} {r : ℕ} → later ≡ Err refusal → r ≡ number_of refusal → Lines.LinesCompare a b out r out
    equal_second e er = equal_shut a b out (equal_gate_lem ∙ header_shut b reads_later e) er

    pub equal_told : {two : Lengths} {same : Bool} {f : ℕ} {p q u v : List ℕ} → later ≡ Ok two → p ≡ take one.boot_len (drop Lines.boot_place a)
        → q ≡ take one.init_len (drop Lines.init_place a) → u ≡ take two.boot_len (drop Lines.boot_place b) → v ≡ take two.init_len (drop Lines.init_place b)
        → same ≡ writing.same_line (writing.bare (take limit p) (take limit q)) (writing.bare (take limit u) (take limit v)) → f ≡ pick same 1 0
        → Lines.LinesCompare a b out 0 (sets out 0 (f ∷ []))
    equal_told {two} {same} {f} {p} {q} {u} {v} e ep eq eu ev es ef =
        let ha = header_open a reads opened in
        let hb = header_open b reads_later e in
        let gate : pass ≡ Lines.equal_gate a b out = sym (equal_gate_lem ∙ hb.0) in
        let sa = line_sized a (open_all (Lines.line_tests a) ha.0) in
        let sb = line_sized b (open_all (Lines.line_tests b) hb.0) in
        let ab = sa.boots in
        let ai = sa.inits in
        let bb = sb.boots in
        let bi = sb.inits in
        let same-p : take limit p ≡ (Lines.text_in a).boot =
        ap (take limit) (ep ∙ ap (λ (h : Lengths). take h.boot_len (drop Lines.boot_place a)) ha.1) ∙ clipped_text (le 8 a 0) (drop Lines.boot_place a) (omega arith) in
        let same-q : take limit q ≡ (Lines.text_in a).init =
        ap (take limit) (eq ∙ ap (λ (h : Lengths). take h.init_len (drop Lines.init_place a)) ha.1) ∙ clipped_text (le 8 a 8) (drop Lines.init_place a) (omega arith) in
        let same-u : take limit u ≡ (Lines.text_in b).boot =
        ap (take limit) (eu ∙ ap (λ (h : Lengths). take h.boot_len (drop Lines.boot_place b)) hb.1) ∙ clipped_text (le 8 b 0) (drop Lines.boot_place b) (omega arith) in
        let same-v : take limit v ≡ (Lines.text_in b).init =
        ap (take limit) (ev ∙ ap (λ (h : Lengths). take h.init_len (drop Lines.init_place b)) hb.1) ∙ clipped_text (le 8 b 8) (drop Lines.init_place b) (omega arith) in
        let is : f ≡ pick (writing.same_line (Lines.text_in a) (Lines.text_in b)) 1 0 =
        ef ∙ ap (λ (x : Bool). pick x 1 0) (es ∙ rw (same-p, same-q, same-u, same-v)) in
        record {
          answer = ap (λ (x : Check). call_number (answer_of x)) gate;
          told =
              ap (λ (x : ℕ). sets out 0 (x ∷ [])) is
              ∙ ap (λ (x : Check). settled x out (sets out 0 (pick (writing.same_line (Lines.text_in a) (Lines.text_in b)) 1 0 ∷ []))) gate;
        }

-- 1 for what holds, else 0
pub flag : (b : Bool) → bool_byte b ≡ pick b 1 0
unfolding pick
flag true = refl
flag false = refl

-- ---- loading

same_number : (a : Check) → call_number a ≡ lines.line_number a
unfolding lines.line_number
same_number (Ok _) = refl
same_number (Err r) = refl

module _ (bytes : List ℕ) (m : Memory) (address : ℕ) {read : Result Lengths Refusal} (reads : read ≡ Lines.header_of bytes) where
  abbrev row : List Test
  row = lines.tests (Lines.text_in bytes) m address

  abbrev plan : loading.Plan Check
  plan = lines.line_plan (Lines.text_in bytes) address

  -- the plan of a line that its own tests refuse
  refused_plan_lem : {refusal : Refusal} → read ≡ Err refusal → Lines.load_plan bytes m address ≡ loading.refused_plan Err refusal
  unfolding loading.behind_tests
  refused_plan_lem {refusal} e =
      ap (λ (g : Check). loading.behind_gate Err g plan)
      (asked_append pass (Lines.line_tests bytes) row ∙ ap (λ (g : Check). asked_all g row) (header_shut bytes reads e) ∙ shut_stays row refusal)

  -- of one that they let through it is the plan of its texts
  texts_plan : {header : Lengths} {m' : Memory} {boot init : List ℕ} → read ≡ Ok header → boot ≡ take header.boot_len (drop Lines.boot_place bytes)
      → init ≡ take header.init_len (drop Lines.init_place bytes) → m' ≡ m → lines.plan_of (writing.bare boot init) m' address ≡ Lines.load_plan bytes m address
  unfolding loading.behind_tests
  texts_plan {header} {m'} {boot} {init} e eb ei em =
      let t = Lines.text_in bytes in
      let gate : asked_all pass row ≡ asked_all pass (Lines.line_tests bytes ++ row) =
      sym (asked_append pass (Lines.line_tests bytes) row ∙ ap (λ (g : Check). asked_all g row) (header_open bytes reads e).0) in
      let same-boot : boot ≡ t.boot = eb ∙ ap (λ (h : Lengths). take h.boot_len (drop Lines.boot_place bytes)) (header_open bytes reads e).1 in
      let same-init : init ≡ t.init = ei ∙ ap (λ (h : Lengths). take h.init_len (drop Lines.init_place bytes)) (header_open bytes reads e).1 in
      ap (λ (x : Memory). lines.plan_of (writing.bare boot init) x address) em
      ∙ ap (λ (x : List ℕ). lines.plan_of (writing.bare x init) m address) same-boot
      ∙ ap (λ (x : List ℕ). lines.plan_of (writing.bare t.boot x) m address) same-init
      ∙ ap (λ (g : Check). loading.behind_gate Err g plan) gate

  -- the number of what loading it answers
  pub plan_refused : {refusal : Refusal} {r : ℕ} → read ≡ Err refusal → r ≡ number_of refusal → r ≡ lines.line_number (Lines.load_plan bytes m address).answer
  unfolding lines.line_number
  plan_refused e er = er ∙ sym (ap (λ (p : loading.Plan Check). lines.line_number p.answer) (refused_plan_lem e))

  pub plan_told : {header : Lengths} {m' : Memory} {answer : Check} {r : ℕ} {boot init : List ℕ} → read ≡ Ok header
      → boot ≡ take header.boot_len (drop Lines.boot_place bytes) → init ≡ take header.init_len (drop Lines.init_place bytes) → m' ≡ m
      → answer ≡ (lines.plan_of (writing.bare boot init) m' address).answer → r ≡ call_number answer
      → r ≡ lines.line_number (Lines.load_plan bytes m address).answer
  plan_told e eb ei em ea er = er ∙ same_number _ ∙ ap lines.line_number (ea ∙ ap (λ (p : loading.Plan Check). p.answer) (texts_plan e eb ei em))

module _ (bytes : List ℕ) (address : ℕ) (map : Map) (guest : List ℕ) {read : Result Lengths Refusal} (reads : read ≡ Lines.header_of bytes) where
  pub load_refused : {refusal : Refusal} {r : ℕ} → read ≡ Err refusal → r ≡ number_of refusal → Lines.LineLoadsFrom bytes address map guest r guest
  unfolding pour
  load_refused e er =
      let m = memory_of guest map in
      record {
        answer = plan_refused bytes m address reads e er;
        memory = sym (ap (λ (p : loading.Plan Check). pour p.stream guest) (refused_plan_lem bytes m address reads e));
      }

  pub load_told : {header : Lengths} {m : Map} {answer : Check} {r : ℕ} {boot init after : List ℕ} → read ≡ Ok header → boot ≡ take header.boot_len (drop Lines.boot_place bytes)
      → init ≡ take header.init_len (drop Lines.init_place bytes) → m ≡ map
      → lines.LineLoads (writing.bare boot init) address m guest answer after
      → r ≡ call_number answer → Lines.LineLoadsFrom bytes address map guest r after
  load_told e eb ei em loads er =
      let same = ap (memory_of guest) em in
      record {
        answer = plan_told bytes (memory_of guest map) address reads e eb ei same loads.answer er;
        memory = loads.memory ∙ ap (λ (p : loading.Plan Check). pour p.stream guest) (texts_plan bytes (memory_of guest map) address reads e eb ei same);
      }
