-- Laws of the struct that holds a line: what a call that is worked out by its numbers and buffers answers.
use Prim.Native.Nat.{ℕ, ◌+◌, ◌≤◌, min}
use mathlib.Core.Path.{◌≡◌, sym, ap, ◌∙◌}
use mathlib.Core.Bool.{true}
use mathlib.Core.List.{List, ◌++◌}
use native.Mathlib.Omega.{arith}
use lib.ListN.{length, length-append, take}
use lib.Seq.{sets, length-take-le}
use borrow.Author.Tests.{leb-true}
use Rattle.cmdline.specs.declared.Cmdline.{Cmdline}
use Rattle.cmdline.specs.Limit.{limit}
use Rattle.cmdline.specs.Text.{Text, counted, boot_gap, init_gap, boot_room, init_room}
use Rattle.cmdline.specs.Insertion.{with_boot, with_init}
use Rattle.slugs.specs.Stored.{Stored}
use Rattle.cmdline.specs.Held.{text_of, holding, clamped_line}
use Rattle.slugs.proofs.ListLaws.{sets_own, sets_same}
use Rattle.cmdline.proofs.TextLaws.{size_boot, init_asked, joined_long}
use Rattle.slugs.specs.Joining.{space_after, joined}

-- a buffer with s put after its text, where both have room: it holds the joined text, and the place after it is the text's length
put_held : (buffer s d : List ℕ) (own n r : ℕ) → length buffer ≡ limit → n ≡ min own limit → length (joined (take (min own limit) buffer) s) ≤ limit
    → Stored buffer n (space_after n ++ s) d r
    → (sets buffer 0 (joined (take (min own limit) buffer) s) ≡ d) × (min r limit ≡ length (joined (take (min own limit) buffer) s))
put_held buffer s d own n r full en top w =
    let text = take (min own limit) buffer in
    let long : length text ≡ min own limit = length-take-le (min own limit) buffer (omega arith) in
    let e : n ≡ length text = en ∙ sym long in
    let bytes : d ≡ sets buffer (min own limit) (space_after (length text) ++ s) =
    w.bytes ∙ ap (λ (k : ℕ). sets buffer n (space_after k ++ s)) e ∙ ap (λ (k : ℕ). sets buffer k (space_after (length text) ++ s)) en in
    let gap = ap (λ (k : ℕ). length (space_after k ++ s)) e in
    let whole = length-append text (space_after (length text) ++ s) in
    let place = w.place in
    let count : r ≡ length (joined text s) = omega arith in
    (sets_own buffer (space_after (length text) ++ s) (min own limit) (omega arith) ∙ sym bytes, omega arith)

module _ (l : Cmdline) (lb : length l.boot ≡ limit) (li : length l.init ≡ limit) where
  pub boot_long : length (text_of l).boot ≡ min l.boots limit
  boot_long = length-take-le (min l.boots limit) l.boot (omega arith)

  pub init_long : length (text_of l).init ≡ min l.inits limit
  init_long = length-take-le (min l.inits limit) l.init (omega arith)

  -- the line with s put after its boot text, where there is room
  pub boot_held : (s d : List ℕ) (n r : ℕ) → n ≡ min l.boots limit → boot_room (text_of l) (length s) ≡ true → Stored l.boot n (space_after n ++ s) d r
      → clamped_line d r l.init l.inits l.capacity ≡ holding l (with_boot (text_of l) (joined (text_of l).boot s))
  boot_held s d n r en room w =
      let t : Text = text_of l in
      let fits : counted t + boot_gap (length t.boot) + length s ≤ t.capacity = leb-true (counted t + boot_gap (length t.boot) + length s) t.capacity room in
      let size : length t.boot + 1 ≤ counted t = size_boot (length t.boot) (length t.init) in
      let long : length (joined t.boot s) ≡ length t.boot + boot_gap (length t.boot) + length s = joined_long t.boot s in
      let put = put_held l.boot s d l.boots n r lb en (omega arith) w in
      rw (put.0, sets_same l.init (min l.inits limit) (omega arith), init_long, put.1)

  -- and with s put after its init text
  pub init_held : (s d : List ℕ) (n r : ℕ) → n ≡ min l.inits limit → init_room (text_of l) (length s) ≡ true → Stored l.init n (space_after n ++ s) d r
      → clamped_line l.boot l.boots d r l.capacity ≡ holding l (with_init (text_of l) (joined (text_of l).init s))
  init_held s d n r en room w =
      let t : Text = text_of l in
      let fits : counted t + init_gap (length t.init) + length s ≤ t.capacity = leb-true (counted t + init_gap (length t.init) + length s) t.capacity room in
      let size : length t.init + boot_gap (length t.init) ≤ counted t + init_gap (length t.init) = init_asked (length t.boot) (length t.init) in
      let long : length (joined t.init s) ≡ length t.init + boot_gap (length t.init) + length s = joined_long t.init s in
      let put = put_held l.init s d l.inits n r li en (omega arith) w in
      rw (put.0, sets_same l.boot (min l.boots limit) (omega arith), boot_long, put.1)
