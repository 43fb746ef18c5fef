-- Laws of bytes that hold texts: another text put at its place leaves the numbers and the text beside it.
use Prim.Native.Nat.{ℕ, zero, suc, ◌+◌, ◌-◌, ◌≤◌}
use mathlib.Core.Path.{◌≡◌, refl, sym, ap, ◌∙◌}
use mathlib.Core.List.{List, [], ◌∷◌, ◌++◌}
use native.Mathlib.Omega.{arith}
use lib.ListN.{length, set, take, drop, replicate, length-drop, length-replicate}
use lib.Seq.{sets, sets-eq, length-sets, take-set-le, drop-set-add, drop-set-lt, drop_at, take_at, length-take-le}
use borrow.Author.Tests.{eq-eqb, le-leb}
use Rattle.fields.specs.Numbers.{le, le_bytes}
use Rattle.fields.proofs.CopyingLaws.{sets_below, sets_above}
use Rattle.fields.proofs.NumbersLaws.{length_le_bytes, le_written}
use Rattle.slugs.proofs.PartLaws.{sets_from}
use Rattle.cmdline.specs.Limit.{limit}
use Rattle.cmdline.specs.Text.{Text, size_of, empty}
use Rattle.cmdline.specs.Fitting.{Fits, Short}
use Rattle.cmdline.specs.Insertion.{with_boot, with_init}
use Rattle.cmdline.proofs.TextLaws.{size_boot}
use Rattle.cmdline.proofs.MakingLaws.{most_allowed}
use Rattle.cmdline.proofs.ZeroLaws.{zeros}
use Rattle.capi_lines.specs.Lines
use Rattle.capi_lines.proofs.LinesLaws.{line_sized, boot_long, init_long}

-- ---- a run of stores, seen from elsewhere

pub le_above : (n : ℕ) (vs l : List ℕ) (i p : ℕ) → i + length vs ≤ p → le n (sets l i vs) p ≡ le n l p
unfolding le
le_above zero vs l i p h = refl
le_above (suc n) vs l i p h = rw (sets_above vs l i p h, le_above n vs l i (suc p) (omega arith))

pub le_below : (n : ℕ) (vs l : List ℕ) (i p : ℕ) → p + n ≤ i → le n (sets l i vs) p ≡ le n l p
unfolding le
le_below zero vs l i p h = refl
le_below (suc n) vs l i p h = rw (sets_below vs l i p (omega arith), le_below n vs l i (suc p) (omega arith))

drop_above : (vs l : List ℕ) (i k : ℕ) → i + length vs ≤ k → drop k (sets l i vs) ≡ drop k l
drop_above [] l i k h = refl
drop_above (v ∷ vs) l i k h = drop_above vs (set l i v) (suc i) k (omega arith) ∙ drop-set-lt k l i v (omega arith)

take_below : (vs l : List ℕ) (i k n : ℕ) → k + n ≤ i → take n (drop k (sets l i vs)) ≡ take n (drop k l)
take_below [] l i k n h = refl
take_below (v ∷ vs) l i k n h = take_below vs (set l i v) (suc i) k n (omega arith) ∙ one
  where
    one : take n (drop k (set l i v)) ≡ take n (drop k l)
    one =
        let place : i ≡ k + (i - k) = omega arith in
        ap (λ (m : ℕ). take n (drop k (set l m v))) place ∙ ap (take n) (drop-set-add k l (i - k) v) ∙ take-set-le n (drop k l) (i - k) v (omega arith)

-- what is put stands there
put_there : (vs l : List ℕ) (k : ℕ) → k + length vs ≤ length l → take (length vs) (drop k (sets l k vs)) ≡ vs
put_there vs l k h =
    let room : length vs ≤ length (drop k l) = simp length-drop (omega arith) in
    let none : k + 0 ≡ k = omega arith in
    let from : sets l k vs ≡ take k l ++ sets (drop k l) 0 vs = ap (λ (m : ℕ). sets l m vs) (sym none) ∙ sym (sets_from vs l k 0) in
    ap (λ (x : List ℕ). take (length vs) (drop k x)) from
    ∙ ap (take (length vs)) (drop_at (take k l) (sets (drop k l) 0 vs) k (length-take-le k l (omega arith)))
    ∙ ap (take (length vs)) (sets-eq vs (drop k l) 0 (omega arith))
    ∙ take_at vs (drop (0 + length vs) (drop k l)) (length vs) refl

-- ---- bytes that hold texts

-- a line's bytes hold the texts that they tell
pub line_holds : (bytes : List ℕ) → Lines.IsLine bytes → Lines.Holds bytes (Lines.text_in bytes)
line_holds bytes is =
    let s = line_sized bytes is in
    record {
      size = s.size;
      boots = sym (boot_long bytes s);
      inits = sym (init_long bytes s);
      capacity = refl;
      boot = ap (λ (n : ℕ). take n (drop Lines.boot_place bytes)) (boot_long bytes s);
      init = ap (λ (n : ℕ). take n (drop Lines.init_place bytes)) (init_long bytes s);
    }

module _ (bytes : List ℕ) (t : Text) (h : Lines.Holds bytes t) where
  -- and no other
  pub holds_text : Lines.text_in bytes ≡ t
  holds_text = rw (h.boots, h.inits, h.capacity, h.boot, h.init)

  -- bytes that hold texts which fit are a line
  pub holds_line : Fits t → t.capacity ≤ limit → Lines.IsLine bytes
  unfolding Lines.line_tests
  holds_line fits most =
      let least = size_boot (length t.boot) (length t.init) in (
        eq-eqb (length bytes) Lines.line_size h.size,
        (
          most_allowed (le 8 bytes 16) (rw h.capacity (omega arith)) (rw h.capacity most),
          (le-leb (size_of (le 8 bytes 0) (le 8 bytes 8)) (le 8 bytes 16) (rw (h.boots, h.inits, h.capacity) fits), tt),
        ),
      )

  -- another boot text
  pub put_boot : (s : List ℕ) → length s ≤ limit → Lines.Holds (Lines.with_text 0 Lines.boot_place bytes s) (with_boot t s)
  put_boot s short =
      let size = h.size in
      let inner = sets bytes Lines.boot_place s in
      let long : length (sets bytes Lines.boot_place s) ≡ Lines.line_size = length-sets bytes Lines.boot_place s ∙ size in
      let eight = length_le_bytes 8 (length s) in
      record {
        size = length-sets (sets bytes Lines.boot_place s) 0 (le_bytes 8 (length s)) ∙ long;
        boots = le_written 8 (length s) (sets bytes Lines.boot_place s) 0 (omega arith) (omega arith);
        inits =
            le_above 8 (le_bytes 8 (length s)) (sets bytes Lines.boot_place s) 0 8 (omega arith) ∙ le_below 8 s bytes Lines.boot_place 8 (omega arith) ∙ h.inits;
        capacity =
            le_above 8 (le_bytes 8 (length s)) (sets bytes Lines.boot_place s) 0 16 (omega arith) ∙ le_below 8 s bytes Lines.boot_place 16 (omega arith) ∙ h.capacity;
        boot =
            ap (take (length s)) (drop_above (le_bytes 8 (length s)) (sets bytes Lines.boot_place s) 0 Lines.boot_place (omega arith))
            ∙ put_there s bytes Lines.boot_place (omega arith);
        init =
            ap (take (length t.init))
            (drop_above (le_bytes 8 (length s)) (sets bytes Lines.boot_place s) 0 Lines.init_place (omega arith)
            ∙ drop_above s bytes Lines.boot_place Lines.init_place (omega arith))
            ∙ h.init;
      }

  -- another init text, beside a boot text within its buffer
  pub put_init : (s : List ℕ) → length t.boot ≤ limit → length s ≤ limit → Lines.Holds (Lines.with_text 8 Lines.init_place bytes s) (with_init t s)
  put_init s own short =
      let size = h.size in
      let long : length (sets bytes Lines.init_place s) ≡ Lines.line_size = length-sets bytes Lines.init_place s ∙ size in
      let eight = length_le_bytes 8 (length s) in
      record {
        size = length-sets (sets bytes Lines.init_place s) 8 (le_bytes 8 (length s)) ∙ long;
        boots =
            le_below 8 (le_bytes 8 (length s)) (sets bytes Lines.init_place s) 8 0 (omega arith) ∙ le_below 8 s bytes Lines.init_place 0 (omega arith) ∙ h.boots;
        inits = le_written 8 (length s) (sets bytes Lines.init_place s) 8 (omega arith) (omega arith);
        capacity =
            le_above 8 (le_bytes 8 (length s)) (sets bytes Lines.init_place s) 8 16 (omega arith) ∙ le_below 8 s bytes Lines.init_place 16 (omega arith) ∙ h.capacity;
        boot =
            ap (take (length t.boot)) (drop_above (le_bytes 8 (length s)) (sets bytes Lines.init_place s) 8 Lines.boot_place (omega arith))
            ∙ take_below s bytes Lines.init_place Lines.boot_place (length t.boot) (omega arith)
            ∙ h.boot;
        init =
            ap (take (length s)) (drop_above (le_bytes 8 (length s)) (sets bytes Lines.init_place s) 8 Lines.init_place (omega arith))
            ∙ put_there s bytes Lines.init_place (omega arith);
      }

-- ---- a new line

zeros_le : (n m p : ℕ) → le n (replicate {A = ℕ} m 0) p ≡ 0
unfolding le
zeros_le zero m p = refl
zeros_le (suc n) m p = rw (zeros m p, zeros_le n m (suc p))

pub blank_holds : (c : ℕ) → c ≤ limit → Lines.Holds (sets (replicate Lines.line_size 0) 16 (le_bytes 8 c)) (empty c)
blank_holds c most =
    let long = length-replicate {A = ℕ} Lines.line_size 0 in
    record {
      size = length-sets (replicate Lines.line_size 0) 16 (le_bytes 8 c) ∙ long;
      boots = le_below 8 (le_bytes 8 c) (replicate Lines.line_size 0) 16 0 (omega arith) ∙ zeros_le 8 Lines.line_size 0;
      inits = le_below 8 (le_bytes 8 c) (replicate Lines.line_size 0) 16 8 (omega arith) ∙ zeros_le 8 Lines.line_size 8;
      capacity = le_written 8 c (replicate Lines.line_size 0) 16 (omega arith) (omega arith);
      boot = refl;
      init = refl;
    }

pub new_holds : (t : Text) → Short t → Lines.Holds (Lines.new_line Lines.line_size t) t
new_holds t short =
    put_init _ _ (put_boot _ _ (blank_holds t.capacity short.capacity) t.boot short.boot) t.init short.boot short.init
