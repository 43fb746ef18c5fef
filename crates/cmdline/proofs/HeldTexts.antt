-- What the definitions say of texts holds of the structs that the functions hand back: the texts of the line in a reply are those of the
-- plan where it is accepted, and the line's own where it is refused; so they fit the limit, and the theorems on sequences of calls speak of
-- the functions. A line whose calls are worked out over its struct is a line whose calls are worked out over its texts.
use Rattle.std.specs.Prelude.{Ok, Err}
use Prim.Native.Nat.{ℕ, ◌+◌, ◌≤◌, min}
use mathlib.Core.Path.{◌≡◌, refl, ap, ◌∙◌, subst⁻¹}
use mathlib.Core.List.{List}
use native.Mathlib.Omega.{arith}
use lib.ListN.{length, take, drop, length-replicate}
use lib.Seq.{sets, sets-eq, length-sets, take-append_seam}
use Rattle.answers.specs.Tests.{AllHold, Check, pass}
use Rattle.answers.proofs.TestsLaws.{open_all}
use Rattle.cmdline.specs.Fitting.{Fits, Short}
use Rattle.cmdline.specs.declared.Cmdline.{Cmdline}
use Rattle.cmdline.specs.Limit.{limit}
use Rattle.cmdline.specs.Text.{Text, empty}
use Rattle.cmdline.specs.Insertion.{Plan, plan_gate, answer_of, settled, insert}
use Rattle.cmdline.specs.Held.{text_of, holding, blank_line, reply_of, made_of}
use Rattle.cmdline.specs.ZeroPast.{Buffers}
use Rattle.cmdline.specs.Growing.{Extends, Inserted}
use Rattle.cmdline.proofs.TextLaws.{size_boot, size_init}
use Rattle.cmdline.proofs.CountedSize.{insert_fits, settled_fits, made_fits}
use Rattle.cmdline.proofs.NothingLost.{insert_extends}
use Rattle.cmdline.proofs.InsertedPair.{inserted_pair}

-- texts that fit a capacity within the limit fit the buffers
pub fits_short : (t : Text) → Fits t → t.capacity ≤ limit → Short t
fits_short t f c =
    let b = size_boot (length t.boot) (length t.init) in
    let i = size_init (length t.boot) (length t.init) in
    record { boot = omega arith; init = omega arith; capacity = c }

-- the buffers are as long as they were
pub buffers_held : (l : Cmdline) (t : Text) → Buffers l → Buffers (holding l t)
buffers_held l t b = record { boot = length-sets l.boot 0 t.boot ∙ b.boot; init = length-sets l.init 0 t.init ∙ b.init }

-- a text stored at the start of a buffer that it fits is what its first bytes are
stored_first : (d s : List ℕ) → length s ≤ length d → take (length s) (sets d 0 s) ≡ s
stored_first d s h = rw (sets-eq s d 0 (omega arith)) (take-append_seam s (drop (0 + length s) d))

-- the line that is made to hold texts holds them
pub holds_texts : (l : Cmdline) (t : Text) → Buffers l → Short t → text_of (holding l t) ≡ t
holds_texts l t b s =
    let lb = b.boot in
    let li = b.init in
    let sb = s.boot in
    let si = s.init in
    let sc = s.capacity in
    let mb : min (length t.boot) limit ≡ length t.boot = omega arith in
    let mi : min (length t.init) limit ≡ length t.init = omega arith in
    let mc : min t.capacity limit ≡ t.capacity = omega arith in
    rw (mb, mi, mc, stored_first l.boot t.boot (omega arith), stored_first l.init t.init (omega arith))

-- the texts of the line in a reply
pub reply_texts : (l : Cmdline) (p : Plan) → Buffers l → (AllHold p.tests → Fits p.text) → Extends (text_of l) p.text
    → text_of (reply_of l p).line ≡ settled (plan_gate p) (text_of l) p.text
reply_texts l p b told e = split (plan_gate p) refl
  where
    split : (g : Check) → plan_gate p ≡ g → text_of (settled g l (holding l p.text)) ≡ settled g (text_of l) p.text
    split (Ok _) o =
        let cap = e.capacity in
        holds_texts l p.text b (fits_short p.text (told (open_all p.tests o)) (omega arith))
    split (Err r) o = refl

pub blank_buffers : (c : ℕ) → Buffers (blank_line c)
blank_buffers c = record { boot = length-replicate {A = ℕ} limit 0; init = length-replicate {A = ℕ} limit 0 }

-- and of a line that is made
pub made_texts : (p : Plan) → (AllHold p.tests → Fits p.text) → (AllHold p.tests → p.text.capacity ≤ limit)
    → text_of (made_of p).line ≡ settled (plan_gate p) (empty 0) p.text
made_texts p told cap = split (plan_gate p) refl
  where
    split : (g : Check) → plan_gate p ≡ g → text_of (settled g (blank_line 0) (holding (blank_line 0) p.text)) ≡ settled g (empty 0) p.text
    split (Ok _) o =
        let hold = open_all p.tests o in
        holds_texts (blank_line 0) p.text (blank_buffers 0) (fits_short p.text (told hold) (cap hold))
    split (Err r) o = refl

-- the texts of an accepted call fit the buffers
pub accepted_short : (l : Cmdline) (p : Plan) → (AllHold p.tests → Fits p.text) → Extends (text_of l) p.text → plan_gate p ≡ pass → Short p.text
accepted_short l p told e o = let cap = e.capacity in fits_short p.text (told (open_all p.tests o)) (omega arith)

-- so the counted size of a line in a reply is within its capacity where that of the line before was, and where the call is accepted
pub reply_fits : (l : Cmdline) (p : Plan) → Buffers l → (AllHold p.tests → Fits p.text) → Extends (text_of l) p.text → Fits (text_of l)
    → Fits (text_of (reply_of l p).line)
reply_fits l p b told e f = subst⁻¹ Fits (reply_texts l p b told e) (settled_fits (text_of l) p told f)

pub accepted_fits : (l : Cmdline) (p : Plan) → Buffers l → (AllHold p.tests → Fits p.text) → Extends (text_of l) p.text
    → (reply_of l p).answer ≡ pass → Fits (text_of (reply_of l p).line)
accepted_fits l p b told e a = subst⁻¹ Fits (reply_texts l p b told e) (made_fits p (text_of l) told a)

pub made_line_fits : (p : Plan) → (AllHold p.tests → Fits p.text) → (AllHold p.tests → p.text.capacity ≤ limit)
    → (made_of p).answer ≡ pass → Fits (text_of (made_of p).line)
made_line_fits p told cap a = subst⁻¹ Fits (made_texts p told cap) (made_fits p (empty 0) told a)

-- an accepted insert, of the struct
pub inserted_line : (l : Cmdline) (key value : List ℕ) → Buffers l → (reply_of l (insert (text_of l) key value)).answer ≡ pass
    → Inserted (text_of l) (text_of (reply_of l (insert (text_of l) key value)).line) key value
inserted_line l key value b e =
    let t = text_of l in
    let p = insert t key value in
    let open-gate = accepted_open (plan_gate p) e in
    subst⁻¹ (λ (u : Text). Inserted t u key value)
    (reply_texts l p b (insert_fits t key value) (insert_extends t key value) ∙ ap (λ (g : Check). settled g t p.text) open-gate)
    (inserted_pair t key value open-gate)
  where
    accepted_open : (g : Check) → answer_of g ≡ pass → g ≡ pass
    accepted_open (Ok _) a = refl
    accepted_open (Err r) a = let z : ◌≡◌ {A = ℕ} 0 1 = cc in absurd (omega arith)
