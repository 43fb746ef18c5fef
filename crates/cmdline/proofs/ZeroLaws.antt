-- Laws of zeros past the texts: a longer text leaves them.
use Rattle.std.specs.Prelude.{Ok, Err}
use Prim.Native.Nat.{ℕ, suc, ◌+◌, ◌≤◌}
use mathlib.Core.Path.{◌≡◌, refl, ◌∙◌}
use mathlib.Core.List.{List, [], ◌∷◌}
use native.Mathlib.Omega.{arith}
use native.Mathlib.Decide.{dec_le}
use lib.ListN.{length, set, get_or, replicate, get_or-replicate, length-replicate, get_or-eq_default}
use lib.Seq.{sets, get_or-set_other}
use Rattle.answers.specs.Tests.{AllHold, Check}
use Rattle.answers.proofs.TestsLaws.{open_all}
use Rattle.cmdline.specs.Fitting.{Fits, Short}
use Rattle.cmdline.specs.declared.Cmdline.{Cmdline}
use Rattle.cmdline.specs.Limit.{limit}
use Rattle.cmdline.specs.Text.{Text}
use Rattle.cmdline.specs.Insertion.{Plan, plan_gate, settled}
use Rattle.cmdline.specs.Held.{text_of, holding, blank_line, reply_of, made_of}
use Rattle.cmdline.specs.ZeroPast.{Buffers, ZeroPast}
use Rattle.cmdline.specs.Growing.{Extends}
use Rattle.cmdline.proofs.HeldLaws.{boot_long, init_long}
use Rattle.cmdline.proofs.NothingLost.{begins_long}
use Rattle.cmdline.proofs.HeldTexts.{fits_short, buffers_held, blank_buffers}

-- what is stored leaves the bytes past it
pub past_stored : (s d : List ℕ) (at i : ℕ) → at + length s ≤ i → get_or (sets d at s) i 0 ≡ get_or d i 0
past_stored [] d at i h = refl
past_stored (x ∷ xs) d at i h =
    past_stored xs (set d at x) (suc at) i (omega arith) ∙ get_or-set_other d at i x 0 (λ e. let z : i ≡ at = e in omega arith)

pub zeros : (n i : ℕ) → get_or {A = ℕ} (replicate n 0) i 0 ≡ 0
zeros n i = split (dec_le (suc i) n)
  where
    split : Dec (suc i ≤ n) → get_or {A = ℕ} (replicate n 0) i 0 ≡ 0
    split (yes h) = get_or-replicate n i 0 0 h
    split (no h) = get_or-eq_default (replicate n 0) 0 {n = i} (let l = length-replicate {A = ℕ} n 0 in omega arith)

-- a new line
pub blank_zero : (c : ℕ) → ZeroPast (blank_line c)
blank_zero c = record { boot = λ i h. zeros limit i; init = λ i h. zeros limit i }

-- the line that holds texts which begin with its own
held_zero : (l : Cmdline) (t : Text) → Buffers l → ZeroPast l → Extends (text_of l) t → Short t → ZeroPast (holding l t)
held_zero l t b z e s =
    let nb = begins_long e.boot in
    let ni = begins_long e.init in
    let lb = boot_long l b.boot b.init in
    let li = init_long l b.boot b.init in
    let sb = s.boot in
    let si = s.init in
    record {
      boot = λ i h. past_stored t.boot l.boot 0 i (omega arith) ∙ z.boot i (omega arith);
      init = λ i h. past_stored t.init l.init 0 i (omega arith) ∙ z.init i (omega arith);
    }

-- ---- a reply, and a making

pub reply_zero : (l : Cmdline) (p : Plan) → (AllHold p.tests → Fits p.text) → Extends (text_of l) p.text → Buffers l → ZeroPast l
    → ZeroPast (reply_of l p).line
reply_zero l p told e b z = split (plan_gate p) refl
  where
    split : (g : Check) → plan_gate p ≡ g → ZeroPast (settled g l (holding l p.text))
    split (Ok _) o =
        let cap = e.capacity in
        held_zero l p.text b z e (fits_short p.text (told (open_all p.tests o)) (omega arith))
    split (Err r) o = z

pub reply_buffers : (l : Cmdline) (p : Plan) → Buffers l → Buffers (reply_of l p).line
reply_buffers l p b = split (plan_gate p)
  where
    split : (g : Check) → Buffers (settled g l (holding l p.text))
    split (Ok _) = buffers_held l p.text b
    split (Err r) = b

pub made_buffers : (p : Plan) → Buffers (made_of p).line
made_buffers p = reply_buffers (blank_line 0) p (blank_buffers 0)

pub made_zero : (p : Plan) → (AllHold p.tests → Fits p.text) → (AllHold p.tests → p.text.capacity ≤ limit) → ZeroPast (made_of p).line
made_zero p told cap = split (plan_gate p) refl
  where
    split : (g : Check) → plan_gate p ≡ g → ZeroPast (settled g (blank_line 0) (holding (blank_line 0) p.text))
    split (Ok _) o =
        let hold = open_all p.tests o in
        let s = fits_short p.text (told hold) (cap hold) in
        let sb = s.boot in
        let si = s.init in
        record {
          boot = λ i h. past_stored p.text.boot (replicate limit 0) 0 i (omega arith) ∙ zeros limit i;
          init = λ i h. past_stored p.text.init (replicate limit 0) 0 i (omega arith) ∙ zeros limit i;
        }
    split (Err r) o = blank_zero 0
