-- Laws of how a line is made.
use Prim.Native.Nat.{ℕ, ◌≤◌}
use mathlib.Core.Path.{◌≡◌, sym, ap, ◌∙◌}
use Rattle.std.specs.Prelude.{Ok, Err}
use mathlib.Core.Bool.{true}
use mathlib.Core.List.{List}
use native.Mathlib.Omega.{arith}
use lib.Dec.{leb}
use lib.ListN.{length, take, drop, replicate, length-replicate}
use borrow.Author.Tests.{leb-true, le-leb}
use Rattle.answers.specs.Tests.{asked_all, AllHold, Check, pass}
use Rattle.answers.specs.declared.Refusal.{Refusal}
use Rattle.answers.proofs.TestsLaws.{open_all}
use Rattle.cmdline.specs.Insertion.{Plan, plan_gate, answer_of, settled}
use Rattle.cmdline.specs.declared.Cmdline.{Cmdline}
use Rattle.cmdline.specs.Limit.{limit, allowed}
use Rattle.cmdline.specs.Text.{size_of}
use Rattle.slugs.specs.Trimming.{trim}
use Rattle.slugs.specs.Splitting.{split_at, boot_part, init_part}
use Rattle.cmdline.specs.Making.{new, size_tests, try_from}
use Rattle.slugs.specs.Stored.{Stored}
use Rattle.cmdline.specs.Held.{blank_line, holding, made_of, line_by, line_of}
use Rattle.slugs.proofs.BytesLaws.{both_left, both_right}
use Rattle.cmdline.proofs.TextLaws.{size_boot, size_init}

pub allowed_most : (c : ℕ) → allowed c ≡ true → c ≤ limit
unfolding allowed
allowed_most c e = leb-true c limit (both_right (leb 1 c) (leb c limit) e)

pub allowed_least : (c : ℕ) → allowed c ≡ true → 1 ≤ c
unfolding allowed
allowed_least c e = leb-true 1 c (both_left (leb 1 c) (leb c limit) e)

pub most_allowed : (c : ℕ) → 1 ≤ c → c ≤ limit → allowed c ≡ true
unfolding allowed
most_allowed c low high = rw (le-leb 1 c low, le-leb c limit high)

-- a line that is made has a capacity within the limit
pub new_most : (c : ℕ) → AllHold (new c).tests → (new c).text.capacity ≤ limit
unfolding new
new_most c hold = allowed_most c hold.0

pub from_most : (s : List ℕ) (c : ℕ) → AllHold (try_from s c).tests → (try_from s c).text.capacity ≤ limit
unfolding try_from
from_most s c hold = allowed_most c hold.0

-- what a making returns, by how its tests end
pub made_not : (p : Plan) {r : Refusal} → plan_gate p ≡ Err r → Err r ≡ line_of (made_of p)
made_not p e = ap (λ (g : Check). line_by (answer_of g) (settled g (blank_line 0) (holding (blank_line 0) p.text))) (sym e)

pub made_all : (p : Plan) {l : Cmdline} → plan_gate p ≡ pass → l ≡ holding (blank_line 0) p.text → Ok l ≡ line_of (made_of p)
made_all p e same = ap Ok same ∙ ap (λ (g : Check). line_by (answer_of g) (settled g (blank_line 0) (holding (blank_line 0) p.text))) (sym e)

-- a line from its text
module _ (raw : List ℕ) (c at : ℕ) (place : at ≡ split_at raw) (before after rest : List ℕ) (first : before ≡ trim (take at raw))
    (second : after ≡ trim rest) (later : rest ≡ drop 4 (drop at raw)) where
  boot_is : before ≡ boot_part raw
  boot_is = rw (← place) first

  init_is : after ≡ init_part raw
  init_is = rw (← place, ← later) second

  pub from_gate : asked_all pass (size_tests (length before) (length after) c) ≡ plan_gate (try_from raw c)
  unfolding try_from
  from_gate = rw (boot_is, init_is)

  pub from_line : {m n : ℕ} {d f : List ℕ} → plan_gate (try_from raw c) ≡ pass → Stored (replicate limit 0) 0 before d m
      → Stored (replicate limit 0) 0 after f n
      → record { boot = d; boots = m; init = f; inits = n; capacity = c } ≡ holding (blank_line 0) (try_from raw c).text
  unfolding try_from
  from_line {m} {n} {d} {f} e sd sf =
      let hold = open_all (try_from raw c).tests e in
      let top = allowed_most c hold.0 in
      let size : size_of (length before) (length after) ≤ c = rw (boot_is, init_is) (leb-true (size_of (length (boot_part raw)) (length (init_part raw))) c hold.1.0) in
      let b = size_boot (length before) (length after) in
      let i = size_init (length before) (length after) in
      let room = length-replicate {A = ℕ} limit 0 in
      let sp = sd.place in
      let fp = sf.place in
      let mb : m ≡ length before = omega arith in
      let nb : n ≡ length after = omega arith in
      rw (mb, nb, sd.bytes, sf.bytes, ← boot_is, ← init_is)
