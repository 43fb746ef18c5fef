-- A refused call leaves the line unchanged, both parts, buffers included: `refused_unchanged`. Writing a line changes only the places of
-- its text and zero, and nothing where it is refused: `writes_only` and `refused_writes_nothing`.
use Rattle.answers.specs.Tests.{Check}
use Rattle.std.specs.Prelude.{Ok, Err, Result}
use Prim.Native.Nat.{ℕ, ◌≤◌}
use mathlib.Core.Path.{◌≡◌, refl, sym, ap, ◌∙◌}
use mathlib.Core.List.{List}
use native.Mathlib.Omega.{arith}
use lib.ListN.{length, get_or}
use lib.Seq.{sets}
use Rattle.answers.specs.declared.Refusal.{Refusal}
use Rattle.cmdline.specs.declared.Cmdline.{Cmdline}
use Rattle.cmdline.specs.Text.{Text}
use Rattle.cmdline.specs.Insertion.{Plan, plan_gate, answer_of, settled}
use Rattle.cmdline.specs.Writing.{write_gate, written_of, written_bytes, Writes}
use Rattle.cmdline.specs.Held.{holding, reply_of}
use Rattle.cmdline.proofs.ZeroLaws.{past_stored}

pub refused_unchanged : (l : Cmdline) (p : Plan) (r : Refusal) → (reply_of l p).answer ≡ Err r → (reply_of l p).line ≡ l
refused_unchanged l p r e = split (plan_gate p) e
  where
    split : (g : Check) → answer_of g ≡ Err r → settled g l (holding l p.text) ≡ l
    split (Ok _) a = let z : ◌≡◌ {A = ℕ} 0 1 = cc in absurd (omega arith)
    split (Err s) a = refl

module _ {t : Text} {out left : List ℕ} {w : Result ℕ Refusal} (c : Writes t out w left) where
  pub writes_only : (i : ℕ) → length (written_bytes (write_gate t (length out)) t) ≤ i → get_or left i 0 ≡ get_or out i 0
  writes_only i h =
      ap (λ (s : List ℕ). get_or s i 0) c.bytes ∙ past_stored (written_bytes (write_gate t (length out)) t) out 0 i (omega arith)

  pub refused_writes_nothing : (r : Refusal) → w ≡ Err r → left ≡ out
  refused_writes_nothing r e = c.bytes ∙ split (write_gate t (length out)) (sym c.answer ∙ e)
    where
      split : (g : Check) → written_of g t ≡ Err r → sets out 0 (written_bytes g t) ≡ out
      split (Ok _) a = let z : ◌≡◌ {A = ℕ} 0 1 = cc in absurd (omega arith)
      split (Err s) a = refl
