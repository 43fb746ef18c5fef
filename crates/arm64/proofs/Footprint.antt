-- "Two images of one length that hold the same bytes in the header have the same plan": the same answer and the same part, whatever the rest of either
-- image holds. So a caller may plan with those bytes only, and copy the part from the whole image (`loads`, Footprint).
use Rattle.std.specs.Prelude.{Err}
use Prim.Native.Nat.{ℕ, ◌+◌, ◌≤◌}
use mathlib.Core.Path.{◌≡◌}
use mathlib.Core.List.{List}
use native.Mathlib.Omega.{arith}
use Rattle.fields.specs.Numbers.{le}
use Rattle.fields.proofs.AgreementLaws.{agree_within, agree_le}
use Rattle.guest.specs.declared.Memory.{Memory}
use Rattle.guest.proofs.LoadingLaws.{answer_same}
use Rattle.arm64.specs.Footprint.{looked_at, SameFootprint}
use Rattle.arm64.specs.Image.{text_offset, image_size}
use Rattle.arm64.specs.Plan.{tests, image_plan, plan_of}
use Rattle.arm64.specs.Parts.{part_of}

module _ (s t : List ℕ) (same : SameFootprint s t) where
  -- a field of the header
  field_same : (n p : ℕ) → p + n ≤ looked_at → le n s p ≡ le n t p
  field_same n p h = agree_le s t n p (agree_within s t 0 looked_at p n same.header (omega arith) (omega arith))

  offset_same : text_offset s ≡ text_offset t
  offset_same = field_same 8 8 (omega arith)

  size_same : image_size s ≡ image_size t
  size_same = field_same 8 16 (omega arith)

  module _ (m : Memory) (base : ℕ) where
    tests_same : tests s m base ≡ tests t m base
    tests_same = rw (same.lengths, field_same 4 56 (omega arith), field_same 8 24 (omega arith), size_same, offset_same)

    loaded_same : (image_plan s base).answer ≡ (image_plan t base).answer
    loaded_same = rw (offset_same, size_same)

    pub plan_same : (plan_of s m base).answer ≡ (plan_of t m base).answer
    plan_same = answer_same Err (image_plan s base) (image_plan t base) tests_same loaded_same

    pub part_same : part_of s base ≡ part_of t base
    unfolding part_of
    part_same = rw (same.lengths, offset_same)
