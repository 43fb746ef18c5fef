-- Laws of slices that hold the same bytes in a range: what is read there is the same.
use Prim.Native.Nat.{ℕ, zero, suc, ◌+◌, ◌≤◌}
use mathlib.Core.Path.{◌≡◌, refl}
use mathlib.Core.List.{List, [], ◌∷◌}
use native.Mathlib.Omega.{arith}
use lib.ListN.{length}
use Rattle.fields.specs.Agreement.{Agree}
use Rattle.fields.specs.Numbers.{le}
use Rattle.fields.specs.Tags.{tag_at}

module _ (s t : List ℕ) where
  -- a range within the range
  pub agree_within : (at n p m : ℕ) → Agree s t at n → at ≤ p → p + m ≤ at + n → Agree s t p m
  agree_within at n p m agree from below = record { same = λ k ge lt. agree.same k (omega arith) (omega arith) }

  -- a number
  pub agree_le : (n p : ℕ) → Agree s t p n → le n s p ≡ le n t p
  unfolding le
  agree_le zero p agree = refl
  agree_le (suc n) p agree =
      rw (agree.same p (omega arith) (omega arith), agree_le n (suc p) (agree_within p (suc n) (suc p) n agree (omega arith) (omega arith)))

  -- a tag
  pub agree_tag : (tag : List ℕ) (p : ℕ) → Agree s t p (length tag) → tag_at tag s p ≡ tag_at tag t p
  unfolding tag_at
  agree_tag [] p agree = refl
  agree_tag (b ∷ bs) p agree =
      rw (agree.same p (omega arith) (omega arith), agree_tag bs (suc p) (agree_within p (suc (length bs)) (suc p) (length bs) agree (omega arith) (omega arith)))
