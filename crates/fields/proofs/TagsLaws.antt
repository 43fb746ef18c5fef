-- Laws of tags at a place.
use Prim.Native.Nat.{ℕ, suc, ◌+◌, ◌≤◌}
use mathlib.Core.Path.{◌≡◌, refl}
use mathlib.Core.Bool.{Bool, ◌&&◌, true, false}
use mathlib.Core.List.{List, [], ◌∷◌, ◌++◌}
use native.Mathlib.Omega.{arith}
use lib.ListN.{length, get_or, get_or-append}
use Rattle.std.specs.Prelude.{nat_eq}
use Rattle.std.specs.List.{list_all, enumerate_from}
use Rattle.answers.specs.Pick.{pick}
use Rattle.fields.specs.Numbers.{le}
use Rattle.fields.proofs.NumbersLaws.{le_one}
use Rattle.fields.specs.Tags.{tag_at}

-- each byte of the tag is compared with that at its place, from the n-th on
pub tag_all : (tag s : List ℕ) (p n q : ℕ) → q ≡ p + n → list_all (λ (b : ℕ × ℕ). nat_eq (le 1 s (p + b.0)) b.1) (enumerate_from n tag) ≡ tag_at tag s q
unfolding tag_at pick
tag_all [] s p n q e = refl
tag_all (b ∷ bs) s p n q e = rw (e, le_one s (p + n), tag_all bs s p (n + 1) (suc (p + n)) (omega arith)) (both (nat_eq (get_or s (p + n) 0) b) (tag_at bs s (suc (p + n))))
  where
    both : (x y : Bool) → (x && y) ≡ pick x y false
    both true y = refl
    both false y = refl

-- a tag's place that stands in s says the same in s and more
pub tag_append : (tag s t : List ℕ) (p : ℕ) → p + length tag ≤ length s → tag_at tag (s ++ t) p ≡ tag_at tag s p
unfolding tag_at
tag_append [] s t p h = refl
tag_append (b ∷ bs) s t p h = rw (get_or-append s t 0 p (omega arith), tag_append bs s t (suc p) (omega arith))
