-- Laws of two tests joined: this and that, this or that.
use mathlib.Core.Path.{◌≡◌, ◌∙◌, refl, ap}
use mathlib.Core.Bool.{Bool, true, false, ◌&&◌, ◌||◌}
use mathlib.Core.Logic.{◌⊎◌, inl, inr}
use Prim.Native.Nat.{ℕ}
use native.Mathlib.Omega.{arith}

pub both_held : (a b : Bool) → a && b ≡ true → (a ≡ true) × (b ≡ true)
both_held true b e = (refl, e)
both_held false b e = let w : ◌≡◌ {A = ℕ} 0 1 = cc in absurd (omega arith)

pub hold_both : (a b : Bool) → a ≡ true → b ≡ true → a && b ≡ true
hold_both a b ea eb = rw (ea, eb)

pub one_held : (a b : Bool) → a || b ≡ true → (a ≡ true) ⊎ (b ≡ true)
one_held true b e = inl refl
one_held false b e = inr e

pub left_holds : (a b : Bool) → a ≡ true → a || b ≡ true
left_holds a b ea = rw ea

pub right_holds : (a b : Bool) → b ≡ true → a || b ≡ true
right_holds true b eb = refl
right_holds false b eb = eb

-- what code says that asks the first test and leaves, or goes on with the second
pub and_failed : {x a : Bool} (b : Bool) → x ≡ a && b → a ≡ false → x ≡ false
and_failed b e h = e ∙ ap (λ t. t && b) h

pub and_held : {x a b : Bool} → x ≡ a && b → a ≡ true → x ≡ b
and_held {x} {a} {b} e h = e ∙ ap (λ t. t && b) h

pub or_held : {x a : Bool} (b : Bool) → x ≡ a || b → a ≡ true → x ≡ true
or_held b e h = e ∙ ap (λ t. t || b) h

pub or_failed : {x a b : Bool} → x ≡ a || b → a ≡ false → x ≡ b
or_failed {x} {a} {b} e h = e ∙ ap (λ t. t || b) h
