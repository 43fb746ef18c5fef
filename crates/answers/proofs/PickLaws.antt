-- Laws of what a test picks, and of the tests that code asks.
use mathlib.Core.Path.{◌≡◌, sym, ◌∙◌, refl}
use mathlib.Core.Bool.{Bool, true, false, not}
use borrow.Author.Tests.{not-true, not-false}
use Rattle.answers.specs.Pick.{pick}

-- what holds of both sides of a test holds of what it picks
pub pick_with {ℓ} : {A : Type ℓ} (P : A → Type 0) (b : Bool) {x y : A} → (b ≡ true → P x) → (b ≡ false → P y) → P (pick b x y)
unfolding pick
pick_with P true f g = f refl
pick_with P false f g = g refl

-- what holds between the sides of a test in two rows holds between what it picks of them
pub pick_both : {A : Type 0} (R : A → A → Type 0) (b : Bool) {x x' y y' : A} → (b ≡ true → R x x') → (b ≡ false → R y y') → R (pick b x y) (pick b x' y')
unfolding pick
pick_both R true f g = f refl
pick_both R false f g = g refl

-- what `if !f(..)` says of the test b that f answers
pub failed : {t b : Bool} → t ≡ b → not t ≡ true → b ≡ false
failed {t} e h = sym e ∙ not-true t h

pub held : {t b : Bool} → t ≡ b → not t ≡ false → b ≡ true
held {t} e h = sym e ∙ not-false t h
