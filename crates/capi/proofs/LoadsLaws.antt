-- Laws of a pick, as an answer is picked by a test.
use mathlib.Core.Path.{◌≡◌}
use mathlib.Core.Bool.{Bool, true, false}
use Rattle.answers.specs.Pick.{pick}

-- the first of two where the test holds, and the second where it fails
pub picks : {A : Type 0} {b : Bool} {a x : A} (y : A) → b ≡ true → a ≡ x → a ≡ pick b x y
unfolding pick
picks y h e = rw h e

pub passes : {A : Type 0} {b : Bool} {a y : A} (x : A) → b ≡ false → a ≡ y → a ≡ pick b x y
unfolding pick
passes x h e = rw h e
