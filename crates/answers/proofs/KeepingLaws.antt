-- Laws of what is kept: through a pick, a map, a row of tests.
use mathlib.Core.Path.{◌≡◌, sym, ◌∙◌, refl, subst⁻¹, subst₂}
use mathlib.Core.Bool.{Bool, true, false}
use mathlib.Core.List.{List, [], ◌∷◌, ◌++◌}
use Prim.Native.Nat.{ℕ, ◌≤◌}
use native.Mathlib.Omega.{arith}
use borrow.Author.Tests.{leb-true, le-leb}
use lib.Dec.{leb}
use Rattle.answers.specs.Pick.{pick}
use Rattle.answers.specs.Tests.{Test, asked_all, AllHold, pass}
use Rattle.answers.specs.Keeping.{Keeps, same, lifted, ShutBy, shut_by}
use Rattle.answers.specs.declared.Refusal.{Refusal}
use Rattle.answers.proofs.TestsLaws.{first_held, first_failed, by_first}

module _ {A : Type 0} (Lifts : A → Type 0) where
  pub equal : {a b : A} → b ≡ a → Keeps Lifts a b
  equal {a} e = subst⁻¹ (Keeps Lifts a) e same

  -- the same of what the two are equal to
  pub keeps_as : {a b a' b' : A} → a ≡ a' → b ≡ b' → Keeps Lifts a' b' → Keeps Lifts a b
  keeps_as p q k = subst₂ (Keeps Lifts) (sym p) (sym q) k

  -- where nothing lifts, the two are the same
  pub kept : {a b : A} → Keeps Lifts a b → (Lifts a → ⊥) → b ≡ a
  kept same n = refl
  kept (lifted l) n = absurd (n l)

  -- a test that comes to hold: what it picks is kept, and what it answers where it fails may lift
  pub pick_grows : (b b' : Bool) {x x' y : A} → (b ≡ true → b' ≡ true) → (b ≡ true → Keeps Lifts x x') → Lifts y
      → Keeps Lifts (pick b x y) (pick b' x' y)
  unfolding pick
  pick_grows false b' comes k l = lifted l
  pick_grows true b' {x} {x'} {y} comes k l = subst⁻¹ (λ (c : Bool). Keeps Lifts x (pick c x' y)) (comes refl) (k refl)

  -- a test that is the same
  pub pick_same : (b b' : Bool) {x x' y y' : A} → b' ≡ b → (b ≡ true → Keeps Lifts x x') → (b ≡ false → Keeps Lifts y y')
      → Keeps Lifts (pick b x y) (pick b' x' y')
  unfolding pick
  pick_same false b' {x} {x'} {y} {y'} e kx ky = subst⁻¹ (λ (c : Bool). Keeps Lifts y (pick c x' y')) e (ky refl)
  pick_same true b' {x} {x'} {y} {y'} e kx ky = subst⁻¹ (λ (c : Bool). Keeps Lifts x (pick c x' y')) e (kx refl)

pub keeps_map : {A B : Type 0} {LA : A → Type 0} {LB : B → Type 0} (f : A → B) {a b : A} → Keeps LA a b → (LA a → LB (f a))
    → Keeps LB (f a) (f b)
keeps_map f same lifts = same
keeps_map f (lifted l) lifts = lifted (lifts l)

-- a number within a bound is within a greater one
pub leb_grows : (x a b : ℕ) → a ≤ b → leb x a ≡ true → leb x b ≡ true
leb_grows x a b h e = let l = leb-true x a e in le-leb x b (omega arith)

-- two rows of the same refusals, test by test: a test is the same before and after, or it comes to hold and its refusal may lift.
-- What follows a test need be shown only where the test held: where it fails, nothing after it is asked.
pub data Widens (Lifts : Refusal → Type 0) : List Test → List Test → Type 0 where
  end : Widens Lifts [] []
  stays : {b b' : Bool} {refusal : Refusal} {ts ts' : List Test} → b' ≡ b → (b ≡ true → Widens Lifts ts ts')
      → Widens Lifts ((b, refusal) ∷ ts) ((b', refusal) ∷ ts')
  grows : {b b' : Bool} {refusal : Refusal} {ts ts' : List Test} → (b ≡ true → b' ≡ true) → Lifts refusal → (b ≡ true → Widens Lifts ts ts')
      → Widens Lifts ((b, refusal) ∷ ts) ((b', refusal) ∷ ts')

-- a row that widens: its result is kept
module _ (Lifts : Refusal → Type 0) where
  pub row_keeps : {ts ts' : List Test} → Widens Lifts ts ts' → Keeps (ShutBy Lifts) (asked_all pass ts) (asked_all pass ts')
  row_keeps end = same
  row_keeps (stays {b} {b'} {refusal} {ts} {ts'} e rest) =
      by_first (b, refusal) ts
      (λ held. keeps_as (ShutBy Lifts) (first_held (b, refusal) ts held) (first_held (b', refusal) ts' (e ∙ held)) (row_keeps (rest held)))
      (λ failed. equal (ShutBy Lifts) (first_failed (b', refusal) ts' (e ∙ failed) ∙ sym (first_failed (b, refusal) ts failed)))
  row_keeps (grows {b} {b'} {refusal} {ts} {ts'} comes l rest) =
      by_first (b, refusal) ts
      (λ held. keeps_as (ShutBy Lifts) (first_held (b, refusal) ts held) (first_held (b', refusal) ts' (comes held)) (row_keeps (rest held)))
      (λ failed. keeps_as (ShutBy Lifts) (first_failed (b, refusal) ts failed) refl (lifted (shut_by l)))

  -- one row after another: what follows need be shown only where the first row held
  pub widens_append : {ts ts' us us' : List Test} → Widens Lifts ts ts' → (AllHold ts → Widens Lifts us us') → Widens Lifts (ts ++ us) (ts' ++ us')
  widens_append end rest = rest tt
  widens_append (stays e more) rest = stays e (λ held. widens_append (more held) (λ all. rest (held, all)))
  widens_append (grows comes l more) rest = grows comes l (λ held. widens_append (more held) (λ all. rest (held, all)))

  -- a row that stays as it is
  pub widens_same : (ts : List Test) → Widens Lifts ts ts
  widens_same [] = end
  widens_same ((b, refusal) ∷ ts) = stays refl (λ _. widens_same ts)
