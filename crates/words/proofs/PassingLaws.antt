-- Laws of texts that a reader passes: no such byte stands outside quotes in them, and each quote is closed.
use Prim.Native.Nat.{ℕ, suc, ◌+◌}
use mathlib.Core.Path.{◌≡◌, refl, ap, ◌∙◌}
use mathlib.Core.Bool.{Bool, true, false, ◌||◌}
use mathlib.Core.List.{List, [], ◌∷◌, ◌++◌, append_assoc}
use native.Mathlib.Omega.{arith}
use borrow.Author.Tests.{ne_eqb, eqb-false}
use lib.Dec.{eqb}
use lib.ListN.{length, length-append}
use Rattle.answers.specs.Pick.{pick}
use Rattle.slugs.specs.Bytes.{has}
use Rattle.words.specs.Readers.{plain_from, quoted_from}

pub record Passes (byte : ℕ) (w : List ℕ) : Type 0 where
  pub on : (rest : List ℕ) (at : ℕ) → plain_from byte (w ++ rest) at ≡ plain_from byte rest (at + length w)

-- bytes none of which is this one
pub data Free (x : ℕ) : List ℕ → Type 0 where
  none : Free x []
  more : {b : ℕ} {bs : List ℕ} → (b ≡ x → ⊥) → Free x bs → Free x (b ∷ bs)

same_place : (byte : ℕ) (rest : List ℕ) {p q : ℕ} → p ≡ q → plain_from byte rest p ≡ plain_from byte rest q
same_place byte rest e = ap (plain_from byte rest) e

plain_free : (byte : ℕ) (w rest : List ℕ) (at : ℕ) → Free 34 w → Free byte w → plain_from byte (w ++ rest) at ≡ plain_from byte rest (at + length w)
unfolding plain_from pick
plain_free byte [] rest at none none = same_place byte rest (omega arith)
plain_free byte (b ∷ bs) rest at (more n f) (more m g) =
    rw (ne_eqb b 34 n, ne_eqb b byte m) (plain_free byte bs rest (suc at) f g ∙ same_place byte rest (omega arith))

quoted_free : (byte : ℕ) (w rest : List ℕ) (at opened : ℕ) → Free 34 w → quoted_from byte (w ++ (34 ∷ rest)) at opened ≡ plain_from byte rest (at + length w + 1)
unfolding quoted_from pick
quoted_free byte [] rest at opened none = same_place byte rest (omega arith)
quoted_free byte (b ∷ bs) rest at opened (more n f) =
    rw (ne_eqb b 34 n) (quoted_free byte bs rest (suc at) opened f ∙ same_place byte rest (omega arith))

-- free of quotes and of the byte
pub passes_free : {byte : ℕ} {w : List ℕ} → Free 34 w → Free byte w → Passes byte w
passes_free {byte} {w} f g = record { on = λ rest at. plain_free byte w rest at f g }

pub passes_append : {byte : ℕ} {x y : List ℕ} → Passes byte x → Passes byte y → Passes byte (x ++ y)
passes_append {byte} {x} {y} p q = record {
  on = λ rest at.
      ap (λ (l : List ℕ). plain_from byte l at) (append_assoc x y rest) ∙ p.on (y ++ rest) at ∙ q.on rest (at + length x)
      ∙ same_place byte rest (let l = length-append x y in omega arith);
}

quoted_on : (byte : ℕ) (inner rest : List ℕ) (at : ℕ) → Free 34 inner → plain_from byte (34 ∷ ((inner ++ (34 ∷ [])) ++ rest)) at ≡ plain_from byte rest (at + suc (length (inner ++ (34 ∷ []))))
unfolding plain_from pick
quoted_on byte inner rest at f =
    ap (λ (l : List ℕ). quoted_from byte l (suc at) at) (append_assoc inner (34 ∷ []) rest) ∙ quoted_free byte inner rest (suc at) at f
    ∙ same_place byte rest (let l = length-append inner (34 ∷ []) in omega arith)

-- a quote at each end and none between, whatever else stands there
pub passes_quoted : {byte : ℕ} (inner : List ℕ) → Free 34 inner → Passes byte (34 ∷ (inner ++ (34 ∷ [])))
passes_quoted {byte} inner f = record { on = λ rest at. quoted_on byte inner rest at f }

-- ---- the tests of slugs say it

free_by : (b x : ℕ) (xs : List ℕ) (t : Bool) → eqb x b ≡ t → t || has b xs ≡ false → (has b xs ≡ false → Free b xs) → Free b (x ∷ xs)
free_by b x xs true e h f = absurd (eqb-false 0 0 h refl)
free_by b x xs false e h f = more (eqb-false x b e) (f h)

pub has_free : (b : ℕ) (s : List ℕ) → has b s ≡ false → Free b s
unfolding has
has_free b [] h = none
has_free b (x ∷ xs) h = free_by b x xs (eqb x b) refl h (has_free b xs)
