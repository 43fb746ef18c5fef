-- Laws of quotes in a key and a value: what an accepted insertion asked of them makes its text one that the readers pass.
use Prim.Native.Nat.{ℕ, suc, ◌-◌, ◌≤◌}
use mathlib.Core.Path.{◌≡◌, refl, sym, ap, subst, ◌∙◌}
use mathlib.Core.Bool.{Bool, true, false, ◌&&◌}
use mathlib.Core.List.{List, [], ◌∷◌, ◌++◌}
use native.Mathlib.Omega.{arith}
use borrow.Author.Tests.{eqb-true, eqb-false, leb-true, not-true}
use lib.Dec.{eqb, leb}
use lib.ListN.{length, get_or, take}
use lib.Seq.{take-length, take-suc}
use Rattle.answers.specs.Tests.{AllHold}
use Rattle.slugs.specs.Bytes.{space, quote, equals, has}
use Rattle.slugs.specs.Keys.{key_tests}
use Rattle.slugs.specs.Values.{inner, quoted, value_tests}
use Rattle.slugs.proofs.BytesLaws.{both_left, both_right, has_not_at}
use Rattle.slugs.proofs.ValuesLaws.{key_plain, value_protected, space_quoted}
use Rattle.words.specs.Inserting.{Insertion, ValueQuotes, free, at_ends}
use Rattle.words.proofs.PassingLaws.{Passes, passes_free, passes_quoted, has_free}
use Rattle.words.proofs.JoinedLaws.{Good, good_pair}

-- a value that is quoted, with no quote strictly inside
module _ (b : ℕ) (bs : List ℕ) where
  quoted_parts : quoted (b ∷ bs) ≡ true → b ∷ bs ≡ quote ∷ (inner (b ∷ bs) ++ (quote ∷ []))
  unfolding quoted
  quoted_parts q =
      let first : Bool = eqb b quote in
      let last : Bool = eqb (get_or (b ∷ bs) (length (b ∷ bs) - 1) 0) quote in
      let long = leb-true 2 (length (b ∷ bs)) (both_left (leb 2 (length (b ∷ bs))) (first && last) q) in
      let rest = both_right (leb 2 (length (b ∷ bs))) (first && last) q in
      let at_first : b ≡ quote = eqb-true b quote (both_left first last rest) in
      let at_last : get_or (b ∷ bs) (length (b ∷ bs) - 1) 0 ≡ quote = eqb-true (get_or (b ∷ bs) (length (b ∷ bs) - 1) 0) quote (both_right first last rest) in
      by_length bs (omega arith) at_first at_last
    where
      by_length : (cs : List ℕ) → 1 ≤ length cs → b ≡ quote → get_or (b ∷ cs) (length (b ∷ cs) - 1) 0 ≡ quote
          → b ∷ cs ≡ quote ∷ (inner (b ∷ cs) ++ (quote ∷ []))
      by_length cs h e l =
          let k : length (b ∷ cs) - 1 ≡ suc (length cs - 1) = omega arith in
          let n : length (b ∷ cs) - 2 ≡ length cs - 1 = omega arith in
          let z : length cs ≡ suc (length cs - 1) = omega arith in
          let end : get_or cs (length cs - 1) 0 ≡ quote = ap (λ (j : ℕ). get_or (b ∷ cs) j 0) (sym k) ∙ l in
          let whole_text : cs ≡ take (length cs - 1) cs ++ (get_or cs (length cs - 1) 0 ∷ []) =
          sym (take-length cs) ∙ ap (λ (j : ℕ). take j cs) z ∙ take-suc cs (length cs - 1) 0 (omega arith) in
          ap (λ (x : ℕ). x ∷ cs) e
          ∙ ap (λ (l : List ℕ). quote ∷ l) (whole_text ∙ ap (λ (x : ℕ). take (length cs - 1) cs ++ (x ∷ [])) end ∙ ap (λ (j : ℕ). take j cs ++ (quote ∷ [])) (sym n))

quoted_text : (value : List ℕ) → quoted value ≡ true → value ≡ quote ∷ (inner value ++ (quote ∷ []))
unfolding quoted
quoted_text [] q = absurd (eqb-false 0 0 (sym q) refl)
quoted_text (b ∷ bs) q = quoted_parts b bs q

inner_free : (value : List ℕ) → AllHold (value_tests value) → has quote (inner value) ≡ false
unfolding value_tests
inner_free value h = not-true (has quote (inner value)) h.1.0

key_sign : (key : List ℕ) → AllHold (key_tests key) → has equals key ≡ false
unfolding key_tests
key_sign key h = not-true (has equals key) h.1.1.0

-- a value without quotes is not quoted
free_unquoted : (value : List ℕ) → has quote value ≡ false → quoted value ≡ false
unfolding quoted
free_unquoted value f = by (quoted value) refl
  where
    by : (t : Bool) → quoted value ≡ t → quoted value ≡ false
    by false e = e
    by true e =
        let first : Bool = eqb (get_or value 0 0) quote in
        let last : Bool = eqb (get_or value (length value - 1) 0) quote in
        let long = leb-true 2 (length value) (both_left (leb 2 (length value)) (first && last) e) in
        let rest = both_right (leb 2 (length value)) (first && last) e in
        absurd (eqb-false 0 0 (sym (both_left first last rest) ∙ has_not_at quote value 0 f (omega arith)) refl)

value_passes : (value : List ℕ) → AllHold (value_tests value) → ValueQuotes value → Passes space value × Passes quote value
value_passes value h (free f) =
    let none = has_free quote value f in
    let blank = has_free space value (space_quoted value (value_protected value h) (free_unquoted value f)) in
    (passes_free none blank, passes_free none none)
value_passes value h (at_ends q) =
    let none = has_free quote (inner value) (inner_free value h) in
    let same = sym (quoted_text value q) in
    (subst (Passes space) same (passes_quoted (inner value) none), subst (Passes quote) same (passes_quoted (inner value) none))

pub good : (x : Insertion) → has quote x.key ≡ false → ValueQuotes x.value → AllHold (key_tests x.key) → AllHold (value_tests x.value) → Good x
good x k v hk hv =
    let passes = value_passes x.value hv v in
    good_pair x.key x.value (has_free quote x.key k) (has_free space x.key (key_plain x.key hk)) (has_free equals x.key (key_sign x.key hk)) passes.0 passes.1
