-- Laws of where a line parts.
use Prim.Native.Nat.{ℕ, zero, suc, ◌+◌, ◌-◌, ◌≤◌, ◌<◌, min}
use mathlib.Core.Path.{◌≡◌, refl, sym, ap, ◌∙◌}
use mathlib.Core.Bool.{Bool, true, false}
use mathlib.Core.List.{List, [], ◌∷◌}
use native.Mathlib.Omega.{arith}
use native.Mathlib.Nat.{add-suc}
use native.Mathlib.Decide.{dec_le}
use lib.Dec.{eqb}
use lib.ListN.{length, take, drop, get_or, length-drop}
use lib.Seq.{drop-drop, get_or-drop}
use Rattle.answers.specs.Pick.{pick}
use Rattle.fields.specs.Tags.{tag_at}
use Rattle.slugs.specs.Splitting.{even_after, splits, split_from, separator, Skips}
use Rattle.slugs.specs.Bytes.{space, quote, dash, has}
use Rattle.slugs.proofs.ListLaws.{here, gone, part_end}
use Rattle.slugs.proofs.BytesLaws.{either_left, either_right}

-- a tag at a place is a tag at the start of the rest
tag_rest : (tag s : List ℕ) (at p : ℕ) → tag_at tag s (at + p) ≡ tag_at tag (drop at s) p
unfolding tag_at
tag_rest [] s at p = refl
tag_rest (b ∷ bs) s at p = rw (get_or-drop at s p 0, ← add-suc at p, tag_rest bs s at (suc p))

pub tag_here : (s : List ℕ) (at : ℕ) → tag_at separator s at ≡ splits true (drop at s)
unfolding splits pick
tag_here s at = let e : at ≡ at + 0 = omega arith in ap (tag_at separator s) e ∙ tag_rest separator s at 0

-- ---- from a place on

module _ (even : Bool) (s : List ℕ) (i : ℕ) where
  pub split_stop : i < length s → splits even (drop i s) ≡ true → split_from even (drop i s) ≡ 0
  unfolding split_from pick
  split_stop h q = let w : splits even (get_or s i 0 ∷ drop (i + 1) s) ≡ true = rw (← here s i h) q in rw (here s i h, w)

  pub split_on : i < length s → splits even (drop i s) ≡ false → split_from even (drop i s) ≡ suc (split_from (even_after even (get_or s i 0)) (drop (i + 1) s))
  unfolding split_from pick
  split_on h q = let w : splits even (get_or s i 0 ∷ drop (i + 1) s) ≡ false = rw (← here s i h) q in rw (here s i h, w)

  pub split_end : length s ≤ i → split_from even (drop i s) ≡ 0
  unfolding split_from
  split_end h = rw (gone s i h)

-- ---- many bytes in one step

-- bytes that are neither quotes nor dashes: a separator that begins among them would have a dash among them
plain_run : (even : Bool) (n : ℕ) (s : List ℕ) → suc n ≤ length s → has quote (take (suc n) s) ≡ false → has dash (take (suc n) s) ≡ false
    → split_from even s ≡ n + split_from even (drop n s)
unfolding split_from splits even_after tag_at has pick
plain_run even zero s h q d = omega arith
plain_run even (suc n) [] h q d = absurd (omega arith)
plain_run even (suc n) (x ∷ []) h q d = absurd (omega arith)
plain_run even (suc n) (x ∷ (y ∷ ys)) h q d =
    let no_quote : eqb x quote ≡ false = either_left (eqb x quote) (has quote (take (suc n) (y ∷ ys))) q in
    let rest : has dash (take (suc n) (y ∷ ys)) ≡ false = either_right (eqb x dash) (has dash (take (suc n) (y ∷ ys))) d in
    let no-dash : eqb y dash ≡ false = either_left (eqb y dash) (has dash (take n ys)) rest in
    let next = plain_run even n (y ∷ ys) (omega arith) (either_right (eqb x quote) (has quote (take (suc n) (y ∷ ys))) q) rest in
    let none : splits even (x ∷ (y ∷ ys)) ≡ false = rw no-dash (nothing even (eqb x space)) in
    rw (none, no_quote) (omega (arith, next))
  where
    nothing : (even a : Bool) → pick even (pick a false false) false ≡ false
    nothing true true = refl
    nothing true false = refl
    nothing false a = refl

pub skips_many : (s : List ℕ) (i m : ℕ) {q d : Bool} → m ≡ 64 → i + 65 ≤ length s → q ≡ has quote (take m (drop (i + 1) s)) → q ≡ false
    → d ≡ has dash (take m (drop (i + 1) s)) → d ≡ false → Skips s i 64
skips_many s i m em h eq nq ed nd =
    record {
      least = omega arith;
      within = λ k. omega arith;
      same =
          λ even.
          plain_run even 63 (drop (i + 1) s) (simp length-drop (omega arith))
          (ap (λ (k : ℕ). has quote (take k (drop (i + 1) s))) (sym em) ∙ sym eq ∙ nq) (ap (λ (k : ℕ). has dash (take k (drop (i + 1) s))) (sym em) ∙ sym ed ∙ nd)
          ∙ ap (λ (t : List ℕ). 63 + split_from even t) (drop-drop 63 (i + 1) s ∙ ap (λ (k : ℕ). drop k s) (let e : i + 1 + 63 ≡ i + 64 = omega arith in e));
    }

-- ---- what lies past a place, clipped to the text

pub past : (s : List ℕ) (at : ℕ) {n : ℕ} → n ≡ min at (length s) → take (length s - n) (drop n s) ≡ drop at s
past s at {n} e = part_end s n ∙ split (dec_le at (length s))
  where
    split : Dec (at ≤ length s) → drop n s ≡ drop at s
    split (yes h) = ap (λ (k : ℕ). drop k s) (let same : n ≡ at = omega arith in same)
    split (no h) = gone s n (omega arith) ∙ sym (gone s at (omega arith))
