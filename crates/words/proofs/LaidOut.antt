-- The words with the spaces between them are the line: `words_laid_out`. And no other words part it by the house rule: `words_only`.
use Prim.Native.Nat.{ℕ, ◌+◌, ◌-◌, ◌≤◌, ◌<◌}
use mathlib.Core.Path.{◌≡◌, refl, sym, ap, subst, subst₂, ◌∙◌}
use mathlib.Core.Bool.{Bool, true, false}
use mathlib.Core.List.{List, [], ◌∷◌, ◌++◌}
use native.Mathlib.Omega.{arith}
use borrow.Author.Tests.{ltb-true, ltb-false}
use lib.Dec.{ltb}
use lib.ListN.{length, take, drop, replicate, length-replicate, get_or-replicate, length-drop, take-append-drop}
use lib.Seq.{ext_get_or, length-take-le, get_or-take, get_or-drop, drop-drop, take_all}
use Rattle.slugs.specs.Bytes.{space, equals}
use Rattle.slugs.specs.Lists.{part}
use Rattle.slugs.specs.Splitting.{even_quotes}
use Rattle.words.specs.Words.{Word, words_of}
use Rattle.words.specs.HouseRule.{Spaces, FirstOutside, IsWord, Parted, only_spaces, next_word, laid_out}
use Rattle.words.proofs.WordsPart.{words_part}

-- ---- laid out

-- places that have only spaces are a run of spaces
spaces_are : (line : List ℕ) (i n : ℕ) → i + n ≤ length line → Spaces line i (i + n) → replicate n space ≡ take n (drop i line)
spaces_are line i n h s =
    let l : length (take n (drop i line)) ≡ n = length-take-le n (drop i line) (let d = length-drop i line in omega arith) in
    let r : length (replicate n space) ≡ n = length-replicate {A = ℕ} n space in
    ext_get_or 0 (replicate n space) (take n (drop i line)) (r ∙ sym l) (λ k b.
    get_or-replicate n k space 0 (omega arith)
    ∙ sym (get_or-take n (drop i line) k 0 (omega arith) ∙ get_or-drop i line k 0 ∙ (s (i + k) (omega arith) (omega arith)).stands))

-- a part and what comes behind it
part_rest : (line : List ℕ) (from to : ℕ) → from ≤ to → take (to - from) (drop from line) ++ drop to line ≡ drop from line
part_rest line from to h =
    let e : from + (to - from) ≡ to = omega arith in
    ap (λ (l : List ℕ). take (to - from) (drop from line) ++ l) (ap (λ (k : ℕ). drop k line) (sym e) ∙ sym (drop-drop (to - from) from line))
    ∙ take-append-drop (to - from) (drop from line)

laid : (line : List ℕ) (i : ℕ) (ws : List Word) → i ≤ length line → Parted line i ws → laid_out line i ws ≡ drop i line
unfolding laid_out
laid line i [] h (only_spaces s) =
    let e : i + (length line - i) ≡ length line = omega arith in
    spaces_are line i (length line - i) (omega arith) (λ j a b. s j a (omega arith))
    ∙ take_all (length line - i) (drop i line) (let d = length-drop i line in omega arith)
laid line i (w ∷ ws) h (next_word l s is rest) =
    let some = is.some in
    let most = is.ends.most in
    ap (λ (x : List ℕ). x ++ (part w.start w.end line ++ laid_out line w.end ws))
    (spaces_are line i (w.start - i) (omega arith) (λ j a b. s j a (omega arith)))
    ∙ ap (λ (x : List ℕ). take (w.start - i) (drop i line) ++ (part w.start w.end line ++ x)) (laid line w.end ws most rest)
    ∙ ap (λ (x : List ℕ). take (w.start - i) (drop i line) ++ x) (part_rest line w.start w.end (omega arith))
    ∙ part_rest line i w.start l

pub words_laid_out : (line : List ℕ) → even_quotes true line ≡ true → laid_out line 0 (words_of line) ≡ line
words_laid_out line closed = laid line 0 (words_of line) (omega arith) (words_part line closed)

-- ---- one parting alone

same_word : (v w : Word) → v.start ≡ w.start → v.end ≡ w.end → v.split ≡ w.split → v ≡ w
same_word v w a b c = rw (a, b, c)

between : (p q : ℕ) → (p < q → ⊥) → (q < p → ⊥) → p ≡ q
between p q a b = by (ltb p q) (ltb q p) refl refl
  where
    by : (x y : Bool) → ltb p q ≡ x → ltb q p ≡ y → p ≡ q
    by true y e f = absurd (a (ltb-true p q e))
    by false true e f = absurd (b (ltb-true q p f))
    by false false e f = let l = ltb-false p q e in let m = ltb-false q p f in omega arith

module _ {line : List ℕ} where
  first_same : {byte from to p q : ℕ} → FirstOutside byte line from to p → FirstOutside byte line from to q → p ≡ q
  first_same {byte} {from} {to} {p} {q} a b =
      let al = a.least in
      let am = a.most in
      let bl = b.least in
      let bm = b.most in
      let ab : (p < q → ⊥) = λ h. b.none_before p al h (a.here (omega arith)) in
      let ba : (q < p → ⊥) = λ h. a.none_before q bl h (b.here (omega arith)) in
      between p q ab ba

  not_earlier : {i : ℕ} {w : Word} (start : ℕ) → i ≤ w.start → IsWord line w → Spaces line i start → w.start < start → ⊥
  not_earlier {i} {w} start l is s h = is.ends.none_before w.start (omega arith) is.some (s w.start l h)

  same_words : (i : ℕ) (vs ws : List Word) → Parted line i vs → Parted line i ws → vs ≡ ws
  same_words i [] [] a b = refl
  same_words i [] (w ∷ ws) (only_spaces s) (next_word l t is rest) =
      let some = is.some in
      let most = is.ends.most in
      absurd (not_earlier (length line) l is s (omega arith))
  same_words i (v ∷ vs) [] (next_word l t is rest) (only_spaces s) =
      let some = is.some in
      let most = is.ends.most in
      absurd (not_earlier (length line) l is s (omega arith))
  same_words i (v ∷ vs) (w ∷ ws) (next_word l s is rest) (next_word l' s' is' rest') =
      let start : v.start ≡ w.start = between v.start w.start (not_earlier w.start l is s') (not_earlier v.start l' is' s) in
      let end : v.end ≡ w.end = first_same is.ends (subst (λ (k : ℕ). FirstOutside space line k (length line) w.end) (sym start) is'.ends) in
      let split : v.split ≡ w.split =
      first_same is.splits (subst₂ (λ (k m : ℕ). FirstOutside equals line k m w.split) (sym start) (sym end) is'.splits) in
      ap (λ (u : Word). u ∷ vs) (same_word v w start end split) ∙ ap (λ (us : List Word). w ∷ us) (same_words w.end vs ws (subst (λ (k : ℕ). Parted line k vs) end rest) rest')

pub words_only : (line : List ℕ) (ws : List Word) → even_quotes true line ≡ true → Parted line 0 ws → ws ≡ words_of line
words_only line ws closed p = same_words 0 ws (words_of line) p (words_part line closed)
