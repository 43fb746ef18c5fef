-- Laws of a run of stores, `sets`, as a copy makes it.
use Prim.Native.Nat.{ℕ, zero, suc, ◌+◌, ◌-◌, ◌≤◌, ◌<◌, min}
use mathlib.Core.Path.{◌≡◌, refl, sym, ap, ◌∙◌}
use mathlib.Core.List.{List, [], ◌∷◌, ◌++◌}
use native.Mathlib.Omega.{arith}
use native.Mathlib.Decide.{dec_le}
use Rattle.std.proofs.lemmas.List.{take_all, append-nil}
use Rattle.std.proofs.Common.{append_assoc}
use borrow.Rule.Slice.PartMut.{put_mid}
use lib.ListN.{length, set, get_or, take, drop, length-set, length-take, length-drop, take-append-drop, drop_of_length-le}
use lib.Seq.{sets, sets-eq, length-sets, set_out, drop-drop, get_or-set_other}

-- stores past the end change nothing
pub sets_out : (vs l : List ℕ) (i : ℕ) → length l ≤ i → sets l i vs ≡ l
sets_out [] l i h = refl
sets_out (v ∷ vs) l i h = sets_out vs (set l i v) (suc i) (simp length-set (omega arith)) ∙ set_out l i v h

-- nothing is left to store where either list has ended
pub sets_done : (vs l : List ℕ) (i : ℕ) → min (length vs) (length l) ≤ i → sets l i (drop i vs) ≡ l
sets_done vs l i h = split (dec_le (length vs) i)
  where
    split : Dec (length vs ≤ i) → sets l i (drop i vs) ≡ l
    split (yes p) = rw (drop_of_length-le vs p)
    split (no n) = sets_out (drop i vs) l i (omega arith)

-- a place at or past the end may be any other such place
pub sets_clipped : (vs l : List ℕ) (p q : ℕ) → q ≡ min p (length l) → sets l q vs ≡ sets l p vs
sets_clipped vs l p q e = split (dec_le (length l) p)
  where
    split : Dec (length l ≤ p) → sets l q vs ≡ sets l p vs
    split (yes h) = sets_out vs l q (omega arith) ∙ sym (sets_out vs l p h)
    split (no n) = let same : q ≡ p = omega arith in rw same

-- stores in two parts
pub sets_append : (xs ys l : List ℕ) (p q : ℕ) → q ≡ p + length xs → sets l p (xs ++ ys) ≡ sets (sets l p xs) q ys
sets_append [] ys l p q e = let same : p ≡ q = omega arith in ap (λ (k : ℕ). sets l k ys) same
sets_append (x ∷ xs) ys l p q e = sets_append xs ys (set l p x) (suc p) q (omega arith)

-- stores above a place, stores that end below it, and so all stores elsewhere, keep its byte
pub sets_below : (vs l : List ℕ) (i p : ℕ) → p < i → get_or (sets l i vs) p 0 ≡ get_or l p 0
sets_below [] l i p h = refl
sets_below (v ∷ vs) l i p h = sets_below vs (set l i v) (suc i) p (omega arith) ∙ get_or-set_other l i p v 0 (λ e. absurd (omega arith))

pub sets_above : (vs l : List ℕ) (i p : ℕ) → i + length vs ≤ p → get_or (sets l i vs) p 0 ≡ get_or l p 0
sets_above [] l i p h = refl
sets_above (v ∷ vs) l i p h = sets_above vs (set l i v) (suc i) p (omega arith) ∙ get_or-set_other l i p v 0 (λ e. absurd (omega arith))

pub sets_outside : (vs l : List ℕ) (i p : ℕ) → (i ≤ p → p < i + length vs → ⊥) → get_or (sets l i vs) p 0 ≡ get_or l p 0
sets_outside vs l i p out = split (dec_le i p) (dec_le (i + length vs) p)
  where
    split : Dec (i ≤ p) → Dec (i + length vs ≤ p) → get_or (sets l i vs) p 0 ≡ get_or l p 0
    split (no below) above = sets_below vs l i p (omega arith)
    split (yes low) (yes above) = sets_above vs l i p above
    split (yes low) (no high) = absurd (out low (omega arith))

-- a run of no stores
pub sets_none : (vs l : List ℕ) (i : ℕ) → length vs ≡ 0 → sets l i vs ≡ l
sets_none [] l i e = refl
sets_none (v ∷ vs) l i e = absurd (omega arith)

-- stores behind the first element
pub sets_behind : (vs l : List ℕ) (x i : ℕ) → sets (x ∷ l) (suc i) vs ≡ x ∷ sets l i vs
sets_behind [] l x i = refl
sets_behind (v ∷ vs) l x i = sets_behind vs (set l i v) x (suc i)

-- stores over a whole list leave what was stored
pub sets_whole : (vs l : List ℕ) → length l ≡ length vs → sets l 0 vs ≡ vs
sets_whole [] [] e = refl
sets_whole [] (x ∷ l) e = absurd (omega arith)
sets_whole (v ∷ vs) [] e = absurd (omega arith)
sets_whole (v ∷ vs) (x ∷ l) e = sets_behind vs l v 0 ∙ ap (λ (t : List ℕ). v ∷ t) (sets_whole vs l (omega arith))

-- stores from a place on are stores at the front of what is there
pub sets_rest : (vs l : List ℕ) (n : ℕ) → n ≤ length l → take n l ++ sets (drop n l) 0 vs ≡ sets l n vs
sets_rest vs l zero h = refl
sets_rest vs [] (suc n) h = absurd (omega arith)
sets_rest vs (x ∷ l) (suc n) h = ap (λ (t : List ℕ). x ∷ t) (sets_rest vs l n (omega arith)) ∙ sym (sets_behind vs l x n)

-- ---- a block of k bytes, the same part of both lists

block_put : (src l part : List ℕ) (i k : ℕ) → i + k ≤ length src → i + k ≤ length l → part ≡ take k (drop i src) → put_mid i k l part ≡ sets l i (take k (drop i src))
block_put src l part i k hs hl e =
    let block = take k (drop i src) in
    let long : length block ≡ k = length-take k (drop i src) ∙ omega (arith, length-drop i src) in
    rw (e, sets-eq block l i (rw long hl), long, drop-drop k i l, append_assoc (take i l) (take k (drop i src)) (drop (i + k) l))

-- a block, then the rest
pub blocks_next : (src l part : List ℕ) (i k next : ℕ) → next ≡ i + k → next ≤ length src → next ≤ length l → part ≡ take k (drop i src)
    → sets (put_mid i k l part) next (drop next src) ≡ sets l i (drop i src)
blocks_next src l part i k next e hs hl ep =
    rw (block_put src l part i k (omega arith) (omega arith) ep, e)
    (ap (sets (sets l i (take k (drop i src))) (i + k)) (sym (drop-drop k i src))
    ∙ sym (sets_append (take k (drop i src)) (drop k (drop i src)) l i (i + k) (rw (length-take k (drop i src), length-drop) (omega arith)))
    ∙ ap (sets l i) (take-append-drop k (drop i src)))

-- ---- a part, from a place on

-- what is stored in the rest of a list from a place on, clipped to its end
pub put_rest : (vs l part : List ℕ) (n at : ℕ) → n ≡ min at (length l) → part ≡ sets (take (length l - n) (drop n l)) 0 vs
    → put_mid n (length l - n) l part ≡ sets l at vs
put_rest vs l part n at e ep =
    let low : n ≤ length l = omega arith in
    let rest : take (length l - n) (drop n l) ≡ drop n l = take_all (length l - n) (drop n l) (omega (arith, length-drop n l)) in
    let none : drop (length l - n) (drop n l) ≡ [] = drop_of_length-le (drop n l) (omega (arith, length-drop n l)) in
    rw (ep, rest, none, append-nil (sets (drop n l) 0 vs)) (sets_rest vs l n low ∙ sets_clipped vs l at n e)
