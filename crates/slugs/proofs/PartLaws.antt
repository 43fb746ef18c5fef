-- Laws of a part of a list that is borrowed and comes back: a run of stores in the part is one in the whole.
use Prim.Native.Nat.{ℕ, suc, ◌+◌, ◌-◌, ◌≤◌}
use mathlib.Core.Path.{◌≡◌, sym, ap, ◌∙◌}
use mathlib.Core.List.{List, [], ◌∷◌, ◌++◌, append-nil}
use native.Mathlib.Omega.{arith}
use native.Mathlib.Nat.{add-suc}
use lib.ListN.{length, set, take, drop, take-append-drop, length-drop, drop_of_length-le}
use lib.Seq.{sets, take_all, take-set-le, drop-set-add, take-set-lt, drop-set-lt, length-take-le}
use borrow.Rule.Slice.PartMut.{mid_of, put_mid}
use Rattle.fields.proofs.CopyingLaws.{sets_append}
use Rattle.slugs.proofs.ListLaws.{sets_same}

pub sets_from : (vs g : List ℕ) (a i : ℕ) → take a g ++ sets (drop a g) i vs ≡ sets g (a + i) vs
sets_from [] g a i = take-append-drop a g
sets_from (v ∷ vs) g a i =
    rw (← take-set-le a g (a + i) v (omega arith), ← drop-set-add a g i v)
    (sets_from vs (set g (a + i) v) a (suc i) ∙ ap (λ (k : ℕ). sets (set g (a + i) v) k vs) (add-suc a i))

sets_within : (vs y : List ℕ) (n i : ℕ) → i + length vs ≤ n → sets (take n y) i vs ++ drop n y ≡ sets y i vs
sets_within [] y n i h = take-append-drop n y
sets_within (v ∷ vs) y n i h =
    rw (← take-set-lt n y i v (omega arith), ← drop-set-lt n y i v (omega arith)) (sets_within vs (set y i v) n (suc i) (omega arith))

-- what is stored within a part that is borrowed, is stored in the whole
pub part_sets : (a n i : ℕ) (g vs : List ℕ) → i + length vs ≤ n → put_mid a n g (sets (mid_of a n g) i vs) ≡ sets g (a + i) vs
part_sets a n i g vs h = ap (λ (l : List ℕ). take a g ++ l) (sets_within vs (drop a g) n i h) ∙ sets_from vs g a i

-- a part that comes back as it was
pub part_same : (a n : ℕ) (g : List ℕ) → put_mid a n g (mid_of a n g) ≡ g
part_same a n g = ap (λ (l : List ℕ). take a g ++ l) (take-append-drop n (drop a g)) ∙ take-append-drop a g

-- the part from a place on, to the end: what is stored past the end goes nowhere
pub rest_sets : (a : ℕ) (g vs : List ℕ) → put_mid a (length g - a) g (sets (mid_of a (length g - a) g) 0 vs) ≡ sets g a vs
rest_sets a g vs =
    let long = length-drop a g in
    let none : a + 0 ≡ a = omega arith in
    ap (λ (l : List ℕ). take a g ++ (sets l 0 vs ++ drop (length g - a) (drop a g))) (take_all (length g - a) (drop a g) (omega arith))
    ∙ ap (λ (l : List ℕ). take a g ++ (sets (drop a g) 0 vs ++ l)) (drop_of_length-le (drop a g) {i = length g - a} (omega arith))
    ∙ ap (λ (l : List ℕ). take a g ++ l) (append-nil (sets (drop a g) 0 vs))
    ∙ sets_from vs g a 0
    ∙ ap (λ (k : ℕ). sets g k vs) none

-- a run that begins with what is there
pub sets_own_from : (a n : ℕ) (g s : List ℕ) → n ≤ length (drop a g) → sets g a (take n (drop a g) ++ s) ≡ sets g (a + n) s
sets_own_from a n g s h =
    let none : a + 0 ≡ a = omega arith in
    let same : sets g a (take n (drop a g)) ≡ g =
    ap (λ (k : ℕ). sets g k (take n (drop a g))) (sym none)
    ∙ sym (sets_from (take n (drop a g)) g a 0)
    ∙ ap (λ (l : List ℕ). take a g ++ l) (sets_same (drop a g) n h)
    ∙ take-append-drop a g in
    sets_append (take n (drop a g)) s g a (a + n) (ap (λ (k : ℕ). a + k) (sym (length-take-le n (drop a g) h))) ∙ ap (λ (l : List ℕ). sets l (a + n) s) same
