-- Laws of the counted size, of what an insertion is charged, and of room.
use Prim.Native.Nat.{ℕ, ◌+◌, ◌-◌, ◌≤◌, ◌<◌}
use mathlib.Core.Path.{◌≡◌, refl, sym, ap, ◌∙◌}
use mathlib.Core.Bool.{Bool, true, false}
use mathlib.Core.List.{List, [], ◌∷◌, ◌++◌}
use native.Mathlib.Omega.{arith}
use native.Mathlib.Decide.{dec_le}
use lib.Dec.{leb, eqb}
use lib.ListN.{length, length-append}
use borrow.Author.Tests.{le-leb, lt-leb, eqb-true, ne_eqb}
use Rattle.answers.specs.Pick.{pick}
use Rattle.answers.proofs.PickLaws.{pick_with}
use Rattle.cmdline.specs.Text.{size_of, boot_gap, init_gap}
use Rattle.slugs.specs.Joining.{space_after, joined}

-- ---- sizes

-- both parts lie within the counted size, and the zero with the boot text
pub size_boot : (b i : ℕ) → b + 1 ≤ size_of b i
unfolding size_of
size_boot b i = omega arith

pub size_init : (b i : ℕ) → i + 1 ≤ size_of b i
unfolding size_of
size_init b i =
    pick_with (λ n. i + 1 ≤ b + 1 + n) (eqb i 0) (λ e. let z = eqb-true i 0 e in omega arith) (λ e. omega arith)

pub size_most : (b i : ℕ) → size_of b i ≤ b + 1 + (4 + i)
unfolding size_of
size_most b i = pick_with (λ n. b + 1 + n ≤ b + 1 + (4 + i)) (eqb i 0) (λ e. omega arith) (λ e. omega arith)

pub boot_gap_most : (b : ℕ) → boot_gap b ≤ 1
unfolding boot_gap
boot_gap_most b = pick_with (λ n. n ≤ 1) (eqb b 0) (λ e. omega arith) (λ e. omega arith)

pub init_gap_most : (i : ℕ) → init_gap i ≤ 4
unfolding init_gap
init_gap_most i = pick_with (λ n. n ≤ 4) (eqb i 0) (λ e. omega arith) (λ e. omega arith)

-- ---- joined texts

space_long : (n : ℕ) → length (space_after n) ≡ boot_gap n
unfolding space_after boot_gap pick
space_long n = split (eqb n 0)
  where
    split : (t : Bool) → length (pick {A = List ℕ} t [] (32 ∷ [])) ≡ pick t 0 1
    split true = refl
    split false = refl

pub joined_long : (b s : List ℕ) → length (joined b s) ≡ length b + boot_gap (length b) + length s
joined_long b s =
    let g = space_long (length b) in
    length-append b (space_after (length b) ++ s) ∙ rw (length-append (space_after (length b)) s, g) (omega arith)

-- the length of a text of n bytes after s was put behind it
pub after_long : (n : ℕ) (s : List ℕ) → n + length (space_after n ++ s) ≡ n + boot_gap n + length s
after_long n s = let g = space_long n in let whole = length-append (space_after n) s in omega arith

-- the counted size after an insertion: what room was asked for, or less
pub size_after_boot : (b i g n : ℕ) → size_of (b + g + n) i ≡ size_of b i + g + n
unfolding size_of
size_after_boot b i g n = omega arith

pub size_after_init : (b i n : ℕ) → size_of b (i + boot_gap i + n) ≤ size_of b i + init_gap i + n
unfolding size_of boot_gap init_gap pick
size_after_init b i n = split (eqb i 0) refl
  where
    later : (t : Bool) (x k : ℕ) → 4 + x ≤ k → pick t 0 (4 + x) ≤ k
    later true x k h = omega arith
    later false x k h = h

    split : (t : Bool) → eqb i 0 ≡ t
        → b + 1 + pick (eqb (i + pick t 0 1 + n) 0) 0 (4 + (i + pick t 0 1 + n)) ≤ b + 1 + pick t 0 (4 + i) + pick t 4 1 + n
    split true e =
        let z = eqb-true i 0 e in
        let l = later (eqb (i + 0 + n) 0) (i + 0 + n) (4 + n) (omega arith) in
        omega arith
    split false e = let l = later (eqb (i + 1 + n) 0) (i + 1 + n) (4 + i + 1 + n) (omega arith) in omega arith

-- an init text with what joins it to the next lies within what is asked for
pub init_asked : (b i : ℕ) → i + boot_gap i ≤ size_of b i + init_gap i
unfolding size_of boot_gap init_gap pick
init_asked b i = split (eqb i 0) refl
  where
    split : (t : Bool) → eqb i 0 ≡ t → i + pick t 0 1 ≤ b + 1 + pick t 0 (4 + i) + pick t 4 1
    split true e = let z = eqb-true i 0 e in omega arith
    split false e = omega arith

-- ---- room

-- ---- two lengths within a room, with nothing summed

module _ (room b i : ℕ) where
  pub fits_none : {r : Bool} → i ≡ 0 → r ≡ leb (b + 1) room → r ≡ leb (size_of b i) room
  unfolding size_of pick
  fits_none e er = er ∙ rw e (ap (λ (k : ℕ). leb k room) (let same : b + 1 ≡ b + 1 + 0 = omega arith in same))

  pub fits_some : {r : Bool} → (i ≡ 0 → ⊥) → b < room → r ≡ leb (4 + i) (room - b - 1) → r ≡ leb (size_of b i) room
  unfolding size_of pick
  fits_some some h er = er ∙ rw (ne_eqb i 0 some) (split (dec_le (4 + i) (room - b - 1)))
    where
      split : Dec (4 + i ≤ room - b - 1) → leb (4 + i) (room - b - 1) ≡ leb (b + 1 + (4 + i)) room
      split (yes k) = le-leb (4 + i) (room - b - 1) k ∙ sym (le-leb (b + 1 + (4 + i)) room (omega arith))
      split (no k) = lt-leb (4 + i) (room - b - 1) (omega arith) ∙ sym (lt-leb (b + 1 + (4 + i)) room (omega arith))

  pub fits_not : room ≤ b → false ≡ leb (size_of b i) room
  fits_not h = let size = size_boot b i in sym (lt-leb (size_of b i) room (omega arith))
