-- Laws of the stream and of its pouring.
use Prim.Native.Nat.{ℕ, zero, suc, ◌+◌, ◌-◌, ◌≤◌, ◌<◌}
use mathlib.Core.Path.{◌≡◌, sym, ◌∙◌, refl, ap}
use mathlib.Core.Bool.{true, false, true≢false}
use mathlib.Core.List.{List, [], ◌∷◌, ◌++◌}
use native.Mathlib.Omega.{arith}
use native.Mathlib.Decide.{dec_le, ℕ_discrete}
use borrow.Author.Tests.{eq-eqb, ne_eqb}
use lib.Dec.{eqb}
use lib.ListN.{length, set, get_or, take, drop, length-set, get_or-eq_default}
use lib.Seq.{sets, set-append_left, get_or-set_same, get_or-set_other}
use Rattle.answers.specs.Pick.{pick}
use Rattle.fields.proofs.CopyingLaws.{sets_out}
use Rattle.guest.specs.Room.{room}
use Rattle.guest.specs.Stream.{Poke, pour, stream_at, last_at, Inside, none, goes, Stands}
use Rattle.guest.specs.declared.Memory.{Memory}
use Rattle.guest.proofs.RoomLaws.{room_size, room_part}

-- pouring keeps the length
pub length_pour : (ps : List Poke) (guest : List ℕ) → length (pour ps guest) ≡ length guest
unfolding pour
length_pour [] guest = refl
length_pour (p ∷ ps) guest = length_pour ps (set guest p.0 p.1) ∙ length-set guest p.0 p.1

-- one stream after another
pub pour_append : (ps qs : List Poke) (guest : List ℕ) → pour (ps ++ qs) guest ≡ pour qs (pour ps guest)
unfolding pour
pour_append [] qs guest = refl
pour_append (p ∷ ps) qs guest = pour_append ps qs (set guest p.0 p.1)

-- bytes from an address on are a run of stores
pub pour_at : (vs guest : List ℕ) (a : ℕ) → pour (stream_at a vs) guest ≡ sets guest a vs
unfolding pour stream_at
pour_at [] guest a = refl
pour_at (v ∷ vs) guest a = pour_at vs (set guest a v) (suc a)

-- bytes from an address past the end go nowhere
pub pour_past : (vs guest : List ℕ) (a : ℕ) → length guest ≤ a → pour (stream_at a vs) guest ≡ guest
pour_past vs guest a h = pour_at vs guest a ∙ sets_out vs guest a h

-- ---- into memory

pub inside_append : {m : Memory} {ps qs : List Poke} → Inside m ps → Inside m qs → Inside m (ps ++ qs)
inside_append none rest = rest
inside_append (goes h more) rest = goes h (inside_append more rest)

-- a part of a stream that goes into memory does too
pub inside_take : {m : Memory} (n : ℕ) {ps : List Poke} → Inside m ps → Inside m (take n ps)
inside_take zero h = none
inside_take (suc n) none = none
inside_take (suc n) (goes h rest) = goes h (inside_take n rest)

pub inside_drop : {m : Memory} (n : ℕ) {ps : List Poke} → Inside m ps → Inside m (drop n ps)
inside_drop zero h = h
inside_drop (suc n) none = none
inside_drop (suc n) (goes h rest) = inside_drop n rest

-- bytes that have room together have it one by one
pub inside_at : (m : Memory) (a n : ℕ) (vs : List ℕ) → room m a n ≡ true → length vs ≤ n → Inside m (stream_at a vs)
unfolding stream_at
inside_at m a n vs has few = go vs a (omega arith) (omega arith)
  where
    go : (us : List ℕ) (x : ℕ) → a ≤ x → x + length us ≤ a + n → Inside m (stream_at x us)
    go [] x from below = none
    go (u ∷ us) x from below = goes {p = (x, u)} (room_part m a n x 1 has from (omega arith)) (go us (suc x) (omega arith) (omega arith))

-- a stream that goes into memory leaves what is added behind the slice as it is
pub pour_longer : (ps : List Poke) (guest more : List ℕ) (m : Memory) → Inside m ps → m.size ≤ length guest
    → pour ps (guest ++ more) ≡ pour ps guest ++ more
unfolding pour
pour_longer [] guest more m h fits = refl
pour_longer (p ∷ ps) guest more m (goes h rest) fits =
    let lies = room_size m p.0 1 h in
    rw (set-append_left guest more p.0 p.1 (omega arith))
    (pour_longer ps (set guest p.0 p.1) more m rest (simp length-set fits))

-- and no byte without room changes
pub pour_hole : (ps : List Poke) (guest : List ℕ) (m : Memory) → Inside m ps → (a : ℕ) → room m a 1 ≡ false → get_or (pour ps guest) a 0 ≡ get_or guest a 0
unfolding pour
pour_hole [] guest m h a hole = refl
pour_hole (p ∷ ps) guest m (goes h rest) a hole =
    pour_hole ps (set guest p.0 p.1) m rest a hole
    ∙ get_or-set_other guest p.0 a p.1 0 (λ e. let w : true ≡ false = sym h ∙ ap (λ x. room m x 1) (sym e) ∙ hole in absurd (true≢false w))

-- ---- byte by byte

-- one store, seen at an address of memory
set_seen : (guest : List ℕ) (x a v : ℕ) → a < length guest → get_or (set guest x v) a 0 ≡ pick (eqb x a) v (get_or guest a 0)
unfolding pick
set_seen guest x a v h = split (ℕ_discrete x a)
  where
    split : Dec (x ≡ a) → get_or (set guest x v) a 0 ≡ pick (eqb x a) v (get_or guest a 0)
    split (yes e) = rw (eq-eqb x a e, e) (get_or-set_same guest a v 0 h)
    split (no n) = rw (ne_eqb x a n) (get_or-set_other guest x a v 0 (λ e. n (sym e)))

-- the last poke at an address decides
pub last_decides : (ps : List Poke) (guest : List ℕ) (a : ℕ) → a < length guest → get_or (pour ps guest) a 0 ≡ last_at ps a (get_or guest a 0)
unfolding pour last_at
last_decides [] guest a h = refl
last_decides (p ∷ ps) guest a h =
    last_decides ps (set guest p.0 p.1) a (simp length-set (omega arith)) ∙ ap (last_at ps a) (set_seen guest p.0 a p.1 h)

pub last_append : (ps qs : List Poke) (a b : ℕ) → last_at (ps ++ qs) a b ≡ last_at qs a (last_at ps a b)
unfolding last_at
last_append [] qs a b = refl
last_append (p ∷ ps) qs a b = last_append ps qs a (pick (eqb p.0 a) p.1 b)

-- bytes from an address x on: outside of them nothing is decided, and inside the byte there
pub last_outside : (vs : List ℕ) (x a b : ℕ) → (x ≤ a → a < x + length vs → ⊥) → last_at (stream_at x vs) a b ≡ b
unfolding last_at stream_at pick
last_outside [] x a b out = refl
last_outside (v ∷ vs) x a b out =
    ap (λ t. last_at (stream_at (suc x) vs) a (pick t v b)) (ne_eqb x a (λ e. out (omega arith) (omega arith)))
    ∙ last_outside vs (suc x) a b (λ le lt. out (omega arith) (omega arith))

pub last_inside : (vs : List ℕ) (x a b : ℕ) → x ≤ a → a < x + length vs → last_at (stream_at x vs) a b ≡ get_or vs (a - x) 0
unfolding last_at stream_at pick
last_inside [] x a b le lt = absurd (omega arith)
last_inside (v ∷ vs) x a b le lt = split (dec_le (suc x) a) (λ h. last_inside vs (suc x) a (pick (eqb x a) v b) h (omega arith))
  where
    split : Dec (suc x ≤ a) → (suc x ≤ a → last_at (stream_at (suc x) vs) a (pick (eqb x a) v b) ≡ get_or vs (a - suc x) 0)
        → last_at (stream_at (suc x) vs) a (pick (eqb x a) v b) ≡ get_or (v ∷ vs) (a - x) 0
    split (yes h) rest = rest h ∙ ap (λ k. get_or (v ∷ vs) k 0) (let e : suc (a - suc x) ≡ a - x = omega arith in e)
    split (no h) rest =
        let e : x ≡ a = omega arith in
        last_outside vs (suc x) a (pick (eqb x a) v b) (λ le' lt'. h le')
        ∙ rw (eq-eqb x a e) (ap (λ k. get_or (v ∷ vs) k 0) (let z : 0 ≡ a - x = omega arith in z))

-- bytes poured where they have room, if there are any, stand there
module _ (bytes : List ℕ) (address : ℕ) (guest : List ℕ) (m : Memory) (has : 0 < length bytes → room m address (length bytes) ≡ true)
    (fits : m.size ≤ length guest) where
  abbrev poured : List ℕ
  poured = pour (stream_at address bytes) guest

  lies : (i : ℕ) → i < length bytes → address + i < length guest
  lies i h = let sum = room_size m address (length bytes) (has (omega arith)) in omega arith

  at_byte : (i : ℕ) → i < length bytes → get_or poured (address + i) 0 ≡ get_or bytes i 0
  at_byte i h =
      last_decides (stream_at address bytes) guest (address + i) (lies i h)
      ∙ last_inside bytes address (address + i) (get_or guest (address + i) 0) (omega arith) (omega arith)
      ∙ ap (λ k. get_or bytes k 0) (let same : address + i - address ≡ i = omega arith in same)

  elsewhere : (a : ℕ) → (address ≤ a → a < address + length bytes → ⊥) → get_or poured a 0 ≡ get_or guest a 0
  elsewhere a out = split (dec_le (suc a) (length guest))
    where
      split : Dec (suc a ≤ length guest) → get_or poured a 0 ≡ get_or guest a 0
      split (yes h) = last_decides (stream_at address bytes) guest a h ∙ last_outside bytes address a (get_or guest a 0) out
      split (no h) =
          let len = length_pour (stream_at address bytes) guest in
          get_or-eq_default poured 0 {n = a} (omega arith) ∙ sym (get_or-eq_default guest 0 {n = a} (omega arith))

  pub poured_stands : {after : List ℕ} → after ≡ poured → Stands bytes address guest after
  poured_stands e =
      record {
        as_long = ap length e ∙ length_pour (stream_at address bytes) guest;
        in_guest = lies;
        covered = λ i h. ap (λ l. get_or l (address + i) 0) e ∙ at_byte i h;
        untouched = λ a out. ap (λ l. get_or l a 0) e ∙ elsewhere a out;
      }
