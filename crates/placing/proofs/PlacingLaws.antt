-- What an answer of `place` or `place_high` says. Each law is of both, in either order.
use Rattle.std.specs.Prelude.{Some, None, Option}
use Prim.Native.Nat.{ℕ, zero, suc, ◌+◌, ◌*◌, ◌/◌, ◌%◌, ◌≤◌, ◌<◌, max}
use mathlib.Core.Path.{◌≡◌, refl, sym, ◌∙◌, ap}
use mathlib.Core.Bool.{Bool, true}
use mathlib.Core.List.{List, [], ◌∷◌}
use native.Mathlib.Omega.{arith}
use native.Mathlib.Decide.{dec_le}
use lib.ListN.{length, get_or}
use Rattle.answers.proofs.BoolLaws.{both_held, hold_both}
use Rattle.fields.specs.Ranges.{apart, Among}
use Rattle.fields.proofs.ApartLaws.{apart_none, none_apart}
use Rattle.guest.specs.Maps.{Range}
use Rattle.guest.specs.Room.{room}
use Rattle.guest.specs.declared.GuestAddress.{GuestAddress}
use Rattle.guest.specs.declared.Memory.{Memory}
use Rattle.guest.proofs.RoomLaws.{room_for_none, room_for_some}
use Rattle.placing.specs.Placing.{pairs_from, ranges_in, apart_from, Fits, First, first, nowhere, Below, Above}
use Rattle.placing.specs.declared.Wanted.{Wanted}
use Rattle.placing.specs.declared.Wanted.TheVariants.{Lowest, Highest}
use Rattle.placing.specs.Search.{Order}

-- ---- there is one answer: two addresses of which neither comes before the other are the same

one_first : {before : ℕ → ℕ → Type 0} {P : ℕ → Type 0} {r r' : Option GuestAddress}
    → ((a b : ℕ) → (before a b → ⊥) → (before b a → ⊥) → a ≡ b) → First before P r → First before P r' → r ≡ r'
one_first same (first {a = a} p none) (first {a = b} q none') =
    ap (λ (x : ℕ). Some (record { 0 = x })) (same a.0 b.0 (λ h. none' a.0 h p) (λ h. none b.0 h q))
one_first same (first {a = a} p none) (nowhere none') = absurd (none' a.0 p)
one_first same (nowhere none) (first {a = b} q none') = absurd (none b.0 q)
one_first same (nowhere none) (nowhere none') = refl

neither : (a b : ℕ) → (a < b → ⊥) → (b < a → ⊥) → a ≡ b
neither a b h k = by (dec_le (suc a) b) (dec_le (suc b) a)
  where
    by : Dec (suc a ≤ b) → Dec (suc b ≤ a) → a ≡ b
    by (yes l) any = absurd (h l)
    by (no l) (yes l') = absurd (k l')
    by (no l) (no l') = omega arith

pub lowest_one : {P : ℕ → Type 0} {r r' : Option GuestAddress} → First Below P r → First Below P r' → r ≡ r'
lowest_one p q = one_first neither p q

pub highest_one : {P : ℕ → Type 0} {r r' : Option GuestAddress} → First Above P r → First Above P r' → r ≡ r'
highest_one p q = one_first (λ a b h k. neither a b k h) p q

pub order_one : (wanted : Wanted) {P : ℕ → Type 0} {r r' : Option GuestAddress} → First (Order wanted) P r → First (Order wanted) P r' → r ≡ r'
unfolding Order
order_one Lowest p q = lowest_one p q
order_one Highest p q = highest_one p q

-- ---- what is placed, by its index

module _ (numbers : List ℕ) (a n : ℕ) where
  -- from the first range, and from the rest
  abbrev from_first : ℕ → Bool
  from_first at = apart (get_or numbers at 0) (get_or numbers (suc at) 0) a n

  abbrev from_rest : ℕ → ℕ → Bool
  from_rest k at = apart_from (pairs_from k numbers (suc (suc at))) a n

  apart_at : (k at j : ℕ) {start size : ℕ} → apart_from (pairs_from k numbers at) a n ≡ true → j < k
      → start ≡ at + 2 * j → size ≡ suc start → apart (get_or numbers start 0) (get_or numbers size 0) a n ≡ true
  unfolding apart_from pairs_from
  apart_at zero at j e lt es ez = absurd (omega arith)
  apart_at (suc k) at zero {start} {size} e lt es ez =
      let start_is : start ≡ at = omega arith in
      let size_is : size ≡ suc at = omega arith in
      rw (start_is, size_is) (both_held (from_first at) (from_rest k at) e).0
  apart_at (suc k) at (suc j) e lt es ez =
      apart_at k (suc (suc at)) j (both_held (from_first at) (from_rest k at) e).1 (omega arith) (omega arith) ez

-- 0 bytes are apart from everything
apart_empty : (qs : List Range) (a : ℕ) → apart_from qs a 0 ≡ true
unfolding apart_from
apart_empty [] a = refl
apart_empty (q ∷ qs) a =
    hold_both (apart q.0 q.1 a 0) (apart_from qs a 0) (none_apart q.0 q.1 a 0 none) (apart_empty qs a)
  where
    none : (x : ℕ) → Among x q.0 q.1 → Among x a 0 → ⊥
    none x in-q in-a = let from = in-a.from in let below = in-a.below in absurd (omega arith)

-- ---- what an answer says

module _ {before : ℕ → ℕ → Type 0} {m : Memory} {placed : List ℕ} {low high align n : ℕ} where
  -- what is given fits
  pub placed_fits : {a : GuestAddress} → First before (Fits m placed low high align n) (Some a)
      → Fits m placed low high align n a.0
  placed_fits (first f none) = f

  -- it has room, if it is not empty
  pub placed_room : {a : GuestAddress} → First before (Fits m placed low high align n) (Some a) → 0 < n
      → room m a.0 n ≡ true
  placed_room {a} p some = sym (room_for_some m a.0 n some) ∙ (placed_fits p).has_room

  -- it shares no address with a range of the list
  pub placed_apart : {a : GuestAddress} → First before (Fits m placed low high align n) (Some a) → (i : ℕ)
      → 2 * i + 1 < length placed → (x : ℕ) → Among x (get_or placed (2 * i) 0) (get_or placed (2 * i + 1) 0)
      → Among x a.0 n → ⊥
  placed_apart {a} p i lt x =
      apart_none (get_or placed (2 * i) 0) (get_or placed (2 * i + 1) 0) a.0 n
      (apart_at placed a.0 n (length placed / 2) 0 i (placed_fits p).is_apart (omega arith) (omega arith)
      (omega arith)) x

  -- None exactly if no address fits
  pub nothing_none : First before (Fits m placed low high align n) None
      → (x : ℕ) → Fits m placed low high align n x → ⊥
  nothing_none (nowhere none) = none

  pub none_nothing : {r : Option GuestAddress} → First before (Fits m placed low high align n) r
      → ((x : ℕ) → Fits m placed low high align n x → ⊥) → r ≡ None
  none_nothing (first {a = a} f none) no_one = absurd (no_one a.0 f)
  none_nothing (nowhere none) no_one = refl

-- an empty piece fits at every multiple within the bounds
pub empty_fits : (m : Memory) (placed : List ℕ) (low high align a : ℕ) → low ≤ a → a ≤ high → a % max align 1 ≡ 0
    → Fits m placed low high align 0 a
empty_fits m placed low high align a above below aligned =
    record {
      above = above;
      below = omega arith;
      aligned = aligned;
      has_room = room_for_none m a 0 refl;
      is_apart = apart_empty (ranges_in placed) a;
    }
