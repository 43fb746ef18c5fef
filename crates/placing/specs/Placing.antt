-- Where a piece can go in guest memory: at the lowest, or at the highest, address at which it fits.
use Rattle.std.specs.Prelude.{ℕ, zero, suc, ◌+◌, ◌/◌, ◌%◌, ◌≤◌, ◌<◌, max, ◌≡◌, Bool, true, ◌&&◌}
use Rattle.std.specs.Prelude.{List, [], ◌∷◌, length, get_or, Some, None, Option}
use Rattle.fields.specs.Ranges.{apart}
use Rattle.guest.specs.Maps.{Range}
use Rattle.guest.specs.Room.{room_for}
use Rattle.guest.specs.declared.GuestAddress.{GuestAddress}
use Rattle.guest.specs.declared.Memory.{Memory}

-- ---- what is placed already: a list of numbers, start, size, start, size ..

-- k ranges of a list of numbers, from element i on
unfoldable pub pairs_from : ℕ → List ℕ → ℕ → List Range
pairs_from zero numbers i = []
pairs_from (suc k) numbers i = (get_or numbers i 0, get_or numbers (suc i) 0) ∷ pairs_from k numbers (suc (suc i))

-- its ranges; a single number at the end is no range, and is ignored
abbrev pub ranges_in : List ℕ → List Range
ranges_in numbers = pairs_from (length numbers / 2) numbers 0

-- are n bytes at an address apart from each of these ranges?
unfoldable pub apart_from : List Range → ℕ → ℕ → Bool
apart_from [] a n = true
apart_from (q ∷ qs) a n = apart q.0 q.1 a n && apart_from qs a n

-- ---- what fits, and the first and the last address that does

-- n bytes fit at an address: within the bounds, at a multiple of the alignment, of which 0 counts as 1, in one range of
-- guest memory, and apart from what is placed. 0 bytes need no room, and are apart from everything
pub record Fits (m : Memory) (placed : List ℕ) (low high align n a : ℕ) : Type 0 where
  pub above : low ≤ a
  pub below : a + n ≤ high
  pub aligned : a % max align 1 ≡ 0
  pub has_room : room_for m a n ≡ true
  pub is_apart : apart_from (ranges_in placed) a n ≡ true

-- the first address, in an order, of which something holds; None if it holds of none
pub data First (before : ℕ → ℕ → Type 0) (P : ℕ → Type 0) : Option GuestAddress → Type 0 where
  first : {a : GuestAddress} → P a.0 → ((x : ℕ) → before x a.0 → P x → ⊥) → First before P (Some a)
  nowhere : ((x : ℕ) → P x → ⊥) → First before P None

-- the two orders: from the lowest address up, and from the highest down
abbrev pub Below : ℕ → ℕ → Type 0
Below = λ x y. x < y

abbrev pub Above : ℕ → ℕ → Type 0
Above = λ x y. y < x

-- first fit: the lowest address at which n bytes fit. With more memory it may be lower
abbrev pub FirstFit : Memory → List ℕ → ℕ → ℕ → ℕ → ℕ → Option GuestAddress → Type 0
FirstFit m placed low high align n r = First Below (Fits m placed low high align n) r

-- last fit: the highest. With more memory it may be higher
abbrev pub LastFit : Memory → List ℕ → ℕ → ℕ → ℕ → ℕ → Option GuestAddress → Type 0
LastFit m placed low high align n r = First Above (Fits m placed low high align n) r
