-- What a load writes, as a stream: bytes with their addresses, in the order in which they are written; and guest memory after it.
use Rattle.std.specs.Prelude.{◌≡◌, true, List, [], ◌∷◌, ℕ, suc, ◌+◌, ◌≤◌, ◌<◌, eqb, length, get_or, set, take, drop}
use Rattle.answers.specs.Pick.{pick}
use Rattle.guest.specs.Room.{room}
use Rattle.guest.specs.declared.Memory.{Memory}

-- an address, and the byte that goes there
abbrev pub Poke : Type 0
Poke = ℕ × ℕ

-- guest memory after a stream was poured into it, each byte in turn; a byte past the end goes nowhere
unfoldable pub pour : List Poke → List ℕ → List ℕ
pour [] guest = guest
pour (p ∷ ps) guest = pour ps (set guest p.0 p.1)

-- the stream of bytes that go to an address and those after it
unfoldable pub stream_at : ℕ → List ℕ → List Poke
stream_at address [] = []
stream_at address (v ∷ vs) = (address, v) ∷ stream_at (suc address) vs

-- n bytes of an image from a place on, as far as the image goes
abbrev pub bytes_at : List ℕ → ℕ → ℕ → List ℕ
bytes_at image place n = take n (drop place image)

-- the byte that a stream leaves at an address where a byte stood: the last poke there decides
unfoldable pub last_at : List Poke → ℕ → ℕ → ℕ
last_at [] address byte = byte
last_at (p ∷ ps) address byte = last_at ps address (pick (eqb p.0 address) p.1 byte)

-- every byte of a stream has room in memory
pub data Inside (m : Memory) : List Poke → Type 0 where
  none : Inside m []
  goes : {p : Poke} {ps : List Poke} → room m p.0 1 ≡ true → Inside m ps → Inside m (p ∷ ps)

-- bytes stand in guest memory from an address on, each of them at a place of it, and nothing else has changed
pub record Stands (bytes : List ℕ) (address : ℕ) (guest after : List ℕ) : Type 0 where
  pub as_long : length after ≡ length guest
  pub in_guest : (i : ℕ) → i < length bytes → address + i < length guest
  pub covered : (i : ℕ) → i < length bytes → get_or after (address + i) 0 ≡ get_or bytes i 0
  pub untouched : (a : ℕ) → (address ≤ a → a < address + length bytes → ⊥) → get_or after a 0 ≡ get_or guest a 0
