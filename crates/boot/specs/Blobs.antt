-- Bytes at an address: a line, a ramdisk, a page, a start block, a device tree.
use Rattle.std.specs.Prelude.{ℕ, ◌+◌, ◌<◌, ◌≡◌, true, List, [], ◌∷◌, ◌++◌, length, get_or}
use Rattle.fields.specs.Ranges.{apart, Among}
use Rattle.guest.specs.Stream.{Poke, stream_at}

-- an address, and the bytes from there on
abbrev pub Blob : Type 0
Blob = ℕ × List ℕ

-- what writes them, one after the other
unfoldable pub stream_of : List Blob → List Poke
stream_of [] = []
stream_of (b ∷ bs) = stream_at b.0 b.1 ++ stream_of bs

-- one of these
pub data OneOf : Blob → List Blob → Type 0 where
  first : {b : Blob} {bs : List Blob} → OneOf b (b ∷ bs)
  next : {b c : Blob} {bs : List Blob} → OneOf b bs → OneOf b (c ∷ bs)

-- the bytes are in guest memory, from the address on
pub record Holds (b : Blob) (guest : List ℕ) : Type 0 where
  pub in_guest : (i : ℕ) → i < length b.1 → b.0 + i < length guest
  pub byte : (i : ℕ) → i < length b.1 → get_or guest (b.0 + i) 0 ≡ get_or b.1 i 0

-- an address belongs to none of them
abbrev pub OutOf : ℕ → List Blob → Type 0
OutOf a bs = (b : Blob) → OneOf b bs → Among a b.0 (length b.1) → ⊥

-- one is apart from each of these
abbrev pub ApartFrom : Blob → List Blob → Type 0
ApartFrom b [] = Unit {0}
ApartFrom b (c ∷ cs) = (apart b.0 (length b.1) c.0 (length c.1) ≡ true) × ApartFrom b cs

-- each is apart from those after it
abbrev pub AllApart : List Blob → Type 0
AllApart [] = Unit {0}
AllApart (b ∷ bs) = ApartFrom b bs × AllApart bs
