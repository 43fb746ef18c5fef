-- A load in portions: parts of the image, each for one address; and how far a budget of bytes goes over them.
use Rattle.std.specs.Prelude.{◌≡◌, true, List, [], ◌++◌, ℕ, zero, suc, ◌+◌, ◌-◌, ◌≤◌, ◌<◌, min, leb, length, take, drop}
use Rattle.answers.specs.Pick.{pick}
use Rattle.fields.specs.Ranges.{lies_within}
use Rattle.guest.specs.Room.{room}
use Rattle.guest.specs.Stream.{Poke, stream_at, bytes_at, pour}
use Rattle.guest.specs.Loading.{Plan}
use Rattle.guest.specs.declared.Memory.{Memory}
use Rattle.guest.specs.declared.Part.{Part}
use Rattle.guest.specs.declared.Portion.{Portion}

-- the bytes of a part, at its address
unfoldable pub part_stream : List ℕ → Part → List Poke
part_stream image p = stream_at p.address.0 (bytes_at image p.place.0 p.size)

-- a part of no bytes
abbrev pub no_part : Part
no_part = record { address = record { 0 = 0 }; place = record { 0 = 0 }; size = 0 }

-- a part, where its bytes stand in an image of this length and have room in memory, else none
unfoldable pub kept_part : ℕ → Memory → Part → Part
kept_part imageLength m p = pick (lies_within imageLength p.place.0 p.size) (pick (room m p.address.0 p.size) p no_part) no_part

-- a part whose bytes stand in an image of this length and, if there are any, have room in memory
pub record PartLies (imageLength : ℕ) (m : Memory) (p : Part) : Type 0 where
  pub in_image : p.place.0 + p.size ≤ imageLength
  pub in_slice : p.address.0 + p.size ≤ m.size
  pub has_room : 0 < p.size → room m p.address.0 p.size ≡ true

-- a part that fits: its bytes, if it has any, stand in an image of this length and have room in memory
pub record Fits (imageLength : ℕ) (m : Memory) (p : Part) : Type 0 where
  pub in_image : 0 < p.size → lies_within imageLength p.place.0 p.size ≡ true
  pub in_guest : 0 < p.size → room m p.address.0 p.size ≡ true

-- of a part: how many of q bytes fall into it, and how many bytes it has left after them
abbrev pub passed_in : Part → ℕ → ℕ
passed_in p q = min q p.size

abbrev pub left_in : Part → ℕ → ℕ
left_in p q = p.size - passed_in p q

-- what a copy of a part after its first `skip` bytes says and leaves, at most a budget of bytes: the part's size, how many were copied, memory
pub record PartCopied (image : List ℕ) (p : Part) (skip budget : ℕ) (before : List ℕ) (size count : ℕ) (after : List ℕ) : Type 0 where
  pub all : size ≡ p.size
  pub counted : count ≡ min budget (left_in p skip)
  pub memory : after ≡ pour (take budget (drop skip (part_stream image p))) before

-- k parts from part i on, one after another
unfoldable pub parts_from : ℕ → List ℕ → (ℕ → Part) → ℕ → List Poke
parts_from zero image part i = []
parts_from (suc k) image part i = part_stream image (part i) ++ parts_from k image part (suc i)

-- what is left of n parts at part i, q of whose bytes are done
abbrev pub left_of : ℕ → List ℕ → (ℕ → Part) → ℕ → ℕ → List Poke
left_of n image part i q = drop q (parts_from (n - i) image part i)

-- where a budget ends, over k parts from part i on, q of whose bytes are done: at the end, or within the first part that it does not cover
pub record Place : Type 0 where
  pub at : ℕ
  pub done : ℕ

unfoldable pub place_after : ℕ → (ℕ → Part) → ℕ → ℕ → ℕ → Place
place_after zero part i q budget = record { at = i; done = 0 }
place_after (suc k) part i q budget =
    pick (leb (left_in (part i) q) budget)
    (place_after k part (suc i) (q - passed_in (part i) q) (budget - left_in (part i) q))
    (record { at = i; done = passed_in (part i) q + budget })

-- a portion: where it ends, how many bytes it copies, and whether nothing is left after it
abbrev pub portion_of : ℕ → List ℕ → (ℕ → Part) → ℕ → ℕ → ℕ → Plan Portion
portion_of n image part i q budget = record {
  answer = record {
    at = (place_after (n - i) part i q budget).at;
    done = (place_after (n - i) part i q budget).done;
    copied = min budget (length (parts_from (n - i) image part i) - q);
    all = leb (length (parts_from (n - i) image part i) - q) budget;
  };
  stream = take budget (left_of n image part i q);
}
