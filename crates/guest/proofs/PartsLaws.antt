-- Laws of parts and portions. A portion is `take` and `drop` on the stream of all parts; a loop over the parts keeps `Goes`.
use Prim.Native.Nat.{ℕ, zero, suc, ◌+◌, ◌-◌, ◌≤◌, ◌<◌, min}
use mathlib.Core.Path.{◌≡◌, sym, ◌∙◌, refl, ap, subst, subst⁻¹}
use mathlib.Core.Bool.{Bool, true, false}
use mathlib.Core.List.{List, [], ◌∷◌, ◌++◌}
use native.Mathlib.Omega.{arith}
use native.Mathlib.Nat.{sub-zero}
use native.Mathlib.Decide.{dec_le}
use borrow.Author.Tests.{le-leb, lt-leb, leb-true, leb-false}
use lib.Dec.{leb}
use lib.ListN.{length, take, drop, length-take, length-drop, length-append, drop_of_length-le}
use lib.Seq.{take-nil, drop-nil, drop-drop}
use Rattle.answers.specs.Pick.{pick}
use Rattle.answers.proofs.PickLaws.{pick_with}
use Rattle.fields.specs.Ranges.{lies_within}
use Rattle.fields.proofs.RangesLaws.{within_sum}
use Rattle.guest.specs.Room.{room}
use Rattle.guest.specs.Stream.{Poke, pour, stream_at, bytes_at, Inside, none}
use Rattle.guest.specs.Loading.{Loads}
use Rattle.guest.specs.Parts.{part_stream, no_part, kept_part, PartLies, Fits, PartCopied, parts_from, left_of, Place, place_after, portion_of}
use Rattle.guest.specs.declared.Memory.{Memory}
use Rattle.guest.specs.declared.Part.{Part}
use Rattle.guest.specs.declared.Portion.{Portion}
use Rattle.guest.proofs.RoomLaws.{room_size}
use Rattle.guest.proofs.StreamLaws.{pour_append, inside_append, inside_at}

-- ---- lists

take_append {ℓ} : {A : Type ℓ} (b : ℕ) (xs ys : List A) → take b (xs ++ ys) ≡ take b xs ++ take (b - length xs) ys
take_append b [] ys = ap (λ n. take n ys) (sym (sub-zero b)) ∙ ap (λ r. r ++ take (b - 0) ys) (sym (take-nil b))
take_append zero (x ∷ xs) ys = ap (λ n. take n ys) (let e : 0 ≡ 0 - suc (length xs) = omega arith in e)
take_append (suc b) (x ∷ xs) ys = ap (λ r. x ∷ r) (take_append b xs ys ∙ ap (λ n. take b xs ++ take n ys) (let e : b - length xs ≡ suc b - suc (length xs) = omega arith in e))

drop_append {ℓ} : {A : Type ℓ} (q : ℕ) (xs ys : List A) → drop q (xs ++ ys) ≡ drop q xs ++ drop (q - length xs) ys
drop_append q [] ys = ap (λ n. drop n ys) (sym (sub-zero q)) ∙ ap (λ r. r ++ drop (q - 0) ys) (sym (drop-nil q))
drop_append zero (x ∷ xs) ys = ap (λ n. (x ∷ xs) ++ drop n ys) (let e : 0 ≡ 0 - suc (length xs) = omega arith in e)
drop_append (suc q) (x ∷ xs) ys = drop_append q xs ys ∙ ap (λ n. drop q xs ++ drop n ys) (let e : q - length xs ≡ suc q - suc (length xs) = omega arith in e)

-- a portion that goes over a seam
portion_append {ℓ} : {A : Type ℓ} (b q : ℕ) (xs ys : List A)
    → take b (drop q (xs ++ ys)) ≡ take b (drop q xs) ++ take (b - (length xs - q)) (drop (q - length xs) ys)
portion_append b q xs ys = rw (drop_append q xs ys, take_append b (drop q xs) (drop (q - length xs) ys), length-drop q xs)

take_at : (b a : ℕ) (vs : List ℕ) → take b (stream_at a vs) ≡ stream_at a (take b vs)
unfolding stream_at
take_at zero a vs = refl
take_at (suc b) a [] = refl
take_at (suc b) a (v ∷ vs) = ap (λ r. (a, v) ∷ r) (take_at b (suc a) vs)

drop_at : (q a : ℕ) (vs : List ℕ) → drop q (stream_at a vs) ≡ stream_at (a + q) (drop q vs)
unfolding stream_at
drop_at zero a vs = ap (λ n. stream_at n vs) (let e : a ≡ a + 0 = omega arith in e)
drop_at (suc q) a [] = refl
drop_at (suc q) a (v ∷ vs) = drop_at q (suc a) vs ∙ ap (λ n. stream_at n (drop q vs)) (let e : suc a + q ≡ a + suc q = omega arith in e)

pub length_at : (a : ℕ) (vs : List ℕ) → length (stream_at a vs) ≡ length vs
unfolding stream_at
length_at a [] = refl
length_at a (v ∷ vs) = ap suc (length_at (suc a) vs)

take_min {ℓ} : {A : Type ℓ} (b m : ℕ) (xs : List A) → take b (take m xs) ≡ take (min b m) xs
take_min zero m xs = ap (λ n. take n xs) (let e : 0 ≡ min 0 m = omega arith in e)
take_min (suc b) zero xs = ap (λ n. take n xs) (let e : 0 ≡ min (suc b) 0 = omega arith in e)
take_min (suc b) (suc m) [] = sym (take-nil (min (suc b) (suc m)))
take_min (suc b) (suc m) (x ∷ xs) = ap (λ r. x ∷ r) (take_min b m xs) ∙ ap (λ n. take n (x ∷ xs)) (let e : suc (min b m) ≡ min (suc b) (suc m) = omega arith in e)

drop_take {ℓ} : {A : Type ℓ} (q z : ℕ) (xs : List A) → drop q (take z xs) ≡ take (z - q) (drop q xs)
drop_take zero z xs = ap (λ n. take n xs) (let e : z ≡ z - 0 = omega arith in e)
drop_take (suc q) zero xs = ap (λ n. take n (drop (suc q) xs)) (let e : 0 ≡ 0 - suc q = omega arith in e)
drop_take (suc q) (suc z) [] = sym (take-nil (suc z - suc q))
drop_take (suc q) (suc z) (x ∷ xs) = drop_take q z xs ∙ ap (λ n. take n (drop q xs)) (let e : z - q ≡ suc z - suc q = omega arith in e)

-- ---- one part

module _ (image : List ℕ) (p : Part) where
  part_within : (skip budget : ℕ) {passed n : ℕ} → passed ≡ skip → n ≡ min budget (p.size - skip)
      → stream_at (p.address.0 + passed) (bytes_at image (p.place.0 + passed) n) ≡ take budget (drop skip (part_stream image p))
  unfolding part_stream
  part_within skip budget ep en =
      rw (
        ep,
        en,
        drop_at skip p.address.0 (bytes_at image p.place.0 p.size),
        take_at budget (p.address.0 + skip) (drop skip (bytes_at image p.place.0 p.size)),
        drop_take skip p.size (drop p.place.0 image),
        take_min budget (p.size - skip) (drop skip (drop p.place.0 image)),
        drop-drop skip p.place.0 image,
      )

  part_past : (passed : ℕ) {n : ℕ} → n ≡ 0 → stream_at (p.address.0 + passed) (bytes_at image (p.place.0 + passed) n) ≡ []
  unfolding stream_at
  part_past passed en = rw en

module _ (image : List ℕ) (p : Part) (fits : p.place.0 + p.size ≤ length image) where
  pub part_length : length (part_stream image p) ≡ p.size
  unfolding part_stream
  part_length = length_at p.address.0 (bytes_at image p.place.0 p.size) ∙ simp (length-take, length-drop) (omega arith)

  pub part_portion : (skip budget : ℕ) {passed n : ℕ} → passed ≡ min skip p.size → n ≡ min budget (p.size - passed)
      → stream_at (p.address.0 + passed) (bytes_at image (p.place.0 + passed) n) ≡ take budget (drop skip (part_stream image p))
  part_portion skip budget {passed} {n} ep en = split (dec_le skip p.size)
    where
      split : Dec (skip ≤ p.size) → stream_at (p.address.0 + passed) (bytes_at image (p.place.0 + passed) n) ≡ take budget (drop skip (part_stream image p))
      split (yes h) = part_within image p skip budget (let e : passed ≡ skip = omega arith in e) (let e : n ≡ min budget (p.size - skip) = omega arith in e)
      split (no h) =
          part_past image p passed (let e : n ≡ 0 = omega arith in e)
          ∙ sym (ap (take budget) (drop_of_length-le (part_stream image p) {i = skip} (subst⁻¹ (λ k. k ≤ skip) part_length (omega arith))) ∙ take-nil budget)

pub none_stands : (imageLength : ℕ) (m : Memory) → PartLies imageLength m no_part
none_stands imageLength m = record { in_image = omega arith; in_slice = omega arith; has_room = λ some. absurd (omega arith) }

-- what is kept stands in the image and has room
pub kept_stands : (imageLength : ℕ) (m : Memory) (p : Part) → PartLies imageLength m (kept_part imageLength m p)
unfolding kept_part
kept_stands imageLength m p =
    pick_with (PartLies imageLength m) _
    (λ in_image. pick_with (PartLies imageLength m) _
    (λ has_room. record { in_image = within_sum imageLength p.place.0 p.size in_image; in_slice = room_size m p.address.0 p.size has_room; has_room = λ _. has_room })
    (λ _. none_stands imageLength m))
    (λ _. none_stands imageLength m)

-- a part of no bytes keeps none, and one that fits is kept as it is
pub kept_none : (imageLength : ℕ) (m : Memory) (p : Part) → p.size ≡ 0 → (kept_part imageLength m p).size ≡ 0
unfolding kept_part
kept_none imageLength m p e =
    pick_with (λ (x : Part). x.size ≡ 0) _ (λ _. pick_with (λ (x : Part). x.size ≡ 0) _ (λ _. e) (λ _. refl)) (λ _. refl)

pub kept_fits : (imageLength : ℕ) (m : Memory) (p : Part) → lies_within imageLength p.place.0 p.size ≡ true → room m p.address.0 p.size ≡ true
    → kept_part imageLength m p ≡ p
unfolding kept_part pick
kept_fits imageLength m p in_image in_guest = rw (in_image, in_guest)

-- ---- parts that fit

pub none_fits : (imageLength : ℕ) (m : Memory) → Fits imageLength m no_part
none_fits imageLength m = record { in_image = λ some. absurd (omega arith); in_guest = λ some. absurd (omega arith) }

pub empty_stream : (image : List ℕ) (p : Part) → p.size ≡ 0 → part_stream image p ≡ []
unfolding part_stream stream_at
empty_stream image p e = rw e

-- testing such a part again changes nothing of what it writes
pub fits_kept : (image : List ℕ) (m : Memory) (p : Part) → Fits (length image) m p → part_stream image (kept_part (length image) m p) ≡ part_stream image p
fits_kept image m p fits = split (dec_le 1 p.size)
  where
    split : Dec (1 ≤ p.size) → part_stream image (kept_part (length image) m p) ≡ part_stream image p
    split (yes some) = ap (part_stream image) (kept_fits (length image) m p (fits.in_image some) (fits.in_guest some))
    split (no empty) =
        let e : p.size ≡ 0 = omega arith in
        empty_stream image (kept_part (length image) m p) (kept_none (length image) m p e) ∙ sym (empty_stream image p e)

pub parts_kept : (k : ℕ) (image : List ℕ) (m : Memory) (part : ℕ → Part) (i : ℕ) → ((j : ℕ) → i ≤ j → j < i + k → Fits (length image) m (part j))
    → parts_from k image (λ j. kept_part (length image) m (part j)) i ≡ parts_from k image part i
unfolding parts_from
parts_kept zero image m part i fits = refl
parts_kept (suc k) image m part i fits =
    rw (
      fits_kept image m (part i) (fits i (omega arith) (omega arith)),
      parts_kept k image m part (suc i) (λ j le lt. fits j (omega arith) (omega arith)),
    )

-- what a copy of a part that was tested says
pub copied_is : (image : List ℕ) (m : Memory) (p : Part) (skip budget : ℕ) (guest : List ℕ) {safe : Part} {passed n : ℕ} {after : List ℕ}
    → safe ≡ kept_part (length image) m p → passed ≡ min skip safe.size → n ≡ min budget (safe.size - passed)
    → after ≡ pour (stream_at (safe.address.0 + passed) (bytes_at image (safe.place.0 + passed) n)) guest
    → PartCopied image (kept_part (length image) m p) skip budget guest safe.size n after
copied_is image m p skip budget guest {safe} {passed} {n} {after} is ep en wrote =
    subst (λ x. PartCopied image x skip budget guest safe.size n after) is
    (record {
      all = refl;
      counted = en ∙ ap (λ x. min budget (safe.size - x)) ep;
      memory =
          wrote
          ∙ ap (λ ps. pour ps guest) (part_portion image safe (subst⁻¹ (PartLies (length image) m) is (kept_stands (length image) m p)).in_image skip budget ep en);
    })

nothing_inside : (m : Memory) (a : ℕ) (vs : List ℕ) → vs ≡ [] → Inside m (stream_at a vs)
unfolding stream_at
nothing_inside m a vs e = rw e none

pub part_inside : (image : List ℕ) (m : Memory) (p : Part) → PartLies (length image) m p → Inside m (part_stream image p)
unfolding part_stream
part_inside image m p keeps = split (dec_le 1 p.size)
  where
    split : Dec (1 ≤ p.size) → Inside m (stream_at p.address.0 (bytes_at image p.place.0 p.size))
    split (yes some) = inside_at m p.address.0 p.size (bytes_at image p.place.0 p.size) (keeps.has_room some) (simp length-take (omega arith))
    split (no empty) = nothing_inside m p.address.0 (bytes_at image p.place.0 p.size) (let z : p.size ≡ 0 = omega arith in ap (λ k. take k (drop p.place.0 image)) z)

-- ---- numbers

sub_min : (a b : ℕ) → a - min a b ≡ a - b
sub_min a b = omega arith

sub_min' : (q l : ℕ) → l - min q l ≡ l - q
sub_min' q l = omega arith

left_after : (left size q : ℕ) {passed k : ℕ} → passed ≡ min q size → k ≡ min left (size - passed) → left - k ≡ left - (size - q)
left_after left size q {passed} {k} ep ek = two (let e : size - passed ≡ size - q = omega arith in e)
  where
    two : size - passed ≡ size - q → left - k ≡ left - (size - q)
    two e = ap (λ x. left - x) (ek ∙ ap (min left) e) ∙ sub_min left (size - q)

skip_after : (q size : ℕ) {passed : ℕ} → passed ≡ min q size → q - passed ≡ q - size
skip_after q size e = rw e (omega arith)

count_core : (budget left d rest : ℕ) → left ≤ budget → budget - (left - d) + min (left - d) rest ≡ budget - left + min left (d + rest)
count_core budget left d rest h = omega arith

count_after : (budget left size q rest : ℕ) → left ≤ budget
    → budget - (left - (size - q)) + min (left - (size - q)) (rest - (q - size)) ≡ budget - left + min left (size + rest - q)
count_after budget left size q rest h = at (dec_le q size)
  where
    at : Dec (q ≤ size) → budget - (left - (size - q)) + min (left - (size - q)) (rest - (q - size)) ≡ budget - left + min left (size + rest - q)
    at (yes le) =
        let e1 : q - size ≡ 0 = omega arith in
        let e2 : size + rest - q ≡ (size - q) + rest = omega arith in
        rw (e1, e2, sub-zero rest) (count_core budget left (size - q) rest h)
    at (no lt) =
        let e1 : size - q ≡ 0 = omega arith in
        let e2 : size + rest - q ≡ rest - (q - size) = omega arith in
        rw (e1, e2, sub-zero left)

-- the same test before and after a part that is covered
pub leb_same : (a b c d : ℕ) → (a ≤ b → c ≤ d) → (c ≤ d → a ≤ b) → leb a b ≡ leb c d
leb_same a b c d to from = split (dec_le a b)
  where
    split : Dec (a ≤ b) → leb a b ≡ leb c d
    split (yes h) = le-leb a b h ∙ sym (le-leb c d (to h))
    split (no h) = lt-leb a b (omega arith) ∙ sym (lt-leb c d (beyond (dec_le c d)))
      where
        beyond : Dec (c ≤ d) → d < c
        beyond (yes l) = absurd (h (from l))
        beyond (no l) = omega arith

end_after : (left size q rest : ℕ) → size - q ≤ left → leb (rest - (q - size)) (left - (size - q)) ≡ leb (size + rest - q) left
end_after left size q rest covered = at (dec_le q size)
  where
    at : Dec (q ≤ size) → leb (rest - (q - size)) (left - (size - q)) ≡ leb (size + rest - q) left
    at (yes le) = leb_same (rest - (q - size)) (left - (size - q)) (size + rest - q) left (λ h. omega arith) (λ h. omega arith)
    at (no lt) = leb_same (rest - (q - size)) (left - (size - q)) (size + rest - q) left (λ h. omega arith) (λ h. omega arith)

stop_numbers : (left size q : ℕ) {passed k : ℕ} → passed ≡ min q size → k ≡ min left (size - passed) → k < size - passed → (passed ≡ q) × (k ≡ left) × (left < size - q)
stop_numbers left size q ep ek lt = (omega arith, omega arith, omega arith)

-- nothing is poured
pour_nothing : {n : ℕ} (ps : List Poke) (guest : List ℕ) → n ≡ 0 → pour (take n ps) guest ≡ guest
unfolding pour
pour_nothing ps guest e = rw e

-- what a test picks
first_picked : {A : Type 0} {b : Bool} (x y : A) → b ≡ true → pick b x y ≡ x
unfolding pick
first_picked x y e = rw e

second_picked : {A : Type 0} {b : Bool} (x y : A) → b ≡ false → pick b x y ≡ y
unfolding pick
second_picked x y e = rw e

-- ---- part after part, as a loop goes

module _ (image : List ℕ) (part : ℕ → Part) (n at done budget : ℕ) (before : List ℕ) where
  -- at part i, q of whose bytes are done, with so much budget left and memory as it is: what is to come leads to what the whole portion says
  pub record Goes (i q left : ℕ) (now : List ℕ) : Type 0 where
    pub within : left ≤ budget
    pub poured : pour (take left (left_of n image part i q)) now ≡ pour (take budget (left_of n image part at done)) before
    pub counted : budget - left + min left (length (parts_from (n - i) image part i) - q) ≡ min budget (length (parts_from (n - at) image part at) - done)
    pub placed : place_after (n - i) part i q left ≡ place_after (n - at) part at done budget
    pub ended : leb (length (parts_from (n - i) image part i) - q) left ≡ leb (length (parts_from (n - at) image part at) - done) budget

  pub goes_start : Goes at done budget before
  goes_start = record { within = omega arith; poured = refl; counted = omega arith; placed = refl; ended = refl }

  module _ (i q left : ℕ) (now : List ℕ) (goes : Goes i q left now) {p : Part} (is : p ≡ part i) (lt : i < n) (fits : p.place.0 + p.size ≤ length image) where
    abbrev rest : List Poke
    rest = parts_from (n - suc i) image part (suc i)

    parts_next : parts_from (n - i) image part i ≡ part_stream image p ++ rest
    unfolding parts_from
    parts_next = rw (let e : n - i ≡ suc (n - suc i) = omega arith in e, is)

    length_next : length (parts_from (n - i) image part i) ≡ p.size + length rest
    length_next = ap length parts_next ∙ length-append (part_stream image p) rest ∙ ap (λ k. k + length rest) (part_length image p fits)

    pour_next : (guest : List ℕ) → pour (take left (left_of n image part i q)) guest ≡ pour (take (left - (p.size - q)) (drop (q - p.size) rest)) (pour (take left (drop q (part_stream image p))) guest)
    pour_next guest =
        ap (λ ps. pour (take left (drop q ps)) guest) parts_next
        ∙ ap (λ ps. pour ps guest) (portion_append left q (part_stream image p) rest)
        ∙ pour_append (take left (drop q (part_stream image p))) (take (left - (length (part_stream image p) - q)) (drop (q - length (part_stream image p)) rest)) guest
        ∙ ap (λ k. pour (take (left - (k - q)) (drop (q - k) rest)) (pour (take left (drop q (part_stream image p))) guest)) (part_length image p fits)

    place_next : place_after (n - i) part i q left
        ≡ pick (leb (p.size - min q p.size) left) (place_after (n - suc i) part (suc i) (q - min q p.size) (left - (p.size - min q p.size))) (record { at = i; done = min q p.size + left })
    unfolding place_after
    place_next = rw (let e : n - i ≡ suc (n - suc i) = omega arith in e, is)

    module _ {passed k : ℕ} (ep : passed ≡ min q p.size) (ek : k ≡ min left (p.size - passed)) {after : List ℕ}
        (wrote : after ≡ pour (take left (drop q (part_stream image p))) now) where
      el : left - k ≡ left - (p.size - q)
      el = left_after left p.size q ep ek

      eq : q - passed ≡ q - p.size
      eq = skip_after q p.size ep

      -- the budget covers the part: on to the next
      pub goes_on : p.size - passed ≤ k → {next : ℕ} → next ≡ suc i → Goes next (q - passed) (left - k) after
      goes_on covers {next} en = subst⁻¹ (λ j. Goes j (q - passed) (left - k) after) en (record { within = inside; poured = poured'; counted = counted'; placed = placed'; ended = ended' })
        where
          inside : left - k ≤ budget
          inside = let w = goes.within in omega arith

          covered : p.size - q ≤ left
          covered = omega arith

          poured' : pour (take (left - k) (left_of n image part (suc i) (q - passed))) after ≡ pour (take budget (left_of n image part at done)) before
          poured' = rw (el, eq, wrote) (sym (pour_next now) ∙ goes.poured)

          counted' : budget - (left - k) + min (left - k) (length rest - (q - passed)) ≡ min budget (length (parts_from (n - at) image part at) - done)
          counted' =
              ap (λ x. budget - x + min x (length rest - (q - passed))) el
              ∙ ap (λ x. budget - (left - (p.size - q)) + min (left - (p.size - q)) (length rest - x)) eq
              ∙ count_after budget left p.size q (length rest) goes.within
              ∙ ap (λ x. budget - left + min left (x - q)) (sym length_next)
              ∙ goes.counted

          placed' : place_after (n - suc i) part (suc i) (q - passed) (left - k) ≡ place_after (n - at) part at done budget
          placed' =
              ap (λ x. place_after (n - suc i) part (suc i) x (left - k)) (ap (λ x. q - x) ep)
              ∙ ap (λ x. place_after (n - suc i) part (suc i) (q - min q p.size) (left - x)) (let e : k ≡ p.size - min q p.size = omega arith in e)
              ∙ sym (place_next ∙ first_picked _ _ (le-leb (p.size - min q p.size) left (omega arith)))
              ∙ goes.placed

          ended' : leb (length rest - (q - passed)) (left - k) ≡ leb (length (parts_from (n - at) image part at) - done) budget
          ended' =
              ap (λ x. leb (length rest - x) (left - k)) eq
              ∙ ap (λ x. leb (length rest - (q - p.size)) x) el
              ∙ end_after left p.size q (length rest) covered
              ∙ ap (λ x. leb (x - q) left) (sym length_next)
              ∙ goes.ended

      -- it does not: the portion ends within the part
      pub goes_stop : k < p.size - passed → {d : ℕ} → d ≡ passed + k → Loads (portion_of n image part at done budget) before (record { at = i; done = d; copied = budget; all = false }) after
      goes_stop short {d} ed = record { answer = rw (← stop_place, ← stop_count, ← stop_end, done_is); memory = stop_memory }
        where
          numbers : (passed ≡ q) × (k ≡ left) × (left < p.size - q)
          numbers = stop_numbers left p.size q ep ek short

          done_is : d ≡ min q p.size + left
          done_is = ed ∙ ap (λ x. x + k) ep ∙ ap (λ x. min q p.size + x) numbers.1

          stop_place : record { at = i; done = min q p.size + left } ≡ place_after (n - at) part at done budget
          stop_place = sym (place_next ∙ second_picked _ _ (lt-leb (p.size - min q p.size) left (omega arith))) ∙ goes.placed

          stop_count : budget ≡ min budget (length (parts_from (n - at) image part at) - done)
          stop_count = (let w = goes.within in let l = length_next in let e : budget ≡ budget - left + min left (length (parts_from (n - i) image part i) - q) = omega arith in e) ∙ goes.counted

          stop_end : false ≡ leb (length (parts_from (n - at) image part at) - done) budget
          stop_end = sym (lt-leb (length (parts_from (n - i) image part i) - q) left (let l = length_next in omega arith)) ∙ goes.ended

          stop_memory : after ≡ pour (take budget (left_of n image part at done)) before
          stop_memory =
              wrote
              ∙ sym (pour_next now ∙ pour_nothing (drop (q - p.size) rest) (pour (take left (drop q (part_stream image p))) now) (let e : left - (p.size - q) ≡ 0 = omega arith in e))
              ∙ goes.poured

  -- a turn of a loop over the parts, as `copy_part` says it: q bytes of the part, or all of it, are passed
  module _ (i q left : ℕ) (now : List ℕ) (goes : Goes i q left now) (lt : i < n) (fits : (part i).place.0 + (part i).size ≤ length image) {size count passed : ℕ}
      {after : List ℕ} (copied : PartCopied image (part i) q left now size count after) (ep : passed ≡ min q size) where
    passed_is : passed ≡ min q (part i).size
    passed_is = ep ∙ ap (min q) copied.all

    count_is : count ≡ min left ((part i).size - passed)
    count_is = copied.counted ∙ ap (λ x. min left ((part i).size - x)) (sym passed_is)

    pub turn_on : size - passed ≤ count → {next : ℕ} → next ≡ suc i → Goes next (q - passed) (left - count) after
    turn_on covers en =
        goes_on i q left now goes refl lt fits passed_is count_is copied.memory (subst (λ x. x - passed ≤ count) copied.all covers) en

    pub turn_stop : count < size - passed → {d : ℕ} → d ≡ passed + count
        → Loads (portion_of n image part at done budget) before (record { at = i; done = d; copied = budget; all = false }) after
    turn_stop short ed =
        goes_stop i q left now goes refl lt fits passed_is count_is copied.memory (subst (λ x. count < x - passed) copied.all short) ed

  -- no part is left
  module _ (i q left : ℕ) (now : List ℕ) (goes : Goes i q left now) (past : n ≤ i) where
    none_left : parts_from (n - i) image part i ≡ []
    unfolding parts_from
    none_left = rw (let e : n - i ≡ 0 = omega arith in e)

    end_place : record { at = i; done = 0 } ≡ place_after (n - i) part i q left
    unfolding place_after
    end_place = rw (let e : n - i ≡ 0 = omega arith in e)

    end_memory : pour (take left (left_of n image part i q)) now ≡ now
    unfolding pour
    end_memory = ap (λ ps. pour (take left (drop q ps)) now) none_left ∙ rw (drop-nil q, take-nil left)

    pub goes_end : Loads (portion_of n image part at done budget) before (record { at = i; done = 0; copied = budget - left; all = true }) now
    goes_end = record {
      answer = rw (← goes.placed, ← end_place, ← goes.counted, ← goes.ended, end_count, end_all);
      memory = sym end_memory ∙ goes.poured;
    }
      where
        end_count : budget - left + min left (length (parts_from (n - i) image part i) - q) ≡ budget - left
        end_count = let l = ap length none_left in omega arith

        end_all : leb (length (parts_from (n - i) image part i) - q) left ≡ true
        end_all = le-leb (length (parts_from (n - i) image part i) - q) left (let l = ap length none_left in omega arith)

-- a portion from a part, by its number
pub portion_at : (image : List ℕ) (part : ℕ → Part) (n done budget : ℕ) (guest : List ℕ) {at from : ℕ} {r : Portion} {after : List ℕ} → at ≡ from
    → Loads (portion_of n image part from done budget) guest r after → Loads (portion_of n image part at done budget) guest r after
portion_at image part n done budget guest {r = r} {after = after} e loads =
    subst⁻¹ (λ k. Loads (portion_of n image part k done budget) guest r after) e loads

-- a portion from past the last part on: nothing is left
pub portion_past : (image : List ℕ) (part : ℕ → Part) (n at done budget : ℕ) (guest : List ℕ) → n ≤ at
    → Loads (portion_of n image part at done budget) guest (record { at = at; done = 0; copied = 0; all = true }) guest
portion_past image part n at done budget guest past =
    let ended = goes_end image part n at done budget guest at done budget guest (goes_start image part n at done budget guest) past in
    subst (λ k. Loads (portion_of n image part at done budget) guest (record { at = at; done = 0; copied = k; all = true }) guest)
    (let e : budget - budget ≡ 0 = omega arith in e) ended

-- ---- every portion lies in memory

pub parts_inside : (image : List ℕ) (m : Memory) (part : ℕ → Part) → ((j : ℕ) → PartLies (length image) m (part j)) → (k i : ℕ) → Inside m (parts_from k image part i)
unfolding parts_from
parts_inside image m part keep zero i = none
parts_inside image m part keep (suc k) i = inside_append (part_inside image m (part i) (keep i)) (parts_inside image m part keep k (suc i))

-- ---- what is left after a portion

module _ (n : ℕ) (image : List ℕ) (part : ℕ → Part) (fits : (j : ℕ) → (part j).place.0 + (part j).size ≤ length image) where
  past_part : (i q budget : ℕ) (ps rest : List Poke) → length ps ≡ (part i).size → (part i).size - min q (part i).size ≤ budget
      → drop (budget - ((part i).size - min q (part i).size)) (drop (q - min q (part i).size) rest) ≡ drop budget (drop q (ps ++ rest))
  past_part i q budget ps rest el covered =
      let e1 : q - min q (part i).size ≡ q - length ps = ap (λ x. q - min q x) (sym el) ∙ sub_min q (length ps) in
      let e2 : (part i).size - min q (part i).size ≡ length ps - q = ap (λ x. x - min q x) (sym el) ∙ sub_min' q (length ps) in
      rw (
        e1,
        e2,
        drop_append q ps rest,
        drop_append budget (drop q ps) (drop (q - length ps) rest),
        length-drop q ps,
        drop_of_length-le (drop q ps) {i = budget} (simp length-drop (omega arith)),
      )

  pub left_after_portion : (k i q budget : ℕ) → n ≡ i + k
      → left_of n image part (place_after k part i q budget).at (place_after k part i q budget).done ≡ drop budget (drop q (parts_from k image part i))
  unfolding place_after parts_from
  left_after_portion zero i q budget en = rw (let e : n - i ≡ 0 = omega arith in e, drop-nil q, drop-nil budget)
  left_after_portion (suc k) i q budget en =
      pick_with (λ (place : Place). left_of n image part place.at place.done ≡ drop budget (drop q (part_stream image (part i) ++ parts_from k image part (suc i)))) _
      (λ covered. left_after_portion k (suc i) (q - min q (part i).size) (budget - ((part i).size - min q (part i).size)) (omega arith)
      ∙ past_part i q budget (part_stream image (part i)) (parts_from k image part (suc i)) (part_length image (part i) (fits i)) (leb-true _ _ covered))
      (λ short. stopped (leb-false _ _ short))
    where
      stopped : budget < (part i).size - min q (part i).size
          → drop (min q (part i).size + budget) (parts_from (n - i) image part i) ≡ drop budget (drop q (part_stream image (part i) ++ parts_from k image part (suc i)))
      stopped short =
          rw (let e : n - i ≡ suc k = omega arith in e, let e : min q (part i).size + budget ≡ q + budget = omega arith in e)
          (sym (drop-drop budget q (part_stream image (part i) ++ parts_from k image part (suc i))))
