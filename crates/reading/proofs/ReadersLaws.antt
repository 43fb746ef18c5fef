-- A reader that goes from number to number reads what a slice and a place would: it stands at the place, or, where no number of 64 bits
-- says that place, at the greatest one, and reads 0 at both.
use Prim.Native.Nat.{ℕ, ◌+◌, ◌≤◌, min}
use mathlib.Core.Path.{◌≡◌, sym, ◌∙◌, ap}
use mathlib.Core.List.{List}
use native.Mathlib.Omega.{arith}
use native.Mathlib.Decide.{dec_le}
use denote.Ref.{Bor}
use lib.ListN.{length}
use Rattle.fields.specs.Numbers.{le}
use Rattle.fields.specs.Ranges.{top64}
use Rattle.fields.proofs.NumbersLaws.{le_past}
use Rattle.guest.specs.declared.ImagePlace.{ImagePlace}
use Rattle.reading.specs.declared.Reader.{Reader}
use Rattle.reading.specs.declared.Taken.{Taken}
use Rattle.reading.specs.Places.{width_of}
use Rattle.reading.specs.Readers.{reader_at, Takes}

-- a reader of this image stands at p
pub record StandsAt (image : Bor (List ℕ)) (p : ℕ) (reader : Reader) : Type 0 where
  pub over : reader.image ≡ image
  pub at_place : reader.at.0 ≡ min p top64

pub new_stands : (image : Bor (List ℕ)) (at : ImagePlace) {reader : Reader} → at.0 ≤ top64 → reader ≡ reader_at image at → StandsAt image at.0 reader
new_stands image at small e =
    record {
      over = ap (λ (r : Reader). r.image) e;
      at_place = ap (λ (r : Reader). r.at.0) e ∙ (let same : at.0 ≡ min at.0 top64 = omega arith in same);
    }

-- past the end every number is 0, so a place beyond the greatest number reads as that number does
le_clipped : (n : ℕ) (s : List ℕ) (p : ℕ) → length s ≤ top64 → le n s (min p top64) ≡ le n s p
le_clipped n s p short = split (dec_le p top64)
  where
    split : Dec (p ≤ top64) → le n s (min p top64) ≡ le n s p
    split (yes h) = ap (le n s) (let same : min p top64 ≡ p = omega arith in same)
    split (no h) = le_past n s (min p top64) (omega arith) ∙ sym (le_past n s p (omega arith))

module _ (image : Bor (List ℕ)) (p width : ℕ) {reader : Reader} {t : Taken} (stands : StandsAt image p reader) (takes : Takes reader width t) where
  -- the number that is taken
  pub reads_there : length image.now ≤ top64 → t.value ≡ le (width_of width) image.now p
  reads_there short =
      takes.number.value
      ∙ ap (λ (i : Bor (List ℕ)). le (width_of width) i.now reader.at.0) stands.over
      ∙ ap (le (width_of width) image.now) stands.at_place
      ∙ le_clipped (width_of width) image.now p short

  -- and where the reader stands then
  pub stands_past : StandsAt image (p + width_of width) t.rest
  stands_past =
      record {
        over = ap (λ (r : Reader). r.image) takes.past ∙ stands.over;
        at_place =
            let there = stands.at_place in
            ap (λ (r : Reader). r.at.0) takes.past
            ∙ (let same : min (reader.at.0 + width_of width) top64 ≡ min (p + width_of width) top64 = omega arith in same);
      }
