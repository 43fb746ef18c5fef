-- The sentence "the returned header holds the load address's low 32 bits in `code32_start`, all else as read", byte by byte, with the
-- bytes past the image as 0. `header::header_with` answers this header.
use Prim.Native.Nat.{ℕ, zero, suc, ◌+◌, ◌<◌}
use mathlib.Core.Path.{◌≡◌, ◌∙◌, refl, ap}
use mathlib.Core.List.{List}
use native.Mathlib.Omega.{arith}
use lib.ListN.{length, get_or}
use lib.Seq.{length-sets}
use Rattle.fields.specs.Numbers.{le_bytes}
use Rattle.fields.proofs.CopyingLaws.{sets_outside}
use Rattle.fields.proofs.HasBytesLaws.{stored_at}
use Rattle.fields.proofs.NumbersLaws.{length_le_bytes, le_low}
use Rattle.bzimage.specs.SetupHeader.{header_size, header_start}
use Rattle.bzimage.specs.Header.{bytes_from, header_read, header_of}
use Rattle.bzimage.specs.Returned.{start_at, Returned}

-- ---- the bytes as read

pub length_bytes : (n : ℕ) (s : List ℕ) (p : ℕ) → length (bytes_from n s p) ≡ n
unfolding bytes_from
length_bytes zero s p = refl
length_bytes (suc n) s p = ap suc (length_bytes n s (suc p))

pub byte_of : (n : ℕ) (s : List ℕ) (p i : ℕ) → i < n → get_or (bytes_from n s p) i 0 ≡ get_or s (p + i) 0
unfolding bytes_from
byte_of zero s p i h = absurd (omega arith)
byte_of (suc n) s p zero h = ap (λ (k : ℕ). get_or s k 0) (let same : p ≡ p + 0 = omega arith in same)
byte_of (suc n) s p (suc i) h =
    byte_of n s (suc p) i (omega arith) ∙ ap (λ (k : ℕ). get_or s k 0) (let same : suc p + i ≡ p + suc i = omega arith in same)

-- ---- four bytes written over them

pub header_returned : (image : List ℕ) (load : ℕ) → Returned image load (header_of image load)
unfolding header_of
header_returned image load =
    let as_long = length_bytes header_size image header_start in
    let four = length_le_bytes 4 load in
    record {
      as_long = length-sets (header_read image) start_at (le_bytes 4 load) ∙ as_long;
      as_read = λ i h out. sets_outside (le_bytes 4 load) (header_read image) start_at i (λ low high. out low (omega arith)) ∙ byte_of header_size image header_start i h;
      start = le_low 4 load (header_of image load) start_at (stored_at (le_bytes 4 load) (header_read image) start_at (omega arith));
    }
