-- Laws of parts put one after the other: what later parts leave stands, and what no part covers stays.
use Prim.Native.Nat.{ℕ, zero, suc, ◌+◌, ◌≤◌, ◌<◌}
use mathlib.Core.Path.{◌≡◌, refl, sym, ap, subst, ◌∙◌}
use mathlib.Core.List.{List, [], ◌∷◌}
use native.Mathlib.Omega.{arith}
use native.Mathlib.Nat.{add-zero}
use lib.ListN.{length, get_or, replicate, length-replicate}
use lib.Seq.{sets, length-sets}
use Rattle.fields.specs.Numbers.{le_bytes, HasBytes, no_byte, a_byte}
use Rattle.fields.proofs.CopyingLaws.{sets_outside}
use Rattle.fields.proofs.HasBytesLaws.{stored_at, kept_below, kept_above}
use Rattle.fields.proofs.NumbersLaws.{length_le_bytes}
use Rattle.boot_page.specs.declared.Addresses.{Addresses}
use Rattle.boot_page.specs.Building.{Part, put_parts, parts_of, page_of}
use Rattle.boot_page.specs.Places.{page_size}

pub length_parts : (parts : List Part) (s : List ℕ) → length (put_parts parts s) ≡ length s
unfolding put_parts
length_parts [] s = refl
length_parts (part ∷ parts) s = length_parts parts (sets s part.0 part.1) ∙ length-sets s part.0 part.1

-- a page that is built has the size of a page
pub page_length : (header : List ℕ) (addresses : Addresses) (rows : List ℕ) → length (page_of header addresses rows) ≡ page_size
page_length header addresses rows =
    length_parts (parts_of header addresses rows) (replicate page_size 0) ∙ length-replicate {A = ℕ} page_size 0

-- no part covers this place
pub data Uncovered (at : ℕ) : List Part → Type 0 where
  by_none : Uncovered at []
  by_one : {p : ℕ} {bs : List ℕ} {parts : List Part} → (p ≤ at → at < p + length bs → ⊥) → Uncovered at parts → Uncovered at ((p, bs) ∷ parts)

pub uncovered_stays : (parts : List Part) (s : List ℕ) (at : ℕ) → Uncovered at parts → get_or (put_parts parts s) at 0 ≡ get_or s at 0
unfolding put_parts
uncovered_stays [] s at by_none = refl
uncovered_stays ((p, bs) ∷ parts) s at (by_one out rest) = uncovered_stays parts (sets s p bs) at rest ∙ sets_outside bs s p at out

-- each part lies below these n places, or above them
pub data Clear (p n : ℕ) : List Part → Type 0 where
  of_none : Clear p n []
  below : {q : ℕ} {vs : List ℕ} {parts : List Part} → q + length vs ≤ p → Clear p n parts → Clear p n ((q, vs) ∷ parts)
  above : {q : ℕ} {vs : List ℕ} {parts : List Part} → p + n ≤ q → Clear p n parts → Clear p n ((q, vs) ∷ parts)

pub stands_on : (parts : List Part) (s bs : List ℕ) (p n : ℕ) → n ≡ length bs → Clear p n parts → HasBytes s p bs → HasBytes (put_parts parts s) p bs
unfolding put_parts
stands_on [] s bs p n e of_none here = here
stands_on ((q, vs) ∷ parts) s bs p n e (below h rest) here = stands_on parts (sets s q vs) bs p n e rest (kept_above bs s vs p q h here)
stands_on ((q, vs) ∷ parts) s bs p n e (above h rest) here = stands_on parts (sets s q vs) bs p n e rest (kept_below bs s vs p q (omega arith) here)

-- a part that is put stands where the later ones leave it
pub part_stands : (parts : List Part) (s bs : List ℕ) (p n : ℕ) → n ≡ length bs → p + n ≤ length s → Clear p n parts
    → HasBytes (put_parts parts (sets s p bs)) p bs
part_stands parts s bs p n e room clear = stands_on parts (sets s p bs) bs p n e clear (stored_at bs s p (omega arith))

-- the i-th of bytes that stand at a place
pub byte_of_bytes : (bs s : List ℕ) (p i : ℕ) → HasBytes s p bs → i < length bs → get_or s (p + i) 0 ≡ get_or bs i 0
byte_of_bytes [] s p i no_byte h = absurd (omega arith)
byte_of_bytes (b ∷ bs) s p zero (a_byte e rest) h = ap (λ (k : ℕ). get_or s k 0) (add-zero p) ∙ e
byte_of_bytes (b ∷ bs) s p (suc i) (a_byte e rest) h =
    ap (λ (k : ℕ). get_or s k 0) (let same : p + suc i ≡ suc p + i = omega arith in same) ∙ byte_of_bytes bs s (suc p) i rest (omega arith)

-- ---- parts that are numbers of some bytes

module _ {parts : List Part} (q j v : ℕ) where
  pub number_uncovered : (at : ℕ) → (q ≤ at → at < q + j → ⊥) → Uncovered at parts → Uncovered at ((q, le_bytes j v) ∷ parts)
  number_uncovered at out rest = by_one (λ low high. out low (subst (λ (k : ℕ). at < q + k) (length_le_bytes j v) high)) rest

  pub number_below : (p n : ℕ) → q + j ≤ p → Clear p n parts → Clear p n ((q, le_bytes j v) ∷ parts)
  number_below p n h rest = below {q = q} {vs = le_bytes j v} (subst (λ (k : ℕ). q + k ≤ p) (sym (length_le_bytes j v)) h) rest

  pub number_above : (p n : ℕ) → p + n ≤ q → Clear p n parts → Clear p n ((q, le_bytes j v) ∷ parts)
  number_above p n h rest = above h rest

pub number_stands : (parts : List Part) (s : List ℕ) (p n v : ℕ) → p + n ≤ length s → Clear p n parts
    → HasBytes (put_parts parts (sets s p (le_bytes n v))) p (le_bytes n v)
number_stands parts s p n v room clear = part_stands parts s (le_bytes n v) p n (sym (length_le_bytes n v)) room clear
