-- Little-endian numbers at a place, read and written.
use Rattle.std.specs.Prelude.{◌≡◌, Bool, List, [], ◌∷◌, ℕ, zero, suc, ◌+◌, ◌*◌, ◌/◌, ◌%◌, ◌^◌, ◌<◌, ltb, get_or}

-- the number of n bytes at p, the first byte least; a byte past the end is 0
unfoldable pub le : ℕ → List ℕ → ℕ → ℕ
le zero s p = 0
le (suc n) s p = get_or s p 0 + 256 * le n s (suc p)

-- what a reader of n bytes at p answers: their number, which n bytes hold
pub record ReadAs (n : ℕ) (s : List ℕ) (p r : ℕ) : Type 0 where
  pub value : r ≡ le n s p
  pub small : r < 256 ^ n

-- the n low bytes of a number, the least first
unfoldable pub le_bytes : ℕ → ℕ → List ℕ
le_bytes zero v = []
le_bytes (suc n) v = v % 256 ∷ le_bytes n (v / 256)

-- does a number fit n bytes?
unfoldable pub fits : ℕ → ℕ → Bool
fits n v = ltb v (256 ^ n)

-- these bytes are in s from p on; a byte past the end is 0
pub data HasBytes (s : List ℕ) : ℕ → List ℕ → Type 0 where
  no_byte : {p : ℕ} → HasBytes s p []
  a_byte : {p b : ℕ} {bs : List ℕ} → get_or s p 0 ≡ b → HasBytes s (suc p) bs → HasBytes s p (b ∷ bs)
