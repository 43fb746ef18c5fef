-- The setup header that a load returns, byte by byte.
use Rattle.std.specs.Prelude.{ℕ, ◌+◌, ◌-◌, ◌%◌, ◌^◌, ◌≤◌, ◌<◌, ◌≡◌, List, length, get_or}
use Rattle.fields.specs.Numbers.{le}
use Rattle.bzimage.specs.SetupHeader.{header_size, header_start, code32_start}

-- where code32_start stands in the header
abbrev pub start_at : ℕ
start_at = code32_start - header_start

-- the bytes as read, a byte past the image as 0, and in code32_start the load address's low 32 bits
pub record Returned (image : List ℕ) (load : ℕ) (header : List ℕ) : Type 0 where
  pub as_long : length header ≡ header_size
  pub as_read : (i : ℕ) → i < header_size → (start_at ≤ i → i < start_at + 4 → ⊥) → get_or header i 0 ≡ get_or image (header_start + i) 0
  pub start : le 4 header start_at ≡ load % 2 ^ 32
