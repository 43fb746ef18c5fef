-- The byte rule: which file byte a guest address holds after a load.
use Rattle.std.specs.Prelude.{ℕ, ◌+◌, ◌-◌, ◌≤◌, ◌<◌, ◌≡◌, List, length, get_or}
use Rattle.elf.specs.Header.{e_phnum_of}
use Rattle.elf.specs.ProgramHeaders.{header_of}
use Rattle.elf.specs.declared.program_headers.ProgramHeader.{ProgramHeader}

-- the file bytes of a loadable segment, moved by shift, cover an address
pub record Covers (shift address : ℕ) (h : ProgramHeader) : Type 0 where
  pub loadable : h.p_type ≡ 1
  pub from : shift + h.p_paddr.0 ≤ address
  pub below : address < shift + h.p_paddr.0 + h.p_filesz

-- where a segment has the file byte for an address
abbrev pub file_place : ℕ → ℕ → ProgramHeader → ℕ
file_place shift address h = h.p_offset.0 + (address - (shift + h.p_paddr.0))

-- a byte is the file byte that a segment has for an address: it stands in the image
pub record FileByte (image : List ℕ) (shift address : ℕ) (h : ProgramHeader) (byte : ℕ) : Type 0 where
  pub in_image : file_place shift address h < length image
  pub is : byte ≡ get_or image (file_place shift address h) 0

-- of the program headers from i on, n of them: the byte at an address is the file byte of the last segment that covers it, or it is
-- the byte that stood there
pub data Ruled (image : List ℕ) (shift address i n old byte : ℕ) : Type 0 where
  last_covers : (k : ℕ) → i ≤ k → k < i + n → Covers shift address (header_of image k)
      → ((j : ℕ) → k < j → j < i + n → Covers shift address (header_of image j) → ⊥) → FileByte image shift address (header_of image k) byte
      → Ruled image shift address i n old byte
  untouched : ((j : ℕ) → i ≤ j → j < i + n → Covers shift address (header_of image j) → ⊥) → byte ≡ old
      → Ruled image shift address i n old byte

-- guest memory that held `before` holds `after`: as many bytes, each by the rule over all program headers
pub record RuledBytes (image : List ℕ) (shift : ℕ) (before after : List ℕ) : Type 0 where
  pub as_long : length after ≡ length before
  pub ruled : (a : ℕ) → a < length before → Ruled image shift a 0 (e_phnum_of image) (get_or before a 0) (get_or after a 0)
