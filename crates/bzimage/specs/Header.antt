-- The setup header as it is read, and as a load returns it.
use Rattle.std.specs.Prelude.{ℕ, zero, suc, ◌-◌, List, [], ◌∷◌, get_or}
use Rattle.std.proofs.lemmas.List.Edits.{sets}
use Rattle.fields.specs.Numbers.{le_bytes}
use Rattle.bzimage.specs.SetupHeader.{header_start, header_size, code32_start}

-- the n bytes from p on; a byte past the end is 0
unfoldable pub bytes_from : ℕ → List ℕ → ℕ → List ℕ
bytes_from zero s p = []
bytes_from (suc n) s p = get_or s p 0 ∷ bytes_from n s (suc p)

-- the setup header as the image has it
abbrev pub header_read : List ℕ → List ℕ
header_read image = bytes_from header_size image header_start

-- the same with the load address's low 32 bits in code32_start
unfoldable pub header_of : List ℕ → ℕ → List ℕ
header_of image load = sets (header_read image) (code32_start - header_start) (le_bytes 4 load)
