-- The setup header's fields: the sizes that the table has, and the places of the Linux x86 boot protocol 2.15.
use Rattle.std.specs.Prelude.{ℕ, ◌+◌, List, [], ◌∷◌, take}

-- the sizes of the thirty-nine fields, in order
unfoldable pub sizes : List ℕ
sizes =
    1 ∷ 2 ∷ 4 ∷ 2 ∷ 2 ∷ 2 ∷ 2 ∷ 2 ∷ 4 ∷ 2 ∷ 4 ∷ 2 ∷ 2 ∷ 1 ∷ 1 ∷ 2 ∷ 4 ∷ 4 ∷ 4 ∷ 4 ∷ 2 ∷ 1 ∷ 1 ∷ 4 ∷ 4 ∷ 4 ∷ 1 ∷ 1 ∷ 2 ∷ 4 ∷ 4 ∷ 8 ∷ 4 ∷ 4 ∷ 8 ∷ 8 ∷ 4 ∷ 4 ∷ 4 ∷ []

-- the sum of sizes
unfoldable pub total : List ℕ → ℕ
total [] = 0
total (n ∷ ns) = n + total ns

-- where the header begins in the image, and how long it is
abbrev pub header_start : ℕ
header_start = 0x1F1

abbrev pub header_size : ℕ
header_size = 123

-- where the field of this number begins in the image: the sizes before it, summed
unfoldable pub place_of : ℕ → ℕ
place_of field = header_start + total (take field sizes)

-- where the boot protocol puts each field
unfoldable pub protocol_places : List ℕ
protocol_places =
    0x1F1 ∷ 0x1F2 ∷ 0x1F4 ∷ 0x1F8 ∷ 0x1FA ∷ 0x1FC ∷ 0x1FE ∷ 0x200 ∷ 0x202 ∷ 0x206 ∷ 0x208 ∷ 0x20C ∷ 0x20E ∷ 0x210 ∷ 0x211 ∷ 0x212 ∷ 0x214 ∷ 0x218 ∷ 0x21C ∷ 0x220 ∷ 0x224 ∷ 0x226 ∷ 0x227 ∷ 0x228 ∷ 0x22C ∷ 0x230 ∷ 0x234 ∷ 0x235 ∷ 0x236 ∷ 0x238 ∷ 0x23C ∷ 0x240 ∷ 0x248 ∷ 0x24C ∷ 0x250 ∷ 0x258 ∷ 0x260 ∷ 0x264 ∷ 0x268 ∷ []

-- the protocol's places of the fields that a load uses
abbrev pub setup_sects : ℕ
setup_sects = 0x1F1

abbrev pub header_magic : ℕ
header_magic = 0x202

abbrev pub version : ℕ
version = 0x206

abbrev pub loadflags : ℕ
loadflags = 0x211

abbrev pub code32_start : ℕ
code32_start = 0x214
