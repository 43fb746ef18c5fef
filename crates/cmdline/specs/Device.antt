-- The text of a device: virtio_mmio.device=SIZE@0xHEX:IRQ, and :ID if given.
use Rattle.std.specs.Prelude.{ℕ, ◌/◌, ◌%◌, not, List, [], ◌∷◌, ◌++◌, eqb, Some, None, Option}
use Rattle.answers.specs.Pick.{pick}
use Rattle.answers.specs.declared.Refusal.TheVariants as refusal
use Rattle.slugs.specs.Bytes.{colon}
use Rattle.cmdline.specs.Digits.{decimal, hexadecimal}
use Rattle.cmdline.specs.Text.{Text}
use Rattle.cmdline.specs.Insertion.{Plan, after, insert_str}

-- SIZE: in G, M or K by the largest that divides, else the bare number
unfoldable pub size_text : ℕ → List ℕ
size_text n =
    pick (eqb (n % 0x40000000) 0) (decimal (n / 0x40000000) ++ (71 ∷ []))
    (pick (eqb (n % 0x100000) 0) (decimal (n / 0x100000) ++ (77 ∷ []))
    (pick (eqb (n % 0x400) 0) (decimal (n / 0x400) ++ (75 ∷ [])) (decimal n)))

-- :ID, if given
unfoldable pub id_text : Option ℕ → List ℕ
id_text None = []
id_text (Some n) = colon ∷ decimal n

-- virtio_mmio.device=
abbrev pub prefix : List ℕ
prefix =
    118 ∷ 105 ∷ 114 ∷ 116 ∷ 105 ∷ 111 ∷ 95 ∷ 109 ∷ 109 ∷ 105 ∷ 111
    ∷ 46 ∷ 100 ∷ 101 ∷ 118 ∷ 105 ∷ 99 ∷ 101 ∷ 61 ∷ []

-- @0x
abbrev pub at_hex : List ℕ
at_hex = 64 ∷ 48 ∷ 120 ∷ []

-- virtio_mmio.device=SIZE@0xHEX:IRQ
unfoldable pub front_text : ℕ → ℕ → ℕ → List ℕ
front_text size base irq = prefix ++ (size_text size ++ (at_hex ++ (hexadecimal base ++ ((colon ∷ []) ++ decimal irq))))

abbrev pub device_text : ℕ → ℕ → ℕ → Option ℕ → List ℕ
device_text size base irq id = front_text size base irq ++ id_text id

-- a size that is not 0, then the slug of the text
unfoldable pub add_device : Text → ℕ → ℕ → ℕ → Option ℕ → Plan
add_device t size base irq id =
    after ((not (eqb size 0), refusal.MmioSize) ∷ []) (insert_str t (device_text size base irq id))
