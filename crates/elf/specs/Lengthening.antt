-- Which refusals more image bytes or more guest memory may lift.
use Rattle.std.specs.Prelude.{◌≡◌, List, [], ◌∷◌, ℕ}
use Rattle.answers.specs.Listing.{Listed}
use Rattle.answers.specs.declared.Refusal.{Refusal}
use Rattle.answers.specs.declared.Refusal.TheVariants.{ReadKernelImage}

-- those for missing bytes of the image: of its header, its program headers, a segment, a note
abbrev pub bytes_numbers : List ℕ
bytes_numbers = 7 ∷ 8 ∷ 10 ∷ 11 ∷ []

abbrev pub ForBytes : Refusal → Type 0
ForBytes refusal = Listed bytes_numbers refusal

-- the one for missing room in guest memory
abbrev pub ForRoom : Refusal → Type 0
ForRoom refusal = refusal ≡ ReadKernelImage
