-- The numbers that an ELF load and a note walk may answer beside 0.
use Rattle.std.specs.Prelude.{ℕ, List, [], ◌∷◌}

-- of a load, in the order in which they are asked: what is lent, the header, a segment, the notes
abbrev pub elf_numbers : List ℕ
elf_numbers = 60 ∷ 77 ∷ 7 ∷ 1 ∷ 2 ∷ 3 ∷ 4 ∷ 5 ∷ 6 ∷ 8 ∷ 14 ∷ 9 ∷ 10 ∷ 13 ∷ 11 ∷ 12 ∷ []

-- of a note walk
abbrev pub note_numbers : List ℕ
note_numbers = 60 ∷ 11 ∷ 12 ∷ 6 ∷ []
