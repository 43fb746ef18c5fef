-- The worked example of the desk program: a job that holds the ELF image e1 alone, and the three lines that it prints.
use Rattle.std.specs.Prelude.{ℕ, List, [], ◌∷◌, ◌++◌}
use Rattle.fields.specs.Numbers.{le_bytes}
use Rattle.cases.specs.Cases.{e1}

-- one row: an ELF image, 123 bytes from place 16 on
unfoldable pub e1_job : List ℕ
e1_job = le_bytes 4 1 ++ le_bytes 4 1 ++ le_bytes 4 16 ++ le_bytes 4 123 ++ e1

-- "load 16", "end 24" and "pvh ignored", a line each
abbrev pub e1_lines : List ℕ
e1_lines =
    108 ∷ 111 ∷ 97 ∷ 100 ∷ 32 ∷ 49 ∷ 54 ∷ 10 ∷
    101 ∷ 110 ∷ 100 ∷ 32 ∷ 50 ∷ 52 ∷ 10 ∷
    112 ∷ 118 ∷ 104 ∷ 32 ∷ 105 ∷ 103 ∷ 110 ∷ 111 ∷ 114 ∷ 101 ∷ 100 ∷ 10 ∷
    []
