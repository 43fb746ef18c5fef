-- What a job prints: lines of text that say what came of it.
use Rattle.guest.specs.Answers.{Answer}
use Rattle.std.specs.Prelude.{ℕ, min, List, [], ◌∷◌, ◌++◌, length, replicate, Ok, Err}
use Rattle.std.proofs.lemmas.List.Edits.{sets}
use Rattle.answers.specs.Catalogue.{number_of}
use Rattle.cmdline.specs.Digits.{decimal}
use Rattle.guest.specs.Room.{whole_of}
use Rattle.guest.specs.declared.PvhBootCapability.{PvhBootCapability}
use Rattle.guest.specs.declared.PvhBootCapability.TheVariants.{PvhEntryPresent, PvhEntryNotPresent, PvhEntryIgnored}
use Rattle.loads.specs.declared.Format.{Format}
use Rattle.loads.specs.declared.Format.TheVariants.{Elf, BzImage, Arm64}
use Rattle.desk.specs.declared.Output.{Output}
use Rattle.desk.specs.Table.{image_row}
use Rattle.desk.specs.Work.{image_format, job_plan}

-- ---- words, each with the space behind it

-- "load "
abbrev pub load_word : List ℕ
load_word = 108 ∷ 111 ∷ 97 ∷ 100 ∷ 32 ∷ []

-- "end "
abbrev pub end_word : List ℕ
end_word = 101 ∷ 110 ∷ 100 ∷ 32 ∷ []

-- "pvh "
abbrev pub pvh_word : List ℕ
pvh_word = 112 ∷ 118 ∷ 104 ∷ 32 ∷ []

-- "refused "
abbrev pub refused_word : List ℕ
refused_word = 114 ∷ 101 ∷ 102 ∷ 117 ∷ 115 ∷ 101 ∷ 100 ∷ 32 ∷ []

-- "ignored" and a line feed
abbrev pub ignored : List ℕ
ignored = 105 ∷ 103 ∷ 110 ∷ 111 ∷ 114 ∷ 101 ∷ 100 ∷ 10 ∷ []

-- "none" and a line feed
abbrev pub none : List ℕ
none = 110 ∷ 111 ∷ 110 ∷ 101 ∷ 10 ∷ []

-- ---- lines

-- a word, a decimal number and a line feed
abbrev pub number_line : List ℕ → ℕ → List ℕ
number_line word n = word ++ (decimal n ++ (10 ∷ []))

unfoldable pub pvh_text : PvhBootCapability → List ℕ
pvh_text PvhEntryIgnored = pvh_word ++ ignored
pvh_text PvhEntryNotPresent = pvh_word ++ none
pvh_text (PvhEntryPresent note) = number_line pvh_word note.entry.0

-- only of an ELF image
unfoldable pub pvh_line : Format → PvhBootCapability → List ℕ
pvh_line Elf pvh = pvh_text pvh
pvh_line BzImage pvh = []
pvh_line Arm64 pvh = []

unfoldable pub answer_text : Format → Answer → List ℕ
answer_text format (Ok kernel) =
    number_line load_word kernel.kernel_load.0
    ++ (number_line end_word kernel.kernel_end.0 ++ pvh_line format kernel.pvh_boot_cap)
answer_text format (Err refusal) = number_line refused_word (number_of refusal)

-- what a job prints that is done over so many bytes of guest memory
abbrev pub printed : List ℕ → ℕ → List ℕ
printed job size = answer_text (image_format (image_row job).kind) (job_plan job (whole_of size)).answer

-- a text at the front of 80 bytes
abbrev pub output_of : List ℕ → Output
output_of text = record { bytes = sets (replicate 80 0) 0 text; length = min (length text) 80 }
