-- Answers by the catalogue's number and their values.
use Rattle.answers.specs.Tests.{Check}
use Rattle.answers.specs.declared.Refusal.{Refusal}
use Rattle.boot_page.specs.declared.Page.{Page}
use Rattle.std.specs.Prelude.{ℕ, List, [], ◌∷◌, Ok, Err, Result}
use Rattle.answers.specs.Catalogue.{number_of}

-- the number that building a page answers: the refusal's, and 0 where it is built
unfoldable pub built_number : Check → ℕ
built_number (Ok _) = 0
built_number (Err refusal) = number_of refusal

-- the number that reading one answers
unfoldable pub read_number : Result Page Refusal → ℕ
read_number (Ok page) = 0
read_number (Err refusal) = number_of refusal

-- the values beside it: how many rows, the command line's address, the ramdisk's address and size; a refusal has none
unfoldable pub read_values : Result Page Refusal → List ℕ
read_values (Ok page) = page.rows ∷ page.addresses.command_line ∷ page.addresses.ramdisk ∷ page.addresses.ramdisk_size ∷ []
read_values (Err refusal) = []
