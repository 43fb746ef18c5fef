-- What a load answers, of any format, as the catalogue's number and values.
use Rattle.std.specs.Prelude.{ℕ, List, [], ◌∷◌, Result, Ok, Err}
use Rattle.answers.specs.Catalogue.{number_of}
use Rattle.answers.specs.declared.Refusal.{Refusal}
use Rattle.guest.specs.declared.KernelLoaderResult.{KernelLoaderResult}
use Rattle.guest.specs.declared.PvhBootCapability.{PvhBootCapability}
use Rattle.guest.specs.declared.PvhBootCapability.TheVariants.{PvhEntryPresent, PvhEntryNotPresent, PvhEntryIgnored}

-- what a load answers: where the kernel is, or the refusal
abbrev pub Answer : Type 0
Answer = Result KernelLoaderResult Refusal

-- PVH as a number: 0 if it is ignored, 1 if there is no entry, 2 if there is one
unfoldable pub pvh_code : PvhBootCapability → ℕ
pvh_code PvhEntryIgnored = 0
pvh_code PvhEntryNotPresent = 1
pvh_code (PvhEntryPresent note) = 2

-- its address, 0 if there is none
unfoldable pub pvh_address : PvhBootCapability → ℕ
pvh_address PvhEntryIgnored = 0
pvh_address PvhEntryNotPresent = 0
pvh_address (PvhEntryPresent note) = note.entry.0

-- the place and the size of the descriptor of the note found, 0 if there is none
unfoldable pub pvh_place : PvhBootCapability → ℕ
pvh_place PvhEntryIgnored = 0
pvh_place PvhEntryNotPresent = 0
pvh_place (PvhEntryPresent note) = note.place.0

unfoldable pub pvh_size : PvhBootCapability → ℕ
pvh_size PvhEntryIgnored = 0
pvh_size PvhEntryNotPresent = 0
pvh_size (PvhEntryPresent note) = note.size

-- the number of an answer, 0 if the load is accepted
unfoldable pub answer_number : Answer → ℕ
answer_number (Ok result) = 0
answer_number (Err r) = number_of r

-- its values: load address, end, PVH, and the note that gave it; a refusal has none
unfoldable pub answer_values : Answer → List ℕ
answer_values (Ok result) =
    let said = result.pvh_boot_cap in
    result.kernel_load.0 ∷ result.kernel_end.0 ∷ pvh_code said ∷ pvh_address said ∷ pvh_place said ∷ pvh_size said ∷ []
answer_values (Err r) = []
