-- What a load says and leaves; and a note walk's answer as the catalogue's number and values.
use Rattle.guest.specs.declared.GuestAddress.{GuestAddress}
use Rattle.std.specs.Prelude.{ℕ, List, [], ◌∷◌, Ok, Err, Option}
use Rattle.answers.specs.Catalogue.{number_of}
use Rattle.guest.specs.Room.{memory_of}
use Rattle.guest.specs.Loading.{Loads}
use Rattle.guest.specs.declared.Map.{Map}
use Rattle.elf.specs.Notes.{NoteAnswer}
use Rattle.elf.specs.Pouring.{plan_of}
use Rattle.guest.specs.Answers.{pvh_code, pvh_address, pvh_place, pvh_size, Answer}

-- a load of an image into guest memory with a map that held `before`: it answers r and leaves `after`
abbrev pub LoadSays : List ℕ → Option GuestAddress → Option GuestAddress → Map → List ℕ → Answer → List ℕ → Type 0
LoadSays image offset highmem map before r after = Loads (plan_of image (memory_of before map) offset highmem) before r after

-- the number and the values of what a note walk returns: PVH, the headers that were read, and the note found
unfoldable pub note_number : NoteAnswer → ℕ
note_number (Ok note) = 0
note_number (Err r) = number_of r

unfoldable pub note_values : NoteAnswer → List ℕ
note_values (Ok note) = pvh_code note.pvh ∷ pvh_address note.pvh ∷ note.headers ∷ pvh_place note.pvh ∷ pvh_size note.pvh ∷ []
note_values (Err r) = []
