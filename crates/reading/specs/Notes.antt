-- A note's header: three numbers of four bytes, one after the other.
use Rattle.std.specs.Prelude.{ℕ, ◌+◌, List}
use Rattle.fields.specs.Numbers.{le}
use Rattle.reading.specs.declared.NoteHeader.{NoteHeader}

-- the note header at a place: the sizes of name and descriptor, and the type
unfoldable pub note_header_of : List ℕ → ℕ → NoteHeader
note_header_of image p = record { n_namesz = le 4 image p; n_descsz = le 4 image (p + 4); n_type = le 4 image (p + 8) }
