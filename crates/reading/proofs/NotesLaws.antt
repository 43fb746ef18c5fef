-- A note's header, read by a reader field after field.
use Prim.Native.Nat.{ℕ, ◌+◌, ◌≤◌}
use mathlib.Core.Path.{◌≡◌}
use mathlib.Core.List.{List}
use native.Mathlib.Omega.{arith}
use denote.Ref.{Bor}
use lib.ListN.{length}
use Rattle.fields.specs.Ranges.{top64}
use Rattle.guest.specs.declared.ImagePlace.{ImagePlace}
use Rattle.reading.specs.declared.NoteHeader.{NoteHeader}
use Rattle.reading.specs.declared.Reader.{Reader}
use Rattle.reading.specs.declared.Taken.{Taken}
use Rattle.reading.specs.Notes.{note_header_of}
use Rattle.reading.specs.Readers.{reader_at, Takes}
use Rattle.reading.proofs.ReadersLaws.{new_stands, reads_there, stands_past}

-- three numbers of four bytes, each taken where the one before it ended
pub note_header_read : (image : Bor (List ℕ)) (at : ImagePlace) {r : Reader} {name desc kind : Taken} → length image.now ≤ top64 → at.0 ≤ top64
    → r ≡ reader_at image at → Takes r 4 name → Takes name.rest 4 desc → Takes desc.rest 4 kind
    → ◌≡◌ {A = NoteHeader} (record { n_namesz = name.value; n_descsz = desc.value; n_type = kind.value }) (note_header_of image.now at.0)
unfolding note_header_of
note_header_read image at short small e takes₁ takes₂ takes₃ =
    let at₁ = new_stands image at small e in
    let at₂ = stands_past image at.0 4 at₁ takes₁ in
    let at₃ = stands_past image (at.0 + 4) 4 at₂ takes₂ in
    let third : at.0 + 4 + 4 ≡ at.0 + 8 = omega arith in
    rw (
      reads_there image at.0 4 at₁ takes₁ short,
      reads_there image (at.0 + 4) 4 at₂ takes₂ short,
      reads_there image (at.0 + 4 + 4) 4 at₃ takes₃ short,
      third,
    )
