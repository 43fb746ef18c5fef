-- A load by its parts: which image bytes go where, part after part.
use Rattle.std.specs.Prelude.{List, ℕ, zero, suc}
use Rattle.std.proofs.lemmas.List.Edits.{sets}
use Rattle.guest.specs.Stream.{bytes_at}
use Rattle.guest.specs.declared.Part.{Part}

-- guest memory after a part was copied: the image bytes at its place are stored from its address on
abbrev pub copied : List ℕ → Part → List ℕ → List ℕ
copied image p guest = sets guest p.address.0 (bytes_at image p.place.0 p.size)

-- after k parts from part i on, one after the other
unfoldable pub copied_from : ℕ → List ℕ → (ℕ → Part) → ℕ → List ℕ → List ℕ
copied_from zero image part i guest = guest
copied_from (suc k) image part i guest = copied_from k image part (suc i) (copied image (part i) guest)
