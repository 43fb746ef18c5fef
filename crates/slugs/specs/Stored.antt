-- Bytes stored into a buffer.
use Rattle.std.specs.Prelude.{ℕ, ◌+◌, min, ◌≡◌, List, length}
use Rattle.std.proofs.lemmas.List.Edits.{sets}

-- s stored in d from a place on, as far as d goes, leaves this; next is the place after it
pub record Stored (d : List ℕ) (at : ℕ) (s left : List ℕ) (next : ℕ) : Type 0 where
  pub bytes : left ≡ sets d at s
  pub place : next ≡ min (at + length s) (length d)
