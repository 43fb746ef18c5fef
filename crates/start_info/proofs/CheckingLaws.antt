-- A field of a block, as the checker reads it.
use Prim.Native.Nat.{ℕ, min}
use mathlib.Core.Path.{◌≡◌, ◌∙◌}
use mathlib.Core.List.{List}
use native.Mathlib.Omega.{arith}
use lib.ListN.{length}
use Rattle.fields.specs.Numbers.{ReadAs}
use Rattle.fields.proofs.RowsPlaces.{le_clipped}

-- a number at a place that is clipped to the end of the slice is the number there
pub field_read : (n : ℕ) (guest : List ℕ) (at : ℕ) {place r : ℕ} → place ≡ min at (length guest) → ReadAs n guest place r → ReadAs n guest at r
field_read n guest at {place} e read =
    record { value = read.value ∙ le_clipped n guest at place (let clipped : min place (length guest) ≡ min at (length guest) = omega arith in clipped); small = read.small }
