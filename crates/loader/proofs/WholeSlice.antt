-- "The whole_slice map, or no range over an empty slice, gives today's answers", of a line put into guest memory: over that map the plan is the one
-- of a slice with no map, whatever the line and the address.
use Rattle.answers.specs.Tests.{pass}
use Prim.Native.Nat.{ℕ}
use mathlib.Core.Path.{◌≡◌}
use mathlib.Core.List.{[], ◌∷◌, ◌++◌}
use native.Mathlib.Omega.{arith}
use lib.ListN.{length, length-append}
use Rattle.cmdline.specs.Text.{Text}
use Rattle.cmdline.specs.Writing.{whole}
use Rattle.guest.specs.Loading.{behind_tests}
use Rattle.guest.specs.Room.{whole_of}
use Rattle.guest.proofs.RoomLaws.{whole_room, whole_lent}
use Rattle.loader.specs.Lines.{line_bytes, text_row, room_row, plan_of}
use Rattle.loader.specs.WholeSlice.{plan_within}

pub whole_slice : (t : Text) (size address : ℕ) → plan_of t (whole_of size) address ≡ plan_within t size address
unfolding behind_tests
whole_slice t size address =
    let zero-too = length-append (whole t) (0 ∷ []) in
    rw (whole_lent pass size (text_row t ++ room_row t (whole_of size) address), whole_room size address (length (line_bytes t)) (omega arith))
