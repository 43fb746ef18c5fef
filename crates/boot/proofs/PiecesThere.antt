-- The checks of the pieces by their ranges, if all of them hold: so all pieces are there after a boot.
use Prim.Native.Nat.{ℕ, ◌≤◌, ◌<◌}
use mathlib.Core.Path.{◌≡◌, sym, ◌∙◌}
use mathlib.Core.Bool.{true}
use mathlib.Core.List.{List, [], ◌∷◌}
use lib.ListN.{length}
use Rattle.answers.specs.Tests.{AllHold}
use Rattle.guest.specs.Room.{room, room_for}
use Rattle.guest.specs.Stream.{pour}
use Rattle.guest.specs.declared.Extent.{Extent}
use Rattle.guest.specs.declared.Memory.{Memory}
use Rattle.guest.proofs.RoomLaws.{room_for_some}
use Rattle.loads.specs.declared.Options.{Options}
use Rattle.boot.specs.Blobs.{Blob, OneOf, first, next}
use Rattle.boot.specs.Checks.{pieces_tests}
use Rattle.boot.specs.Kernel.{kernel_apart}
use Rattle.boot.specs.Plan.{extent, boot_stream}
use Rattle.boot.specs.There.{AllThere}
use Rattle.boot.proofs.AllThere.{all_there}

abbrev range_of : Blob → Extent
range_of b = extent b.0 (length b.1)

has_room : (m : Memory) (b : Blob) → room_for m b.0 (length b.1) ≡ true → 0 < length b.1 → room m b.0 (length b.1) ≡ true
has_room m b e some = sym (room_for_some m b.0 (length b.1) some) ∙ e

-- ---- ramdisk and boot data

module _ (m : Memory) (image : List ℕ) (o : Options) (width : ℕ) (rows : List ℕ) (line : Extent) (ramdisk boot : Blob)
    (hold : AllHold (pieces_tests m image o width rows line (range_of ramdisk) (range_of boot))) where
  pub rooms : (b : Blob) → OneOf b (ramdisk ∷ boot ∷ []) → 0 < length b.1 → room m b.0 (length b.1) ≡ true
  rooms b (next (next x8)) = elim x8 [ ]
  rooms _ first = has_room m ramdisk hold.1.0
  rooms _ (next first) = has_room m boot hold.1.1.0

  from_kernel : (b : Blob) → OneOf b (ramdisk ∷ boot ∷ []) → kernel_apart image o (range_of b) ≡ true
  from_kernel b (next (next x8)) = elim x8 [ ]
  from_kernel _ first = hold.1.1.1.1.0
  from_kernel _ (next first) = hold.1.1.1.1.1.0

  pub two_there : (before : List ℕ) → m.size ≤ length before → {after : List ℕ} → after ≡ pour (boot_stream image o (ramdisk ∷ boot ∷ [])) before
      → AllThere image o (ramdisk ∷ boot ∷ []) before after
  two_there before fits e =
      all_there image o (ramdisk ∷ boot ∷ []) ((hold.1.1.1.1.1.1.1.1.0, tt), (tt, tt)) from_kernel m rooms before fits e

-- ---- with a line, whose room is checked by its own call

module _ (m : Memory) (image : List ℕ) (o : Options) (width : ℕ) (rows : List ℕ) (line ramdisk boot : Blob)
    (hold : AllHold (pieces_tests m image o width rows (range_of line) (range_of ramdisk) (range_of boot))) where
  line_from_kernel : (b : Blob) → OneOf b (line ∷ ramdisk ∷ boot ∷ []) → kernel_apart image o (range_of b) ≡ true
  line_from_kernel _ first = hold.1.1.1.0
  line_from_kernel b (next one) = from_kernel m image o width rows (range_of line) ramdisk boot hold b one

  module _ (line-room : room m line.0 (length line.1) ≡ true) where
    pub line_rooms : (b : Blob) → OneOf b (line ∷ ramdisk ∷ boot ∷ []) → 0 < length b.1 → room m b.0 (length b.1) ≡ true
    line_rooms _ first some = line-room
    line_rooms b (next one) some = rooms m image o width rows (range_of line) ramdisk boot hold b one some

    pub three_there : (before : List ℕ) → m.size ≤ length before → {after : List ℕ} → after ≡ pour (boot_stream image o (line ∷ ramdisk ∷ boot ∷ [])) before
        → AllThere image o (line ∷ ramdisk ∷ boot ∷ []) before after
    three_there before fits e =
        let h = hold.1.1.1.1.1.1 in
        all_there image o (line ∷ ramdisk ∷ boot ∷ []) ((h.0, (h.1.0, tt)), ((h.1.1.0, tt), (tt, tt))) line_from_kernel m line_rooms before fits e
