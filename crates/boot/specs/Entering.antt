-- How a kernel is entered: the checks of it, and the entry address.
use Rattle.guest.specs.declared.GuestAddress.{GuestAddress}
use Rattle.std.specs.Prelude.{ℕ, ◌+◌, min, Bool, true, false, ◌||◌, List, [], ◌∷◌, leb, Some, None, Option}
use Rattle.answers.specs.Pick.{pick}
use Rattle.answers.specs.Tests.{Test}
use Rattle.answers.specs.declared.Refusal.TheVariants as refusal
use Rattle.bzimage.specs.Protocol.{has64}
use Rattle.fields.specs.Ranges.{top64}
use Rattle.guest.specs.Addresses.{amount_of, is_given}
use Rattle.guest.specs.declared.PvhBootCapability.{PvhBootCapability}
use Rattle.guest.specs.declared.PvhBootCapability.TheVariants.{PvhEntryPresent, PvhEntryNotPresent, PvhEntryIgnored}
use Rattle.loads.specs.declared.Format.{Format}
use Rattle.loads.specs.declared.Format.TheVariants.{Elf, BzImage, Arm64}

-- the greatest address of 32 bits
abbrev pub top32 : ℕ
top32 = 0xFFFFFFFF

-- ---- by zero page, in 64-bit mode or in 32-bit mode

-- an ELF kernel has a 64-bit entry only, a bzImage may have both, an arm64 Image neither
unfoldable pub enters_by : Format → Bool → Bool
enters_by Elf wide = wide
enters_by BzImage wide = true
enters_by Arm64 wide = false

-- the 64-bit entry of a bzImage
unfoldable pub is_long : Format → Bool → Bool
is_long Elf wide = false
is_long BzImage wide = wide
is_long Arm64 wide = false

-- which is 200 hex after its load address; the others are the load address itself
unfoldable pub entry_of : Format → Bool → ℕ → ℕ
entry_of f wide load = pick (is_long f wide) (min (load + 0x200) top64) load

-- the image has it
unfoldable pub has_entry : List ℕ → Format → Bool → Bool
has_entry image f wide = pick (is_long f wide) (has64 image) true

-- the mode reaches it
unfoldable pub is_reached : Bool → ℕ → Bool
is_reached wide load = wide || leb load top32

abbrev pub zero_page_tests : List ℕ → Format → Bool → ℕ → List Test
zero_page_tests image f wide load =
    (enters_by f wide, refusal.WrongEntry)
    ∷ (has_entry image f wide, refusal.No64BitEntry)
    ∷ (is_reached wide load, refusal.WrongEntry)
    ∷ []

-- ---- by PVH, in 32-bit mode

unfoldable pub pvh_entry : PvhBootCapability → Option GuestAddress
pvh_entry (PvhEntryPresent note) = Some note.entry
pvh_entry PvhEntryNotPresent = None
pvh_entry PvhEntryIgnored = None

abbrev pub pvh_tests : Option GuestAddress → List Test
pvh_tests entry = (is_given entry, refusal.NoPvhEntry) ∷ (leb (amount_of entry) top32, refusal.WrongEntry) ∷ []

-- ---- with a device tree

unfoldable pub enters_by_tree : Format → Bool
enters_by_tree Elf = false
enters_by_tree BzImage = false
enters_by_tree Arm64 = true
