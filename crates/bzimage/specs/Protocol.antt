-- What a setup header says to a boot loader, by the Linux x86 boot protocol.
use Rattle.guest.specs.declared.GuestAddress.{GuestAddress}
use Rattle.std.specs.Prelude.{ℕ, suc, ◌+◌, ◌-◌, ◌%◌, ◌≤◌, ◌<◌, min, max, ◌≡◌, Bool, ◌&&◌, List, leb, eqb, Option}
use Rattle.answers.specs.Pick.{pick}
use Rattle.fields.specs.Numbers.{le}
use Rattle.fields.specs.Ranges.{top64}
use Rattle.guest.specs.Extents.{no_extent}
use Rattle.guest.specs.declared.Extent.{Extent}
use Rattle.bzimage.specs.Kernel.{load_of}
use Rattle.bzimage.specs.SetupHeader.{version}

-- the offsets of the fields in the image
abbrev pub initrd_addr_max : ℕ
initrd_addr_max = 0x22C

abbrev pub kernel_alignment : ℕ
kernel_alignment = 0x230

abbrev pub relocatable_kernel : ℕ
relocatable_kernel = 0x234

abbrev pub xloadflags : ℕ
xloadflags = 0x236

abbrev pub cmdline_size : ℕ
cmdline_size = 0x238

abbrev pub pref_address : ℕ
pref_address = 0x258

abbrev pub init_size : ℕ
init_size = 0x260

-- the longest command line that the kernel takes, without its zero: as the header says from protocol 2.06 on, 255 before
unfoldable pub line_limit : List ℕ → ℕ
line_limit image = pick (leb 0x206 (le 2 image version)) (le 4 image cmdline_size) 255

-- what a reader of it answers
pub record Limit (image : List ℕ) (r : ℕ) : Type 0 where
  pub value : r ≡ line_limit image
  pub small : r < 4294967296

-- the first address past the highest that a ramdisk may use: as the header says from protocol 2.03 on
unfoldable pub ramdisk_end : List ℕ → ℕ
ramdisk_end image = suc (pick (leb 0x203 (le 2 image version)) (le 4 image initrd_addr_max) 0x37FFFFFF)

-- what a reader of it answers
pub record RamdiskEnd (image : List ℕ) (r : ℕ) : Type 0 where
  pub value : r ≡ ramdisk_end image
  pub small : r ≤ 4294967296

-- has the kernel a 64-bit entry? Protocol 2.12, bit 0 of xloadflags
unfoldable pub has64 : List ℕ → Bool
has64 image = leb 0x20C (le 2 image version) && eqb (le 2 image xloadflags % 2) 1

-- the least multiple of a step that is not below v, at most 2^64 - 1
unfoldable pub aligned_up : ℕ → ℕ → ℕ
aligned_up step v = pick (eqb (v % step) 0) v (min (v + (step - v % step)) top64)

-- a multiple of the step, not below v, and less than a step above it
pub record RoundedUp (step v r : ℕ) : Type 0 where
  pub multiple : r % step ≡ 0
  pub from : v ≤ r
  pub below : r < v + step

-- where a kernel that is loaded at an address runs: at its preferred address if it cannot be moved,
-- else at the first multiple of its alignment from the load address or the preferred address on, whichever is higher
unfoldable pub runtime_start : List ℕ → ℕ → ℕ
runtime_start image load =
    pick (eqb (le 1 image relocatable_kernel) 0)
    (le 8 image pref_address)
    (aligned_up (max (le 4 image kernel_alignment) 1) (max load (le 8 image pref_address)))

-- the memory that the kernel needs while it starts: none is known before protocol 2.10
unfoldable pub runtime_memory : List ℕ → Option GuestAddress → Extent
runtime_memory image offset =
    pick (leb 0x20A (le 2 image version))
    (record { at = record { 0 = runtime_start image (load_of image offset).0 }; size = le 4 image init_size })
    no_extent
