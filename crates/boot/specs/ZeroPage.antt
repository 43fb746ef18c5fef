-- A boot by zero page: a bzImage, or an ELF kernel by its 64-bit entry; the line, a ramdisk, and the page that names them.
use Rattle.std.specs.Prelude.{ℕ, Bool, true, List, [], ◌∷◌, ◌++◌, leb, eqb, length, Option}
use Rattle.answers.specs.Pick.{pick}
use Rattle.answers.specs.Tests.{Test}
use Rattle.answers.specs.declared.Refusal.TheVariants.{RamdiskTooHigh}
use Rattle.boot_page.specs.Building as page
use Rattle.boot_page.specs.Places.{page_size}
use Rattle.boot_page.specs.declared.Addresses.{Addresses}
use Rattle.bzimage.specs.Header.{header_of}
use Rattle.bzimage.specs.Protocol.{ramdisk_end}
use Rattle.cmdline.specs.Text.{Text, counted}
use Rattle.fields.specs.Ranges.{lies_within}
use Rattle.guest.specs.Loading.{Plan, Loads}
use Rattle.guest.specs.Room.{memory_of}
use Rattle.guest.specs.declared.KernelLoaderResult.{KernelLoaderResult}
use Rattle.guest.specs.declared.Map.{Map}
use Rattle.guest.specs.declared.Memory.{Memory}
use Rattle.loader.specs.Lines as line
use Rattle.loads.specs.Formats as kernel
use Rattle.loads.specs.declared.Format.{Format}
use Rattle.loads.specs.declared.Format.TheVariants.{Elf, BzImage, Arm64}
use Rattle.loads.specs.declared.Options.{Options}
use Rattle.boot.specs.Blobs.{Blob}
use Rattle.boot.specs.Checks.{limit_of, limit_tests, pieces_tests}
use Rattle.boot.specs.Entering.{top32, entry_of, zero_page_tests}
use Rattle.boot.specs.Plan.{extent, boot_stream, plan_by, Answer}
use Rattle.boot.specs.declared.zero_page.ZeroPage.{ZeroPage}

-- the setup header for an ELF kernel, which has none of its own: boot_flag, "HdrS", a kernel_alignment of 16 MiB, all else 0
abbrev pub elf_header : List ℕ
elf_header =
    0 ∷ 0 ∷ 0 ∷ 0 ∷ 0 ∷ 0 ∷ 0 ∷ 0 ∷ 0 ∷ 0 ∷ 0 ∷ 0 ∷ 0 ∷ 0x55 ∷ 0xAA ∷ 0 ∷ 0 ∷ 0x48 ∷ 0x64 ∷ 0x72 ∷ 0x53 ∷ 0 ∷ 0 ∷ 0 ∷ 0 ∷ 0 ∷ 0 ∷ 0 ∷ 0 ∷ 0 ∷ 0 ∷ 0 ∷ 0 ∷ 0 ∷ 0 ∷ 0 ∷ 0 ∷ 0 ∷ 0 ∷ 0 ∷ 0 ∷ 0 ∷ 0 ∷ 0 ∷ 0 ∷ 0 ∷ 0 ∷ 0 ∷ 0 ∷ 0 ∷ 0 ∷ 0 ∷ 0 ∷ 0 ∷ 0 ∷ 0 ∷ 0 ∷ 0 ∷ 0 ∷ 0 ∷ 0 ∷ 0 ∷ 0 ∷ 0 ∷ 0 ∷ 0 ∷ 1 ∷ []

-- the setup header that goes into the page
unfoldable pub setup_by : Format → List ℕ → ℕ → List ℕ
setup_by Elf image load = elf_header
setup_by BzImage image load = header_of image load
setup_by Arm64 image load = []

-- the first address past the highest that a ramdisk may use: a bzImage says it, for an ELF kernel it is 4 GiB
unfoldable pub end_by : Format → List ℕ → ℕ
end_by Elf image = 0x100000000
end_by BzImage image = ramdisk_end image
end_by Arm64 image = 0x100000000

-- n bytes at an address that end there at the latest; no bytes end nowhere
unfoldable pub ends_below : ℕ → ℕ → ℕ → Bool
ends_below end at n = pick (eqb n 0) true (lies_within end at n)

-- what the page names
abbrev pub addresses_of : ZeroPage → ℕ → Addresses
addresses_of z n = record { command_line = z.line; ramdisk = z.ramdisk; ramdisk_size = n }

abbrev pub page_bytes : List ℕ → Options → ZeroPage → List ℕ → List ℕ → KernelLoaderResult → List ℕ
page_bytes image o z ramdisk rows k =
    page.page_of (setup_by o.format image k.kernel_load.0) (addresses_of z (length ramdisk)) rows

-- a ramdisk that does not end above what the kernel takes, and whose size the page can name
abbrev pub ramdisk_tests : List ℕ → Format → ℕ → ℕ → List Test
ramdisk_tests image f at n = (ends_below (end_by f image) at n, RamdiskTooHigh) ∷ (leb n top32, RamdiskTooHigh) ∷ []

-- the checks: how it is entered, the line's own, the page's own, the ramdisk, the line's length, the pieces
abbrev pub tests : Memory → List ℕ → Options → Option ℕ → Text → ZeroPage → ℕ → List ℕ → KernelLoaderResult → List Test
tests m image o limit t z n rows k =
    zero_page_tests image o.format z.wide k.kernel_load.0
    ++ (line.tests t m z.line
    ++ (page.tests page_size rows
    ++ (ramdisk_tests image o.format z.ramdisk n
    ++ (limit_tests (limit_of image o limit) (counted t)
    ++ pieces_tests m image o 3 rows (extent z.line (counted t)) (extent z.ramdisk n) (extent z.page page_size)))))

-- the pieces after the kernel
abbrev pub blobs_of : List ℕ → Options → Text → ZeroPage → List ℕ → List ℕ → KernelLoaderResult → List Blob
blobs_of image o t z ramdisk rows k =
    (z.line, line.line_bytes t) ∷ (z.ramdisk, ramdisk) ∷ (z.page, page_bytes image o z ramdisk rows k) ∷ []

-- the entry address of a kernel that is loaded
abbrev pub entry : Options → ZeroPage → KernelLoaderResult → ℕ
entry o z k = entry_of o.format z.wide k.kernel_load.0

abbrev pub plan_of : Memory → List ℕ → Options → Option ℕ → Text → ZeroPage → List ℕ → List ℕ → Plan Answer
plan_of m image o limit t z ramdisk rows =
    plan_by (kernel.answer_of image m o) (tests m image o limit t z (length ramdisk) rows) (entry o z)
    (λ (k : KernelLoaderResult). boot_stream image o (blobs_of image o t z ramdisk rows k))

-- its answer, for which the ramdisk's size is enough
abbrev pub answer_of : Memory → List ℕ → Options → Option ℕ → Text → ZeroPage → ℕ → List ℕ → Answer
answer_of m image o limit t z n rows =
    (plan_by (kernel.answer_of image m o) (tests m image o limit t z n rows) (entry o z) (λ _. [])).answer

-- a boot into guest memory with a map that held `before`: it answers r and leaves `after`
abbrev pub Boots : List ℕ → Options → Option ℕ → Text → ZeroPage → List ℕ → List ℕ → Map → List ℕ → Answer → List ℕ → Type 0
Boots image o limit t z ramdisk rows map before r after =
    Loads (plan_of (memory_of before map) image o limit t z ramdisk rows) before r after
