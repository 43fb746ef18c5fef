-- A boot with a device tree: an arm64 Image, a ramdisk, and the tree, made by the caller, which has the line in it.
use Rattle.std.specs.Prelude.{ℕ, ◌+◌, Bool, ◌&&◌, List, [], ◌∷◌, ◌++◌, eqb, length, get_or, Option, is_ok}
use Rattle.answers.specs.Tests.{Test}
use Rattle.answers.specs.declared.Refusal.TheVariants.{WrongEntry, InvalidCommandLine, LineNotInTree}
use Rattle.cmdline.specs.Text.{size_of}
use Rattle.cmdline.specs.Writing.{bare, text_gate}
use Rattle.fields.specs.Ranges.{lies_within}
use Rattle.fields.specs.Tags.{tag_at}
use Rattle.guest.specs.Loading.{Plan, Loads}
use Rattle.guest.specs.Room.{memory_of}
use Rattle.guest.specs.declared.KernelLoaderResult.{KernelLoaderResult}
use Rattle.guest.specs.declared.Map.{Map}
use Rattle.guest.specs.declared.Memory.{Memory}
use Rattle.loads.specs.Formats as kernel
use Rattle.loads.specs.declared.Format.{Format}
use Rattle.loads.specs.declared.Options.{Options}
use Rattle.boot.specs.Blobs.{Blob}
use Rattle.boot.specs.Checks.{limit_of, limit_tests, pieces_tests}
use Rattle.boot.specs.Entering.{enters_by_tree}
use Rattle.boot.specs.Plan.{extent, boot_stream, plan_by, Answer}
use Rattle.boot.specs.declared.tree.Tree.{Tree}

-- does the tree hold the text and a zero at an offset?
unfoldable pub line_in : List ℕ → ℕ → List ℕ → Bool
line_in tree at text =
    lies_within (length tree) at (length text) && (lies_within (length tree) (at + length text) 1
    && (eqb (get_or tree (at + length text) 0) 0 && tag_at text tree at))

-- how it is entered, the text, and that the tree has it
abbrev pub own_tests : Format → List ℕ → ℕ → List ℕ → List Test
own_tests f tree at text =
    (enters_by_tree f, WrongEntry) ∷ (is_ok (text_gate (bare text [])), InvalidCommandLine) ∷
    (line_in tree at text, LineNotInTree) ∷ []

-- the checks: these, the line's length, the pieces. The line is in the tree and not a piece of its own, and the guest is
-- given no rows
abbrev pub tests : Memory → List ℕ → Options → Option ℕ → List ℕ → Tree → ℕ → List ℕ → List Test
tests m image o limit text to n tree =
    own_tests o.format tree to.line text
    ++ (limit_tests (limit_of image o limit) (size_of (length text) 0)
    ++ pieces_tests m image o 0 [] (extent 0 0) (extent to.ramdisk.0 n) (extent to.tree.0 (length tree)))

-- the pieces after the kernel
abbrev pub blobs_of : Tree → List ℕ → List ℕ → List Blob
blobs_of to ramdisk tree = (to.ramdisk.0, ramdisk) ∷ (to.tree.0, tree) ∷ []

-- the entry address of a kernel that is loaded
abbrev pub entry : KernelLoaderResult → ℕ
entry k = k.kernel_load.0

abbrev pub plan_of : Memory → List ℕ → Options → Option ℕ → List ℕ → Tree → List ℕ → List ℕ → Plan Answer
plan_of m image o limit text to ramdisk tree =
    plan_by (kernel.answer_of image m o)
    (λ (k : KernelLoaderResult). tests m image o limit text to (length ramdisk) tree) entry
    (λ (k : KernelLoaderResult). boot_stream image o (blobs_of to ramdisk tree))

-- its answer, for which the ramdisk's size is enough
abbrev pub answer_of : Memory → List ℕ → Options → Option ℕ → List ℕ → Tree → ℕ → List ℕ → Answer
answer_of m image o limit text to n tree =
    (plan_by (kernel.answer_of image m o) (λ (k : KernelLoaderResult). tests m image o limit text to n tree) entry
    (λ _. [])).answer

-- a boot into guest memory with a map that held `before`: it answers r and leaves `after`
abbrev pub Boots : List ℕ → Options → Option ℕ → List ℕ → Tree → List ℕ → List ℕ → Map → List ℕ → Answer → List ℕ → Type 0
Boots image o limit text to ramdisk tree map before r after =
    Loads (plan_of (memory_of before map) image o limit text to ramdisk tree) before r after
