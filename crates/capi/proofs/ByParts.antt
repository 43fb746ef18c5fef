-- "Copied one after the other, the parts leave guest memory as the load does", with the numbers as `rekusoyen_raw_part` reports them: a part of no bytes, all
-- of whose numbers are 0, is copied as it would be with its own.
use Rattle.std.specs.Prelude.{Ok}
use Rattle.guest.specs.Answers.{Answer}
use Prim.Native.Nat.{ℕ}
use mathlib.Core.Path.{◌≡◌, refl, ◌∙◌}
use mathlib.Core.List.{List}
use borrow.Author.Tests.{eqb-true}
use lib.Dec.{eqb}
use Rattle.answers.proofs.PickLaws.{pick_with}
use Rattle.guest.specs.Room.{memory_of}
use Rattle.guest.specs.declared.KernelLoaderResult.{KernelLoaderResult}
use Rattle.guest.specs.declared.Map.{Map}
use Rattle.guest.specs.declared.Part.{Part}
use Rattle.loads.specs.ByParts.{copied, copied_from}
use Rattle.loads.specs.Formats.{count_of, LoadSays}
use Rattle.loads.specs.Steps.{tested_part}
use Rattle.loads.specs.declared.Options.{Options}
use Rattle.loads.proofs.ByParts.{by_tested_parts, copied_alike}
use Rattle.capi.specs.Parts.{with_bytes}

reported_copied : (image : List ℕ) (p : Part) (g : List ℕ) → copied image p g ≡ copied image (with_bytes p) g
unfolding with_bytes
reported_copied image p g =
    pick_with (λ (q : Part). copied image p g ≡ copied image q g) (eqb p.size 0) (λ e. rw (eqb-true p.size 0 e) refl) (λ _. refl)

pub reported_parts : (image : List ℕ) (o : Options) (map : Map) (before after : List ℕ) {r : Answer} {k : KernelLoaderResult}
    → LoadSays image o map before r after → r ≡ Ok k
    → after ≡ copied_from (count_of image o) image (λ i. with_bytes (tested_part image (memory_of before map) o i)) 0 before
reported_parts image o map before after says is =
    let part = tested_part image (memory_of before map) o in
    by_tested_parts image o map before after says is
    ∙ copied_alike (count_of image o) image part (λ i. with_bytes (part i)) 0 before (λ j le lt g. reported_copied image (part j) g)
