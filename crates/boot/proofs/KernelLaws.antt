-- Laws of the memory that a kernel uses.
use Rattle.std.specs.Prelude.{Ok, is_ok}
use Prim.Native.Nat.{ℕ, zero, suc, ◌+◌, ◌≤◌, ◌<◌}
use mathlib.Core.Path.{◌≡◌, ◌∙◌, refl, ap}
use mathlib.Core.Bool.{true}
use mathlib.Core.List.{List, []}
use native.Mathlib.Omega.{arith}
use lib.ListN.{get_or, drop, length-take}
use Rattle.answers.specs.Pick.{pick}
use Rattle.answers.proofs.BoolLaws.{both_held}
use Rattle.fields.specs.Ranges.{Among}
use Rattle.fields.proofs.ApartLaws.{apart_none}
use Rattle.fields.proofs.EveryLaws.{every_each}
use Rattle.guest.specs.Answers.{Answer}
use Rattle.guest.specs.Parts.{part_stream, parts_from}
use Rattle.guest.specs.Room as room
use Rattle.guest.specs.Stream.{pour, bytes_at}
use Rattle.guest.specs.declared.Extent.{Extent}
use Rattle.guest.specs.declared.KernelLoaderResult.{KernelLoaderResult}
use Rattle.guest.specs.declared.Map.{Map}
use Rattle.guest.specs.declared.Part.{Part}
use Rattle.guest.proofs.StreamLaws.{pour_append}
use Rattle.loads.specs.Formats.{count_of, part_of, memory_of, answer_of, LoadSays}
use Rattle.loads.specs.declared.Options.{Options}
use Rattle.boot.specs.Kernel.{apart_from, written_to, apart_at, kernel_apart, kernel_stream, InKernel, in_part, in_memory}
use Rattle.boot.proofs.BlobsHold.{blob_outside}

-- a range that is apart from the kernel has no address of it
pub kernel_apart_lem : (image : List ℕ) (o : Options) (e : Extent) → kernel_apart image o e ≡ true → (a : ℕ) → InKernel image o a
    → Among a e.at.0 e.size → ⊥
unfolding kernel_apart
kernel_apart_lem image o e held a (in_part i lt among) in_e =
    let both = both_held (apart_from (written_to (part_of image o i)) e) (apart_from (memory_of image o i) e)
    (every_each (apart_at image o e) (count_of image o) i held lt) in
    apart_none (part_of image o i).address.0 (part_of image o i).size e.at.0 e.size both.0 a among in_e
kernel_apart_lem image o e held a (in_memory i lt among) in_e =
    let both = both_held (apart_from (written_to (part_of image o i)) e) (apart_from (memory_of image o i) e)
    (every_each (apart_at image o e) (count_of image o) i held lt) in
    apart_none (memory_of image o i).at.0 (memory_of image o i).size e.at.0 e.size both.1 a among in_e

-- parts change no byte that belongs to none of them
parts_outside : (image : List ℕ) (part : ℕ → Part) (a : ℕ) (k i : ℕ)
    → ((j : ℕ) → i ≤ j → j < i + k → Among a (part j).address.0 (part j).size → ⊥) → (guest : List ℕ)
    → get_or (pour (parts_from k image part i) guest) a 0 ≡ get_or guest a 0
unfolding parts_from part_stream pour
parts_outside image part a zero i out guest = refl
parts_outside image part a (suc k) i out guest =
    let p = part i in
    let short = length-take p.size (drop p.place.0 image) in
    ap (λ (l : List ℕ). get_or l a 0) (pour_append (part_stream image p) (parts_from k image part (suc i)) guest)
    ∙ parts_outside image part a k (suc i) (λ j le lt. out j (omega arith) (omega arith)) (pour (part_stream image p) guest)
    ∙ blob_outside p.address.0 (bytes_at image p.place.0 p.size) a
    (λ among. out i (omega arith) (omega arith) (record { from = among.from; below = let below = among.below in omega arith })) guest

pub kernel_outside : (image : List ℕ) (o : Options) (a : ℕ) → (InKernel image o a → ⊥) → (guest : List ℕ)
    → get_or (pour (kernel_stream image o) guest) a 0 ≡ get_or guest a 0
kernel_outside image o a out =
    parts_outside image (part_of image o) a (count_of image o) 0 (λ j le lt among. out (in_part j (omega arith) among))

-- a load that is accepted writes all of the kernel
pub kernel_written : (image : List ℕ) (o : Options) (map : Map) (before : List ℕ) {r : Answer} {after : List ℕ} {k : KernelLoaderResult}
    → LoadSays image o map before r after → answer_of image (room.memory_of before map) o ≡ Ok k → after ≡ pour (kernel_stream image o) before
unfolding pick
kernel_written image o map before says e =
    says.memory ∙ ap (λ (a : Answer). pour (pick (is_ok a) (kernel_stream image o) []) before) e
