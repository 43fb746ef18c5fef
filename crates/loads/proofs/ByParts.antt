-- "Which image bytes go where", of a load of any format: copying the parts that `formats::part` answers, one after the other, leaves guest memory as an
-- accepted load does; and so do the parts that were tested, each of which lies in the image and in one range of guest memory.
use Rattle.std.specs.Prelude.{Ok, is_ok}
use Prim.Native.Nat.{ℕ, zero, suc, ◌+◌, ◌≤◌, ◌<◌}
use mathlib.Core.Path.{◌≡◌, sym, ◌∙◌, refl, ap}
use mathlib.Core.List.{List, []}
use native.Mathlib.Omega.{arith}
use Rattle.answers.specs.Pick.{pick}
use Rattle.guest.specs.Answers.{Answer}
use Rattle.guest.specs.Parts.{part_stream, parts_from}
use Rattle.guest.specs.Room.{memory_of}
use Rattle.guest.specs.Stream.{Poke, bytes_at, pour}
use Rattle.guest.specs.declared.KernelLoaderResult.{KernelLoaderResult}
use Rattle.guest.specs.declared.Map.{Map}
use Rattle.guest.specs.declared.Memory.{Memory}
use Rattle.guest.specs.declared.Part.{Part}
use Rattle.guest.proofs.StreamLaws.{pour_append, pour_at}
use Rattle.loads.specs.ByParts.{copied, copied_from}
use Rattle.loads.specs.Formats.{answer_of, count_of, part_of, plan_of, LoadSays}
use Rattle.loads.specs.Steps.{tested_part}
use Rattle.loads.specs.declared.Options.{Options}
use Rattle.loads.proofs.FormatsLaws.{parts_tested}

-- pouring a part is copying it
part_copied : (image : List ℕ) (p : Part) (guest : List ℕ) → pour (part_stream image p) guest ≡ copied image p guest
unfolding part_stream
part_copied image p guest = pour_at (bytes_at image p.place.0 p.size) guest p.address.0

-- and of parts one after the other
parts_copied : (k : ℕ) (image : List ℕ) (part : ℕ → Part) (i : ℕ) (guest : List ℕ) → pour (parts_from k image part i) guest ≡ copied_from k image part i guest
unfolding parts_from copied_from pour
parts_copied zero image part i guest = refl
parts_copied (suc k) image part i guest =
    pour_append (part_stream image (part i)) (parts_from k image part (suc i)) guest
    ∙ ap (λ g. pour (parts_from k image part (suc i)) g) (part_copied image (part i) guest)
    ∙ parts_copied k image part (suc i) (copied image (part i) guest)

-- parts that are copied alike one by one are so one after the other
pub copied_alike : (k : ℕ) (image : List ℕ) (part part' : ℕ → Part) (i : ℕ) (guest : List ℕ)
    → ((j : ℕ) → i ≤ j → j < i + k → (g : List ℕ) → copied image (part j) g ≡ copied image (part' j) g)
    → copied_from k image part i guest ≡ copied_from k image part' i guest
unfolding copied_from
copied_alike zero image part part' i guest alike = refl
copied_alike (suc k) image part part' i guest alike =
    ap (copied_from k image part (suc i)) (alike i (omega arith) (omega arith) guest)
    ∙ copied_alike k image part part' (suc i) (copied image (part' i) guest) (λ j le lt. alike j (omega arith) (omega arith))

pub copied_same : (k : ℕ) (image : List ℕ) (part part' : ℕ → Part) (i : ℕ) (guest : List ℕ) → ((j : ℕ) → i ≤ j → j < i + k → part j ≡ part' j)
    → copied_from k image part i guest ≡ copied_from k image part' i guest
copied_same k image part part' i guest same = copied_alike k image part part' i guest (λ j le lt g. ap (λ (p : Part). copied image p g) (same j le lt))

-- ---- of an accepted load

loaded_stream : (image : List ℕ) (m : Memory) (o : Options) {k : KernelLoaderResult} → answer_of image m o ≡ Ok k
    → (plan_of image m o).stream ≡ parts_from (count_of image o) image (part_of image o) 0
unfolding pick
loaded_stream image m o is = ap (λ (a : Answer). pick (is_ok a) (parts_from (count_of image o) image (part_of image o) 0) []) is

module _ (image : List ℕ) (o : Options) (map : Map) (before after : List ℕ) {r : Answer} {k : KernelLoaderResult} (says : LoadSays image o map before r after)
    (is : r ≡ Ok k) where
  answered : answer_of image (memory_of before map) o ≡ Ok k
  answered = sym says.answer ∙ is

  pub by_parts : after ≡ copied_from (count_of image o) image (part_of image o) 0 before
  by_parts =
      says.memory
      ∙ ap (λ (ps : List Poke). pour ps before) (loaded_stream image (memory_of before map) o answered)
      ∙ parts_copied (count_of image o) image (part_of image o) 0 before

  pub by_tested_parts : after ≡ copied_from (count_of image o) image (tested_part image (memory_of before map) o) 0 before
  by_tested_parts =
      says.memory
      ∙ ap (λ (ps : List Poke). pour ps before) (loaded_stream image (memory_of before map) o answered ∙ sym (parts_tested image (memory_of before map) o answered))
      ∙ parts_copied (count_of image o) image (tested_part image (memory_of before map) o) 0 before
