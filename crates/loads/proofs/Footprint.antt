-- "Two images of one length that hold the same bytes where a plan looks have the same plan": the same answer, the same number of parts and the same parts,
-- whatever the rest of either image holds. So a caller may plan with those bytes only, and copy the parts from the whole image: guest memory is then as the
-- load of the whole image leaves it.
use Rattle.std.specs.Prelude.{Ok, Option}
use Rattle.guest.specs.declared.GuestAddress.{GuestAddress}
use Rattle.guest.specs.Answers.{Answer}
use Prim.Native.Nat.{ℕ}
use mathlib.Core.Path.{◌≡◌, refl, ◌∙◌, ap}
use mathlib.Core.List.{List}
use Rattle.guest.specs.Addresses.{amount_of}
use Rattle.guest.specs.Room.{memory_of}
use Rattle.guest.specs.declared.KernelLoaderResult.{KernelLoaderResult}
use Rattle.guest.specs.declared.Map.{Map}
use Rattle.guest.specs.declared.Memory.{Memory}
use Rattle.guest.specs.declared.Part.{Part}
use Rattle.elf.proofs.Footprint as elf
use Rattle.bzimage.proofs.Footprint as bzimage
use Rattle.arm64.proofs.Footprint as arm64
use Rattle.loads.specs.ByParts.{copied_from}
use Rattle.guest.specs.Parts.{no_part}
use Rattle.loads.specs.Formats.{answer_by, count_by, only_at, part_by, answer_of, count_of, part_of, LoadSays}
use Rattle.loads.specs.Growing.{SameFootprint}
use Rattle.loads.specs.declared.Format.{Format}
use Rattle.loads.specs.declared.Format.TheVariants.{Elf, BzImage, Arm64}
use Rattle.loads.specs.declared.Options.{Options}
use Rattle.loads.proofs.ByParts.{by_parts, copied_same}

module _ (s t : List ℕ) (m : Memory) (offset highmem : Option GuestAddress) where
  answer_by_lem : (f : Format) → SameFootprint f s t offset → answer_by f s m offset highmem ≡ answer_by f t m offset highmem
  unfolding SameFootprint answer_by
  answer_by_lem Elf same = elf.plan_same s t offset same m highmem
  answer_by_lem BzImage same = bzimage.plan_same s t same m offset highmem
  answer_by_lem Arm64 same = arm64.plan_same s t same m (amount_of offset)

  count_by_lem : (f : Format) → SameFootprint f s t offset → count_by f s ≡ count_by f t
  unfolding SameFootprint count_by
  count_by_lem Elf same = elf.phnum_same s t offset same
  count_by_lem BzImage same = refl
  count_by_lem Arm64 same = refl

  part_by_lem : (f : Format) → SameFootprint f s t offset → (i : ℕ) → part_by f s offset i ≡ part_by f t offset i
  unfolding SameFootprint part_by
  part_by_lem Elf same i = elf.parts_same s t offset same i
  part_by_lem BzImage same i = ap (λ (p : Part). only_at p no_part i) (bzimage.part_same s t same m offset highmem)
  part_by_lem Arm64 same i = ap (λ (p : Part). only_at p no_part i) (arm64.part_same s t same m (amount_of offset))

module _ (s t : List ℕ) (o : Options) (same : SameFootprint o.format s t o.kernel_offset) where
  pub answer_same : (m : Memory) → answer_of s m o ≡ answer_of t m o
  answer_same m = answer_by_lem s t m o.kernel_offset o.highmem_start o.format same

  pub count_same : (m : Memory) → count_of s o ≡ count_of t o
  count_same m = count_by_lem s t m o.kernel_offset o.highmem_start o.format same

  pub parts_same : (m : Memory) (i : ℕ) → part_of s o i ≡ part_of t o i
  parts_same m i = part_by_lem s t m o.kernel_offset o.highmem_start o.format same i

  -- a load by the parts of the other image
  pub planned_elsewhere : (map : Map) (before after : List ℕ) {r : Answer} {k : KernelLoaderResult} → LoadSays s o map before r after → r ≡ Ok k
      → (r ≡ answer_of t (memory_of before map) o) × (after ≡ copied_from (count_of t o) s (part_of t o) 0 before)
  planned_elsewhere map before after says is =
      let m = memory_of before map in (
        says.answer ∙ answer_same m,
        by_parts s o map before after says is
            ∙ copied_same (count_of s o) s (part_of s o) (part_of t o) 0 before (λ j le lt. parts_same m j)
            ∙ ap (λ n. copied_from n s (part_of t o) 0 before) (count_same m),
      )
