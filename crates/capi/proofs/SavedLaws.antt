-- What is kept between two steps, written and read back: a list that holds it, with other numbers after it.
use Rattle.std.specs.Prelude.{Some, None, Option}
use Rattle.guest.specs.declared.GuestAddress.{GuestAddress}
use Prim.Native.Nat.{ℕ, zero, suc, ◌+◌}
use mathlib.Core.Path.{◌≡◌, refl, sym, ap, ◌∙◌}
use mathlib.Core.Bool.{true}
use mathlib.Core.List.{List, ◌++◌}
use native.Mathlib.Omega.{arith}
use lib.Dec.{leb}
use lib.ListN.{length, get_or}
use lib.Seq.{sets, length-sets}
use Rattle.answers.specs.Pick.{pick}
use Rattle.answers.specs.Tests.{AllHold}
use Rattle.guest.specs.Addresses.{amount_of}
use Rattle.guest.specs.Maps.{every_second, map_of}
use Rattle.guest.specs.Room.{memory_of}
use Rattle.guest.specs.declared.Memory.{Memory}
use Rattle.loads.specs.declared.Stage.{Stage}
use Rattle.loads.specs.declared.Stage.TheVariants.{Fresh, Copying, Done}
use Rattle.capi.specs.Options.{given_by}
use Rattle.capi.specs.Saved.{numbers_from, stage_code, stage_of, given_code, head_of, with_kept, kept_in, kept_tests, answer_place}
use Rattle.capi.specs.declared.progress.Kept.{Kept}
use Rattle.capi.proofs.ListsLaws.{from_behind, from_front_of, laid, get_d_fourth}
use Rattle.capi.proofs.NumbersLaws.{length_numbers}

-- ---- each number read back, and it passes its test

stage_back : (s : Stage) → stage_of (stage_code s) ≡ s
unfolding stage_of stage_code pick
stage_back Fresh = refl
stage_back Copying = refl
stage_back Done = refl

given_back : (g : Option GuestAddress) → given_by (given_code g) (amount_of g) ≡ g
unfolding given_by given_code amount_of pick
given_back None = refl
given_back (Some a) = refl

stage_passes : (s : Stage) → leb (stage_code s) 2 ≡ true
unfolding stage_code
stage_passes Fresh = refl
stage_passes Copying = refl
stage_passes Done = refl

given_passes : (g : Option GuestAddress) → leb (given_code g) 1 ≡ true
unfolding given_code
given_passes None = refl
given_passes (Some a) = refl

-- ---- a list written

-- a memory whose map has sixteen starts and sixteen sizes, as every map has
pub record Sixteen (m : Memory) : Type 0 where
  pub starts : length m.map.starts ≡ 16
  pub sizes : length m.map.sizes ≡ 16

module _ (k : Kept) (told numbers : List ℕ) (size : length numbers ≡ 42 + length told) (full : Sixteen k.progress.memory) where
  -- the list, part by part
  abbrev pub row : List ℕ
  row = head_of k ++ (k.progress.memory.map.starts ++ (k.progress.memory.map.sizes ++ told))

  pub row_written : sets (with_kept k numbers) answer_place told ≡ row
  row_written = laid (head_of k) k.progress.memory.map.starts k.progress.memory.map.sizes told numbers refl full.starts full.sizes size

  pub row_told : (at n : ℕ) → at ≡ 42 + n → get_or row at 0 ≡ get_or told n 0
  row_told at n e =
      get_d_fourth (head_of k) k.progress.memory.map.starts k.progress.memory.map.sizes told at n refl full.starts full.sizes e

  row_starts : numbers_from 16 row 10 ≡ k.progress.memory.map.starts
  row_starts =
      let behind = k.progress.memory.map.sizes ++ told in
      from_behind 16 (head_of k) (k.progress.memory.map.starts ++ behind) 10 0 refl ∙ from_front_of 16 k.progress.memory.map.starts behind full.starts

  row_sizes : numbers_from 16 row 26 ≡ k.progress.memory.map.sizes
  row_sizes =
      let starts = k.progress.memory.map.starts in
      let sizes = k.progress.memory.map.sizes in
      let sixteen = full.starts in
      from_behind 16 (head_of k) (starts ++ (sizes ++ told)) 26 16 refl ∙ from_behind 16 starts (sizes ++ told) 16 0 (omega arith)
      ∙ from_front_of 16 sizes told full.sizes

  pub row_back : kept_in row ≡ k
  row_back =
      rw (
        row_starts,
        row_sizes,
        stage_back k.progress.stage,
        given_back k.kernel_offset,
        given_back k.highmem_start,
      )

  pub row_good : AllHold (kept_tests row)
  row_good = (stage_passes k.progress.stage, (given_passes k.kernel_offset, (given_passes k.highmem_start, tt)))

  pub row_length : length row ≡ length numbers
  row_length =
      ap length (sym row_written)
      ∙ length-sets (with_kept k numbers) 42 told
      ∙ length-sets (sets (sets numbers 0 (head_of k)) 10 k.progress.memory.map.starts) 26 k.progress.memory.map.sizes
      ∙ length-sets (sets numbers 0 (head_of k)) 10 k.progress.memory.map.starts
      ∙ length-sets numbers 0 (head_of k)

-- ---- the maps that a step keeps have sixteen starts and sixteen sizes

length_second : (k : ℕ) (numbers : List ℕ) (at : ℕ) → length (every_second k numbers at) ≡ k
unfolding every_second
length_second zero numbers at = refl
length_second (suc k) numbers at = ap suc (length_second k numbers (suc (suc at)))

pub map_sixteen : (guest map : List ℕ) → Sixteen (memory_of guest (map_of map))
map_sixteen guest map = record { starts = length_second 16 map 0; sizes = length_second 16 map 1 }

pub kept_sixteen : (numbers : List ℕ) → Sixteen (kept_in numbers).progress.memory
kept_sixteen numbers = record { starts = length_numbers 16 numbers 10; sizes = length_numbers 16 numbers 26 }
