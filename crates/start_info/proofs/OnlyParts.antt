-- "Nothing else of guest memory changes": a byte of no part is as it was; and no byte in a hole of the map changes, whatever the input.
use Rattle.answers.specs.Tests.{Check, pass}
use Rattle.std.specs.Prelude.{Err}
use Prim.Native.Nat.{ℕ}
use mathlib.Core.Path.{◌≡◌, ap, ◌∙◌}
use mathlib.Core.Bool.{false}
use mathlib.Core.List.{List}
use native.Mathlib.Omega.{arith}
use lib.ListN.{length, get_or}
use lib.Seq.{sets}
use Rattle.fields.specs.Ranges.{Among}
use Rattle.fields.proofs.CopyingLaws.{sets_outside}
use Rattle.guest.specs.Maps.{ranges_of, in_ranges}
use Rattle.guest.specs.Room.{memory_of}
use Rattle.guest.specs.Stream.{Inside}
use Rattle.guest.specs.declared.Map.{Map}
use Rattle.guest.specs.declared.Memory.{Memory}
use Rattle.guest.proofs.LoadingLaws.{hole_untouched, behind_inside}
use Rattle.guest.proofs.StreamLaws.{inside_append}
use Rattle.start_info.specs.declared.Start.{Start}
use Rattle.start_info.specs.Kinds.{module_widths, range_widths, block_size}
use Rattle.start_info.specs.Parts.{list_size}
use Rattle.start_info.specs.Writing.{tests, start_plan, plan_of, Writes}
use Rattle.start_info.proofs.PartsLaws.{part_inside}
use Rattle.start_info.proofs.WritingLaws.{poured_put}
use Rattle.start_info.proofs.Held.{block_bytes, bytes_of, block_bytes_lem, modules_size, ranges_size, block_lies, modules_lie, ranges_lie}
use Rattle.start_info.proofs.Refusals.{written_where, where_written}

-- what is written goes into memory
pub plan_inside : (m : Memory) (start : Start) (modules ranges : List ℕ) → Inside m (plan_of m start modules ranges).stream
plan_inside m start modules ranges =
    behind_inside Err (tests m start modules ranges) (start_plan start modules ranges) m
    (λ hold.
    inside_append
    (inside_append
    (part_inside m start.block.0 block_size (block_bytes start modules ranges) (block_bytes_lem start modules ranges) (block_lies m start modules ranges hold))
    (part_inside m start.modules.0 (list_size module_widths modules) (bytes_of module_widths modules) (modules_size m start modules ranges hold)
    (modules_lie m start modules ranges hold)))
    (part_inside m start.ranges.0 (list_size range_widths ranges) (bytes_of range_widths ranges) (ranges_size m start modules ranges hold)
    (ranges_lie m start modules ranges hold)))

-- stores at places that are not those of this byte
outside : (bytes s : List ℕ) (at n a : ℕ) → length bytes ≡ n → (Among a at n → ⊥) → get_or (sets s at bytes) a 0 ≡ get_or s a 0
outside bytes s at n a e out = sets_outside bytes s at a (λ low high. out (record { from = low; below = omega arith }))

module _ (start : Start) (modules ranges : List ℕ) (map : Map) (before : List ℕ) {r : Check} {after : List ℕ}
    (writes : Writes start modules ranges map before r after) where
  pub only_parts : r ≡ pass → (a : ℕ) → (Among a start.block.0 block_size → ⊥) → (Among a start.modules.0 (list_size module_widths modules) → ⊥)
      → (Among a start.ranges.0 (list_size range_widths ranges) → ⊥) → get_or after a 0 ≡ get_or before a 0
  only_parts e a no_block no-modules no-ranges =
      let hold = where_written start modules ranges map before writes e in
      let m = memory_of before map in
      let first = sets before start.block.0 (block_bytes start modules ranges) in
      ap (λ (l : List ℕ). get_or l a 0) ((written_where start modules ranges map before writes hold).1 ∙ poured_put start modules ranges before)
      ∙ outside (bytes_of range_widths ranges) (sets first start.modules.0 (bytes_of module_widths modules)) start.ranges.0 (list_size range_widths ranges) a (ranges_size m start modules ranges hold) no-ranges
      ∙ outside (bytes_of module_widths modules) first start.modules.0 (list_size module_widths modules) a (modules_size m start modules ranges hold) no-modules
      ∙ outside (block_bytes start modules ranges) before start.block.0 block_size a (block_bytes_lem start modules ranges) no_block

  pub holes_untouched : (a : ℕ) → in_ranges (ranges_of map) a 1 ≡ false → get_or after a 0 ≡ get_or before a 0
  holes_untouched =
      hole_untouched (plan_of (memory_of before map) start modules ranges) before after writes map (plan_inside (memory_of before map) start modules ranges)
