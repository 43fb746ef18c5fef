-- Laws of what is written.
use Prim.Native.Nat.{ℕ}
use mathlib.Core.Path.{◌≡◌, refl, sym, ap, ◌∙◌}
use mathlib.Core.List.{List, ◌++◌}
use lib.Seq.{sets}
use Rattle.fields.specs.Rows.{field_width, rows_bytes}
use Rattle.guest.specs.Stream.{pour}
use Rattle.guest.proofs.StreamLaws.{pour_append, pour_at}
use Rattle.start_info.specs.declared.Start.{Start}
use Rattle.start_info.specs.Kinds.{block_widths, module_widths, range_widths}
use Rattle.start_info.specs.Writing.{block_of, stream_of, start_plan}

-- three runs of stores are the pouring of the plan's stream
pub all_put : (start : Start) (modules ranges g : List ℕ) {p q r : List ℕ} → p ≡ sets g start.block.0 (rows_bytes (field_width block_widths) (block_of start modules ranges) 0)
    → q ≡ sets p start.modules.0 (rows_bytes (field_width module_widths) modules 0) → r ≡ sets q start.ranges.0 (rows_bytes (field_width range_widths) ranges 0)
    → r ≡ pour (start_plan start modules ranges).stream g
all_put start modules ranges g {p} {q} ep eq er =
    let block = stream_of block_widths (block_of start modules ranges) start.block.0 in
    let first = stream_of module_widths modules start.modules.0 in
    let second = stream_of range_widths ranges start.ranges.0 in
    er
    ∙ sym (pour_at (rows_bytes (field_width range_widths) ranges 0) q start.ranges.0)
    ∙ ap (pour second) (eq ∙ sym (pour_at (rows_bytes (field_width module_widths) modules 0) p start.modules.0))
    ∙ ap (λ (l : List ℕ). pour second (pour first l)) (ep ∙ sym (pour_at (rows_bytes (field_width block_widths) (block_of start modules ranges) 0) g start.block.0))
    ∙ sym (pour_append (block ++ first) second g ∙ ap (pour second) (pour_append block first g))

-- and the pouring is the three runs
pub poured_put : (start : Start) (modules ranges g : List ℕ)
    → pour (start_plan start modules ranges).stream g
    ≡ sets (sets (sets g start.block.0 (rows_bytes (field_width block_widths) (block_of start modules ranges) 0)) start.modules.0 (rows_bytes (field_width module_widths) modules 0)) start.ranges.0
    (rows_bytes (field_width range_widths) ranges 0)
poured_put start modules ranges g = sym (all_put start modules ranges g refl refl refl)
