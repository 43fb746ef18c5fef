-- `rows::put_rows`: the numbers from i on, written from p on, make of s what all make of it as it was.
use Prim.Native.Nat.{◌≤◌}
use mathlib.Core.Path.{◌≡◌}
use lib.ListN.{length, drop}
use lib.Seq.{sets}
use Rattle.fields.specs.Rows.{field_width, rows_bytes}
use Rattle.fields.proofs.rows.put_rows.Given as goal

abbrev pub invariant-loop-i : goal.invariant-loop-i
invariant-loop-i l =
    (l.i ≤ length l.numbers) × (length l.s ≡ length l.initial.s)
    × (sets l.s l.p (rows_bytes (field_width l.widths) (drop l.i l.numbers) l.i) ≡ sets l.initial.s l.at (rows_bytes (field_width l.widths) l.numbers 0))
