-- `rows::read_rows`: the numbers still to be read, from i on and at p, make of the list what all make of it as it was.
use Prim.Native.Nat.{◌-◌, ◌≤◌}
use mathlib.Core.Path.{◌≡◌}
use lib.ListN.{length}
use lib.Seq.{sets}
use Rattle.fields.specs.Rows.{field_width, rows_numbers}
use Rattle.fields.proofs.rows.read_rows.Given as goal

abbrev pub invariant-loop-i : goal.invariant-loop-i
invariant-loop-i l =
    (l.i ≤ length l.initial.numbers) × (length l.numbers ≡ length l.initial.numbers)
    × (sets l.numbers l.i (rows_numbers (field_width l.widths) (length l.initial.numbers - l.i) l.s l.p l.i)
    ≡ sets l.initial.numbers 0 (rows_numbers (field_width l.widths) (length l.initial.numbers) l.s l.at 0))
