-- `map::is_good`: the rows before j are what is left to test.
use Rattle.std.proofs.Common.{◌≡◌, ◌≤◌}
use Rattle.fields.specs.Every.{every}
use Rattle.boot_page.specs.Map.{rows_apart}
use Rattle.boot_page.proofs.map.is_good.Given as goal

abbrev pub invariant-loop-j : goal.invariant-loop-j
invariant-loop-j l = (l.j ≤ l.i) × (every (rows_apart l.rows l.i) l.i ≡ every (rows_apart l.rows l.i) l.j)
