-- `formats::part_in`: a header of the table, or the one part.
use mathlib.Core.Path.{ap, sym, subst, ◌∙◌}
use Prim.Native.Nat.{◌+◌, ◌*◌, ◌≤◌}
use lib.ListN.{length}
use native.Mathlib.Omega.{arith}
use Rattle.elf.proofs.ProgramHeadersLaws.{own_part_lem}
use Rattle.loads.specs.Layout.{part_in, HeaderLies}
use Rattle.loads.specs.declared.formats.Layout.{Layout}
use Rattle.loads.proofs.formats.part_in.Goals as goal

pub returns-in-Table : goal.returns-in-Table
unfolding part_in
returns-in-Table c =
    let args = c.args in
    let lies : c.in-Table.table.0 + 56 * args.i + 56 ≤ length args.image.now = subst (λ l. HeaderLies args.image.now l args.i) c.in-Table.is c.requires in
    c.of_header.ensures ∙ own_part_lem args.image.now (c.in-Table.table.0 + 56 * args.i) c.in-Table.shift.0 (omega arith)
    ∙ ap (λ (l : Layout). part_in args.image.now l args.i) (sym c.in-Table.is)
