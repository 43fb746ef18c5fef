-- `ranges::are_apart`: by which of the two starts is the later.
use mathlib.Core.Path.{sym, ◌∙◌}
use native.Mathlib.Omega.{arith}
use borrow.Author.Tests.{le-leb}
use Rattle.fields.proofs.ApartLaws.{apart_symmetric, apart_before, apart_empty}
use Rattle.fields.proofs.ranges.are_apart.Goals as goal

pub returns-then-n-b : goal.returns-then-n-b
returns-then-n-b c =
    let args = c.args in
    le-leb _ _ c.if-n-b.true ∙ sym (apart_before args.a args.n args.b args.m (omega arith))

pub returns-else-n-b : goal.returns-else-n-b
returns-else-n-b c = let args = c.args in apart_empty args.a args.n args.b args.m (omega arith) (omega arith)

pub returns-then-m-a : goal.returns-then-m-a
returns-then-m-a c =
    let args = c.args in
    le-leb _ _ c.if-m-a.true ∙ sym (apart_symmetric args.a args.n args.b args.m ∙ apart_before args.b args.m args.a args.n (omega arith))

pub returns-else-m-a : goal.returns-else-m-a
returns-else-m-a c =
    let args = c.args in
    apart_empty args.b args.m args.a args.n (omega arith) (omega arith) ∙ sym (apart_symmetric args.a args.n args.b args.m)
