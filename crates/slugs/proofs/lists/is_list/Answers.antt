-- `lists::is_list`: sorted ends rise, and then the last one decides.
use Rattle.std.proofs.Common.{arith, rules, ◌∙◌, ◌≡◌, length, ◌<◌, ◌-◌, get_or, ap, false}
use Rattle.std.specs.Prelude.{nat_eq}
use Rattle.std.proofs.lemmas.List.Sorted.{non_decreasing_from_is_sorted}
use Rattle.slugs.proofs.ListsLaws.{list_none, list_sorted, list_fallen}
use Rattle.slugs.proofs.lists.is_list.Goals as goal

pub returns-in-None : goal.returns-in-None
returns-in-None c = list_none c.args.ends.now c.args.len (grind arith)

pub returns-then-is_sorted : goal.returns-then-is_sorted
returns-then-is_sorted c =
    let ends = c.args.ends.now in
    let some : 0 < length ends = search rules in
    let last : c.in-Some.last.now ≡ get_or ends (length ends - 1) 0 = search rules in
    ap (λ n. nat_eq n c.args.len) last ∙ list_sorted ends c.args.len some (λ k h. search rules)

pub returns-else-is_sorted : goal.returns-else-is_sorted
returns-else-is_sorted c =
    let fall = non_decreasing_from_is_sorted c.args.ends.now false ((c.if-is_sorted.ensures {u = tt}).cases) in
    c.if-is_sorted.false ∙ list_fallen c.args.ends.now c.args.len fall.0 fall.1 (fall.2 0)
