-- `maps::same`: the counts first, then each range that is read.
use Rattle.std.proofs.Common.{◌∙◌, sym, ◌&&◌, ℕ, rules, refl, arith, nat_eq, get_or}
use Rattle.std.proofs.lemmas.Iterator.{YieldsList-from_range}
use Rattle.std.proofs.lemmas.Iterator.Search.{all_from_yields_List}
use borrow.Author.Tests.{ne_eqb}
use Rattle.guest.proofs.MapsLaws.{same_all, same_counted, other_count}
use Rattle.guest.proofs.maps.same.Goals as goal

pub returns-then-a-b : goal.returns-then-a-b
returns-then-a-b c =
    let a = c.args.a.now in
    let b = c.args.b.now in
    let k = c.len.result in
    all_from_yields_List (λ (i : ℕ). nat_eq (get_or a.starts i 0) (get_or b.starts i 0) && nat_eq (get_or a.sizes i 0) (get_or b.sizes i 0)) _ _ _ c.all.ensures.ran
    (YieldsList-from_range 0 k k refl (omega arith)) (λ x b q k. search rules)
    ∙ same_all k 0 a.starts a.sizes b.starts b.sizes
    ∙ same_counted a b c.if-a-b.true c.len.ensures

pub returns-else-a-b : goal.returns-else-a-b
returns-else-a-b c = ne_eqb c.args.a.now.count c.args.b.now.count c.if-a-b.false ∙ sym (other_count c.args.a.now c.args.b.now c.if-a-b.false)
