-- `maps::in_map`: each range that is read is asked.
use Rattle.std.proofs.Common.{◌∙◌, ap, ℕ, rules, refl, arith, get_or}
use Rattle.std.proofs.lemmas.Iterator.{YieldsList-from_range}
use Rattle.std.proofs.lemmas.Iterator.Search.{any_from_yields_List}
use Rattle.guest.specs.Maps.{in_range, in_ranges, ranges_from}
use Rattle.guest.proofs.MapsLaws.{in_any}
use Rattle.guest.proofs.maps.in_map.Goals as goal

pub returns : goal.returns
returns c =
    let args = c.args in
    let k = c.len.result in
    any_from_yields_List (λ (i : ℕ). in_range (get_or args.map.now.starts i 0) (get_or args.map.now.sizes i 0) args.address args.n) _ _ _ c.any.ensures.ran
    (YieldsList-from_range 0 k k refl (omega arith)) (λ x b q k. search rules)
    ∙ in_any k 0 args.map.now.starts args.map.now.sizes args.address args.n
    ∙ ap (λ (j : ℕ). in_ranges (ranges_from j args.map.now.starts args.map.now.sizes 0) args.address args.n) c.len.ensures
