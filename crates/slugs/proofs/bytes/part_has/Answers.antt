-- `bytes::part_has`: of the bytes that were looked at, one is the byte if it was found.
use Rattle.std.proofs.Common.{◌≡◌, refl, subst, rules}
use Rattle.std.proofs.lemmas.Fn.{fold_over, slice_gives, fronts}
use Rattle.slugs.specs.Bytes.{has}
use Rattle.slugs.proofs.BytesLaws.{has_more}
use Rattle.slugs.proofs.bytes.part_has.Goals as goal

pub returns : goal.returns
unfolding has
returns c =
    let byte = c.args.byte in
    subst (λ s. c.fold.result ≡ has byte s) c.iter.ensures.rest
    (fold_over fronts (λ x. x.now) _ (λ s found. found ≡ has byte s) _ (λ s found x more f' j k. let last = has_more byte s x.now in search rules)
    _ _ _ _ (slice_gives c.iter.result) refl c.fold.ensures.ran)
