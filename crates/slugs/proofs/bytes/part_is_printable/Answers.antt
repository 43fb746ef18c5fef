-- `bytes::part_is_printable`: of the bytes that were looked at, all are printable if none was found that is not.
use Rattle.std.proofs.Common.{◌≡◌, refl, subst, rules}
use Rattle.std.proofs.lemmas.Fn.{fold_over, slice_gives, fronts}
use Rattle.slugs.specs.Bytes.{printable, all_bytes}
use Rattle.slugs.proofs.BytesLaws.{every_more}
use Rattle.slugs.proofs.bytes.part_is_printable.Goals as goal

pub returns : goal.returns
unfolding all_bytes
returns c =
    subst (λ s. c.fold.result ≡ all_bytes printable s) c.iter.ensures.rest
    (fold_over fronts (λ x. x.now) _ (λ s all. all ≡ all_bytes printable s) _ (λ s all x more f' j k. let last = every_more printable s x.now in search rules)
    _ _ _ _ (slice_gives c.iter.result) refl c.fold.ensures.ran)
