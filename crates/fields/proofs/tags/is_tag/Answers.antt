-- `tags::is_tag`: each byte of the tag is at its place.
use Rattle.std.proofs.Common.{◌∙◌, ℕ, ◌+◌, rules, nat_eq, arith}
use Rattle.std.proofs.lemmas.Iterator.{YieldsList-from_slice}
use Rattle.std.proofs.lemmas.Iterator.Consumers.{YieldsList-from_enumerate}
use Rattle.std.proofs.lemmas.Iterator.Search.{all_from_yields_List}
use Rattle.fields.specs.Numbers.{le}
use Rattle.fields.proofs.TagsLaws.{tag_all}
use Rattle.fields.proofs.tags.is_tag.Goals as goal

pub returns : goal.returns
returns c =
    let args = c.args in
    all_from_yields_List (λ (p : ℕ × ℕ). nat_eq (le 1 args.s.now (args.at + p.0)) p.1) _ _ _ c.all.ensures.ran
    (YieldsList-from_enumerate (YieldsList-from_slice args.tag.now cc) cc) (λ x b q k. search rules)
    ∙ tag_all args.tag.now args.s.now args.at 0 args.at (omega arith)
