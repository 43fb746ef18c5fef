-- `kinds::are_zero`: the test of every number.
use Rattle.std.proofs.Common.{◌∙◌, ℕ, rules}
use Rattle.std.proofs.lemmas.Iterator.{YieldsList-from_slice}
use Rattle.std.proofs.lemmas.Iterator.Consumers.{YieldsList-from_enumerate}
use Rattle.std.proofs.lemmas.Iterator.Search.{all_from_yields_List}
use Rattle.start_info.specs.Kinds.{reserved_is_zero}
use Rattle.start_info.proofs.KindsLaws.{zero_listed}
use Rattle.start_info.proofs.kinds.are_zero.Goals as goal

pub returns : goal.returns
returns c =
    let list = c.args.list.now in
    all_from_yields_List (λ (p : ℕ × ℕ). reserved_is_zero p.0 p.1) _ _ _ c.all.ensures.ran
    (YieldsList-from_enumerate (YieldsList-from_slice list cc) cc) (λ x b q k. search rules)
    ∙ zero_listed list
