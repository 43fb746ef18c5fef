-- `digits::put_number`: the digits are the array from the place of the first on.
use mathlib.Core.Path.{◌∙◌}
use Rattle.slugs.proofs.StoredLaws.{stored_as}
use Rattle.cmdline.proofs.DigitsLaws.{part_of}
use Rattle.cmdline.proofs.digits.put_number.Goals as goal

pub returns : goal.returns
returns c =
    let spelled = c.spell-from in
    stored_as (part_of spelled.new.d spelled.result 20 spelled.ensures.1 ∙ spelled.ensures.2) c.put.ensures
