-- Texts that fit.
use Rattle.std.specs.Prelude.{◌≤◌, length}
use Rattle.cmdline.specs.Limit.{limit}
use Rattle.cmdline.specs.Text.{Text, counted}

-- a line fits: its counted size is within its capacity
abbrev pub Fits : Text → Type 0
Fits t = counted t ≤ t.capacity

-- texts that the two buffers can hold, with a capacity within the limit
pub record Short (t : Text) : Type 0 where
  pub boot : length t.boot ≤ limit
  pub init : length t.init ≤ limit
  pub capacity : t.capacity ≤ limit
