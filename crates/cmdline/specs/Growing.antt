-- Texts that begin others: what a line keeps of what it held.
use Rattle.std.specs.Prelude.{◌≡◌, List, ◌++◌, ℕ, ◌+◌, length}
use Rattle.slugs.specs.Values.{pair}
use Rattle.slugs.specs.Joining.{joined}
use Rattle.cmdline.specs.Text.{Text, counted, boot_gap}

-- b is a and then the rest
pub record Begins (a b : List ℕ) : Type 0 where
  pub rest : List ℕ
  pub whole : b ≡ a ++ rest

-- both texts of the one begin those of the other, and the capacity is the same
pub record Extends (t u : Text) : Type 0 where
  pub boot : Begins t.boot u.boot
  pub init : Begins t.init u.init
  pub capacity : u.capacity ≡ t.capacity

-- an inserted key and value: they are after the boot text, and nothing else has changed
pub record Inserted (t u : Text) (key value : List ℕ) : Type 0 where
  -- the pair is after what was there, with a space between if there was text
  pub boot : u.boot ≡ joined t.boot (pair key value)
  pub init : u.init ≡ t.init
  pub capacity : u.capacity ≡ t.capacity
  -- and is counted as it is there
  pub size : counted u ≡ counted t + boot_gap (length t.boot) + length (pair key value)
