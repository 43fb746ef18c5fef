-- Zeros past the texts.
use Rattle.std.specs.Prelude.{ℕ, ◌≤◌, min, ◌≡◌, length, get_or}
use Rattle.cmdline.specs.declared.Cmdline.{Cmdline}
use Rattle.cmdline.specs.Limit.{limit}

-- two buffers of the limit's length, as the struct's type has it
pub record Buffers (l : Cmdline) : Type 0 where
  pub boot : length l.boot ≡ limit
  pub init : length l.init ≡ limit

-- every byte past the boot text and every byte past the init text is zero
pub record ZeroPast (l : Cmdline) : Type 0 where
  pub boot : (i : ℕ) → min l.boots limit ≤ i → get_or l.boot i 0 ≡ 0
  pub init : (i : ℕ) → min l.inits limit ≤ i → get_or l.init i 0 ≡ 0

-- buffers of the limit's length, with zeros past the texts
pub record Clean (l : Cmdline) : Type 0 where
  pub buffers : Buffers l
  pub zero : ZeroPast l
