-- Text outside quotes and within them.
use Rattle.std.specs.Prelude.{List, [], ◌∷◌, ℕ, suc, eqb}
use Rattle.answers.specs.Pick.{pick}
use Rattle.slugs.specs.Bytes.{quote}

unfoldable mutual
  -- of bytes that begin at a place, outside quotes: the first place outside quotes that has the byte, else the opening
  -- quote that none closes, else the end
  pub plain_from : ℕ → List ℕ → ℕ → ℕ
  plain_from byte [] at = at
  plain_from byte (b ∷ bs) at =
      pick (eqb b quote) (quoted_from byte bs (suc at) at) (pick (eqb b byte) at (plain_from byte bs (suc at)))

  -- within quotes, which opened at a place
  pub quoted_from : ℕ → List ℕ → ℕ → ℕ → ℕ
  quoted_from byte [] at opened = opened
  quoted_from byte (b ∷ bs) at opened =
      pick (eqb b quote) (plain_from byte bs (suc at)) (quoted_from byte bs (suc at) opened)
