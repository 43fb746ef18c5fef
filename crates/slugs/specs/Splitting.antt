-- Where a whole line parts into boot text and init text.
use Rattle.std.specs.Prelude.{ℕ, suc, ◌+◌, ◌-◌, ◌≤◌, ◌<◌, ◌≡◌, Bool, true, false, not, List, [], ◌∷◌, eqb, length, take, drop}
use Rattle.answers.specs.Pick.{pick}
use Rattle.fields.specs.Tags.{tag_at}
use Rattle.slugs.specs.Bytes.{space, quote, dash}
use Rattle.slugs.specs.Trimming.{trim}

-- space, dash, dash, space: what is between the boot text and the init text
abbrev pub separator : List ℕ
separator = space ∷ dash ∷ dash ∷ space ∷ []

-- whether the number of quotes is even, after one byte more
unfoldable pub even_after : Bool → ℕ → Bool
even_after even x = pick (eqb x quote) (not even) even

-- and after a whole text
unfoldable pub even_quotes : Bool → List ℕ → Bool
even_quotes even [] = even
even_quotes even (x ∷ xs) = even_quotes (even_after even x) xs

-- a separator comes first, and the number of quotes before it is even
unfoldable pub splits : Bool → List ℕ → Bool
splits even s = pick even (tag_at separator s 0) false

-- the place of the first such separator, or the length
unfoldable pub split_from : Bool → List ℕ → ℕ
split_from even [] = 0
split_from even (x ∷ xs) = pick (splits even (x ∷ xs)) 0 (suc (split_from (even_after even x) xs))

-- from a place i, r bytes on: nothing splits between the two, and no quote is there
pub record Skips (s : List ℕ) (i r : ℕ) : Type 0 where
  pub least : 1 ≤ r
  pub within : i < length s → i + r ≤ length s
  pub same : (even : Bool) → split_from even (drop (i + 1) s) ≡ r - 1 + split_from even (drop (i + r) s)

abbrev pub split_at : List ℕ → ℕ
split_at s = split_from true s

-- what lies before the separator and what lies after it, trimmed; where there is none the second is empty, since the place is the length
abbrev pub boot_part : List ℕ → List ℕ
boot_part s = trim (take (split_at s) s)

abbrev pub init_part : List ℕ → List ℕ
init_part s = trim (drop 4 (drop (split_at s) s))
