-- Laws of the rows of the guest's memory map.
use Prim.Native.Nat.{ℕ, zero, suc, ◌/◌}
use mathlib.Core.Path.{◌≡◌, refl}
use mathlib.Core.Bool.{true}
use mathlib.Core.List.{List}
use native.Mathlib.Numerals.{add-one}
use Rattle.std.specs.List.{list_any, range_with_len}
use borrow.Author.Tests.{eq-eqb, ne_eqb}
use lib.ListN.{length}
use Rattle.answers.specs.Pick.{pick}
use Rattle.boot.specs.Rows.{in_row, in_one_of, in_rows}

module _ (width : ℕ) (rows : List ℕ) where
  -- k rows from row i on
  pub any_rows : (k i address n : ℕ) → list_any (λ (j : ℕ). in_row width rows j address n) (range_with_len i k) ≡ in_one_of k width rows i address n
  unfolding in_one_of
  any_rows zero i address n = refl
  any_rows (suc k) i address n = rw (add-one i, any_rows k (suc i) address n)

  pub no_rows : (address n : ℕ) → width ≡ 0 → true ≡ in_rows width rows address n
  unfolding in_rows pick
  no_rows address n e = rw (eq-eqb width 0 e)

  module _ (some : width ≡ 0 → ⊥) where
    pub no_bytes : (address n : ℕ) → n ≡ 0 → true ≡ in_rows width rows address n
    unfolding in_rows pick
    no_bytes address n e = rw (ne_eqb width 0 some, eq-eqb n 0 e)

    pub some_bytes : (address n : ℕ) → (n ≡ 0 → ⊥) → in_rows width rows address n ≡ in_one_of (length rows / width) width rows 0 address n
    unfolding in_rows pick
    some_bytes address n bytes = rw (ne_eqb width 0 some, ne_eqb n 0 bytes)
