-- The sentence "a row empty, with address + size of 2^64 or more, or overlapping an earlier one": the rows pass exactly where no row is
-- empty, each ends below 2^64, and no address is among two of them, whichever comes first.
use Prim.Native.Nat.{ℕ, ◌+◌, ◌^◌, ◌≤◌, ◌<◌}
use mathlib.Core.Path.{◌≡◌}
use mathlib.Core.Bool.{true, ◌&&◌}
use mathlib.Core.List.{List}
use native.Mathlib.Omega.{arith}
use native.Mathlib.Decide.{dec_le}
use borrow.Author.Tests.{lt-ltb, ltb-true}
use lib.Dec.{ltb}
use Rattle.fields.specs.Ranges.{top64, fits64}
use Rattle.fields.specs.Every.{every}
use Rattle.fields.proofs.RangesLaws.{within_sum, sum_within}
use Rattle.fields.proofs.ApartLaws.{apart_none, none_apart}
use Rattle.fields.proofs.EveryLaws.{both_held, left_holds, right_holds, every_each, each_every}
use Rattle.boot_page.specs.Map.{count_of, address_of, size_of, rows_apart, row_is_good, map_is_good, GoodMap}

-- of two numbers that differ one is the lower
by_order : {P : Type 0} (i j : ℕ) → (i ≡ j → ⊥) → (i < j → P) → (j < i → P) → P
by_order {P} i j other lower upper = split (dec_le j i)
  where
    split : Dec (j ≤ i) → P
    split (yes h) = upper (omega arith)
    split (no h) = lower (omega arith)

module _ (rows : List ℕ) where
  -- ---- what the test says of row i

  module _ (i : ℕ) (e : row_is_good rows i ≡ true) where
    unfolding_row : (ltb 0 (size_of rows i) && (fits64 (address_of rows i) (size_of rows i) && every (rows_apart rows i) i)) ≡ true
    unfolding row_is_good
    unfolding_row = e

    row_some : 0 < size_of rows i
    row_some = ltb-true 0 (size_of rows i) (left_holds (ltb 0 (size_of rows i)) (fits64 (address_of rows i) (size_of rows i) && every (rows_apart rows i) i) unfolding_row)

    rest : (fits64 (address_of rows i) (size_of rows i) && every (rows_apart rows i) i) ≡ true
    rest = right_holds (ltb 0 (size_of rows i)) (fits64 (address_of rows i) (size_of rows i) && every (rows_apart rows i) i) unfolding_row

    row_ends : address_of rows i + size_of rows i < 2 ^ 64
    row_ends =
        let sum = within_sum top64 (address_of rows i) (size_of rows i) (left_holds (fits64 (address_of rows i) (size_of rows i)) (every (rows_apart rows i) i) rest) in
        omega arith

    row_apart : (j : ℕ) → j < i → rows_apart rows i j ≡ true
    row_apart j h = every_each (rows_apart rows i) i j (right_holds (fits64 (address_of rows i) (size_of rows i)) (every (rows_apart rows i) i) rest) h

  -- ---- both directions

  module _ (e : map_is_good rows ≡ true) where
    each : (i : ℕ) → i < count_of rows → row_is_good rows i ≡ true
    unfolding map_is_good
    each i h = every_each (row_is_good rows) (count_of rows) i e h

    pub good_rows : GoodMap rows
    good_rows =
        record {
          not_empty = λ i h. row_some i (each i h);
          ends = λ i h. row_ends i (each i h);
          disjoint = λ i j hi hj other x in-i in-j.
              by_order i j other (λ less. apart_none (address_of rows j) (size_of rows j) (address_of rows i) (size_of rows i) (row_apart j (each j hj) i less) x in-j in-i)
              (λ less. apart_none (address_of rows i) (size_of rows i) (address_of rows j) (size_of rows j) (row_apart i (each i hi) j less) x in-i in-j);
        }

  pub rows_good : GoodMap rows → map_is_good rows ≡ true
  unfolding map_is_good row_is_good
  rows_good good =
      each_every (row_is_good rows) (count_of rows)
      (λ i h.
      both_held (lt-ltb 0 (size_of rows i) (good.not_empty i h))
      (both_held (sum_within top64 (address_of rows i) (size_of rows i) (let end = good.ends i h in omega arith))
      (each_every (rows_apart rows i) i
      (λ j less. none_apart (address_of rows i) (size_of rows i) (address_of rows j) (size_of rows j) (good.disjoint i j h (omega arith) (λ e. absurd (omega arith)))))))
