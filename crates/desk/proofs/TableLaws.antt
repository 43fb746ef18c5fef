-- Laws of the table of contents, as the code asks them.
use Prim.Native.Nat.{ℕ, ◌+◌, ◌-◌, min}
use mathlib.Core.Path.{◌≡◌, ap, ◌∙◌}
use mathlib.Core.List.{List}
use native.Mathlib.Omega.{arith}
use lib.ListN.{length, take, drop, length-drop}
use borrow.Author.Tests.{eq-eqb, ne_eqb}
use borrow.Rule.Slice.PartMut.{mid_of}
use Rattle.answers.specs.Pick.{pick}
use Rattle.fields.specs.Numbers.{ReadAs}
use Rattle.guest.specs.Stream.{bytes_at}
use Rattle.guest.proofs.PartLaws.{take_clipped, drop_clipped}
use Rattle.desk.specs.declared.table.Row.{Row}
use Rattle.desk.specs.Table.{row_of, RowRead, is_image, kinds_good, one_placed, two_placed, places_good}

-- three numbers read one after the other are a row
pub row_read : (job : List ℕ) (at : ℕ) {k p s : ℕ} → ReadAs 4 job at k → ReadAs 4 job (at + 4) p → ReadAs 4 job (at + 8) s
    → RowRead job at (record { kind = k; place = record { 0 = p }; size = s })
unfolding row_of
row_read job at a b c = record { row = rw (a.value, b.value, c.value); small = c.small }

-- ---- kinds

module _ (count a b : ℕ) where
  pub kinds_one : count ≡ 1 → kinds_good count a b ≡ is_image a
  unfolding kinds_good pick
  kinds_one e = rw (eq-eqb count 1 e)

-- ---- places

module _ (a b : Row) (len : ℕ) where
  pub places_one : (count : ℕ) → count ≡ 1 → places_good count a b len ≡ one_placed a len
  unfolding places_good pick
  places_one count e = rw (eq-eqb count 1 e)

  pub places_two : (count : ℕ) → (count ≡ 1 → ⊥) → places_good count a b len ≡ two_placed a b len
  unfolding places_good pick
  places_two count z = rw (ne_eqb count 1 z)

-- ---- bodies

-- clipped to the job, a place and a size give the same bytes
pub body_part : (job : List ℕ) (place size : ℕ) {from n : ℕ} → from ≡ min place (length job) → n ≡ min size (length job - from)
    → mid_of from (from + n - from) job ≡ bytes_at job place size
body_part job place size {from} {n} ef en =
    let count : from + n - from ≡ min size (length (drop from job)) = simp length-drop (omega arith) in
    take_clipped size (drop from job) count ∙ ap (take size) (drop_clipped place job ef)
