-- Laws of parts.
use Prim.Native.Nat.{ℕ, ◌+◌, ◌*◌, ◌%◌, ◌≤◌, ◌<◌, min, max}
use mathlib.Core.Path.{◌≡◌, sym, ap, ◌∙◌}
use mathlib.Core.Bool.{true}
use mathlib.Core.List.{List, [], ◌∷◌}
use native.Mathlib.Omega.{arith}
use native.Mathlib.Decide.{dec_le}
use native.Mathlib.Nat.{mul-le-mul_right}
use borrow.Author.Tests.{lt-ltb, le-ltb, leb-true}
use lib.Dec.{ltb}
use lib.ListN.{length}
use lib.Seq.{sets}
use Rattle.fields.specs.Numbers.{HasBytes, no_byte}
use Rattle.fields.specs.Ranges.{apart}
use Rattle.fields.specs.Rows.{field_width, rows_bytes, rows_length, row_length, are_rows}
use Rattle.fields.proofs.AreRowsLaws.{rows_whole}
use Rattle.fields.proofs.HasBytesLaws.{kept_below, kept_above}
use Rattle.fields.proofs.RowsLaws.{rows_length_lem}
use Rattle.fields.proofs.WholeRows.{whole_rows}
use Rattle.guest.specs.Room.{room_for}
use Rattle.guest.specs.Stream.{stream_at, Inside, none}
use Rattle.guest.specs.declared.Memory.{Memory}
use Rattle.guest.proofs.RoomLaws.{room_size, room_for_some}
use Rattle.guest.proofs.StreamLaws.{inside_at}
use Rattle.start_info.specs.Kinds.{count_of}
use Rattle.start_info.specs.Parts.{count_end, list_size}

-- what is below the clipped count is below it
pub below_clipped : (n end : ℕ) → ltb (min n end) end ≡ ltb n end
below_clipped n end = split (dec_le end n)
  where
    split : Dec (end ≤ n) → ltb (min n end) end ≡ ltb n end
    split (yes h) = le-ltb (min n end) end (omega arith) ∙ sym (le-ltb n end h)
    split (no h) = lt-ltb (min n end) end (omega arith) ∙ sym (lt-ltb n end (omega arith))

-- rows of some bytes, if there are any, take some
pub some_bytes : (count size : ℕ) → 0 < count → 0 < size → 0 < count * size
some_bytes count size rows some = let least : 1 * size ≤ count * size = mul-le-mul_right size rows in omega arith

-- ---- a part that lies in memory

-- it ends within the slice, if it has bytes
pub lies_within : (m : Memory) (address n : ℕ) → 0 < n → room_for m address n ≡ true → address + n ≤ m.size
lies_within m address n some e = room_size m address n (sym (room_for_some m address n some) ∙ e)

-- its bytes go into memory
pub part_inside : (m : Memory) (address n : ℕ) (bytes : List ℕ) → length bytes ≡ n → room_for m address n ≡ true → Inside m (stream_at address bytes)
unfolding stream_at
part_inside m address n [] as_long e = none
part_inside m address n (v ∷ vs) as_long e =
    inside_at m address n (v ∷ vs) (sym (room_for_some m address n (omega arith)) ∙ e) (omega arith)

-- ---- two parts that are apart

-- what stands in the one is kept by stores in the other; a part of no bytes is apart from all
pub kept_apart : (bs s vs : List ℕ) (p q : ℕ) → apart p (length bs) q (length vs) ≡ true → HasBytes s p bs → HasBytes (sets s q vs) p bs
unfolding apart
kept_apart [] s vs p q e here = no_byte
kept_apart (b ∷ bs) s [] p q e here = here
kept_apart (b ∷ bs) s (v ∷ vs) p q e here = split (dec_le (p + length (b ∷ bs)) q)
  where
    split : Dec (p + length (b ∷ bs) ≤ q) → HasBytes (sets s q (v ∷ vs)) p (b ∷ bs)
    split (yes h) = kept_below (b ∷ bs) s (v ∷ vs) p q h here
    split (no h) =
        let least = leb-true (min (p + length (b ∷ bs)) (q + length (v ∷ vs))) (max p q) e in
        kept_above (b ∷ bs) s (v ∷ vs) p q (omega arith) here

-- ---- the bytes of a list

-- of rows with four fields, fewer than 2^32, they take the size that was asked for
pub list_bytes : (widths rows : List ℕ) → length widths ≡ 4 → are_rows widths rows ≡ true → count_of rows < count_end
    → length (rows_bytes (field_width widths) rows 0) ≡ list_size widths rows
list_bytes widths rows four are few =
    let whole : length rows % 4 ≡ 0 = ap (λ (k : ℕ). length rows % k) (sym four) ∙ rows_whole widths rows are in
    let count : length rows ≡ count_of rows * 4 = omega arith in
    let all : count_of rows ≡ min (count_of rows) count_end = omega arith in
    rows_length_lem (field_width widths) rows 0
    ∙ ap (λ (k : ℕ). rows_length (field_width widths) k 0) (count ∙ ap (λ (k : ℕ). count_of rows * k) (sym four))
    ∙ whole_rows widths (count_of rows)
    ∙ ap (λ (k : ℕ). k * row_length widths) all
