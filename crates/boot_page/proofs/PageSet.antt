-- The sentence "page otherwise zero, returned header at 1F1 hex, loader type FF hex at 210, command line address at 228, ramdisk address
-- and size at 218 and 21C, memory map count at 1E8, rows from 2D0": each field of a page that was built stands at its place, read by the
-- same definitions as any page is, and every other byte is zero.
use Prim.Native.Nat.{ℕ, ◌+◌, ◌*◌, ◌%◌, ◌≤◌, ◌<◌}
use mathlib.Core.Path.{◌≡◌, sym, ap, subst, ◌∙◌}
use mathlib.Core.Bool.{true}
use mathlib.Core.List.{List, [], ◌∷◌, ◌++◌}
use native.Mathlib.Omega.{arith}
use native.Mathlib.Nat.{div-add-mod'}
use native.Mathlib.Decide.{dec_le}
use lib.ListN.{length, get_or, take, replicate, length-take, length-replicate, get_or-replicate, get_or-eq_default}
use lib.Seq.{sets, length-sets, get_or-take}
use Rattle.fields.specs.Numbers.{le_bytes, HasBytes}
use Rattle.fields.specs.Rows.{field_width, rows_bytes, rows_length, row_length, are_rows}
use Rattle.fields.proofs.CopyingLaws.{sets_outside}
use Rattle.fields.proofs.HasBytesLaws.{stored_at}
use Rattle.fields.proofs.NumbersLaws.{le_bytes_lem}
use Rattle.fields.proofs.RowsLaws.{rows_length_lem}
use Rattle.fields.proofs.RowsBack.{rows_back}
use Rattle.fields.proofs.WholeRows.{whole_rows}
use Rattle.fields.proofs.AreRowsLaws.{rows_whole, rows_fit}
use Rattle.bzimage.specs.SetupHeader.{header_size}
use Rattle.boot_page.specs.declared.Addresses.{Addresses}
use Rattle.boot_page.specs.Places.{page_size, count_at, header_at, loader_type_at, ramdisk_at, ramdisk_size_at, command_line_at, rows_at, undefined_loader}
use Rattle.boot_page.specs.Map.{row_widths, most_rows, count_of}
use Rattle.boot_page.specs.Building.{Part, put_parts, address_parts, map_parts, parts_of, filled}
use Rattle.boot_page.specs.Page.{Fit32, NotSet, Elsewhere, IsPage}
use Rattle.boot_page.proofs.PartsLaws.{length_parts, Uncovered, by_none, by_one, uncovered_stays, Clear, of_none, above, number_uncovered, number_below, number_above, number_stands, byte_of_bytes}

-- ---- the rows' bytes

-- whole rows are three numbers each
pub whole_count : (rows : List ℕ) → are_rows row_widths rows ≡ true → length rows ≡ count_of rows * 3
whole_count rows e = let whole = rows_whole row_widths rows e in sym (sym (add_none (count_of rows * 3) (length rows % 3) whole) ∙ div-add-mod' (length rows) 3)
  where
    add_none : (a b : ℕ) → b ≡ 0 → a + b ≡ a
    add_none a b e = omega arith

-- and take twenty bytes each
rows_bytes_lem : (rows : List ℕ) → are_rows row_widths rows ≡ true → length (rows_bytes (field_width row_widths) rows 0) ≡ count_of rows * 20
unfolding row_length
rows_bytes_lem rows e =
    rows_length_lem (field_width row_widths) rows 0
    ∙ ap (λ (k : ℕ). rows_length (field_width row_widths) k 0) (whole_count rows e)
    ∙ whole_rows row_widths (count_of rows)

-- n zeros, and a byte of them
abbrev zeros : ℕ → List ℕ
zeros n = replicate n 0

zero_byte : (n at : ℕ) → ◌≡◌ {A = ℕ} (get_or (zeros n) at 0) 0
zero_byte n at = split (dec_le n at)
  where
    split : Dec (n ≤ at) → ◌≡◌ {A = ℕ} (get_or (zeros n) at 0) 0
    split (yes h) = get_or-eq_default (zeros n) 0 (rw (length-replicate {A = ℕ} n 0) h)
    split (no h) = get_or-replicate n at 0 0 (omega arith)

module _ (header : List ℕ) (addresses : Addresses) (rows : List ℕ) (n : ℕ) (as-page : n ≡ page_size) (are-rows : are_rows row_widths rows ≡ true)
    (few : count_of rows ≤ most_rows) where
  -- the page, and what it is after each of its parts
  abbrev page : List ℕ
  page = filled header addresses rows n

  abbrev with_header : List ℕ
  with_header = sets (zeros n) header_at (take header_size header)

  abbrev with_loader : List ℕ
  with_loader = sets with_header loader_type_at (le_bytes 1 undefined_loader)

  abbrev with_line : List ℕ
  with_line = sets with_loader command_line_at (le_bytes 4 addresses.command_line)

  abbrev with_ramdisk : List ℕ
  with_ramdisk = sets with_line ramdisk_at (le_bytes 4 addresses.ramdisk)

  abbrev with_size : List ℕ
  with_size = sets with_ramdisk ramdisk_size_at (le_bytes 4 addresses.ramdisk_size)

  abbrev with_count : List ℕ
  with_count = sets with_size count_at (le_bytes 1 (count_of rows))

  -- its length throughout
  kept : (s : List ℕ) (p : ℕ) (vs : List ℕ) → length s ≡ page_size → length (sets s p vs) ≡ page_size
  kept s p vs e = length-sets s p vs ∙ e

  long0 : length (zeros n) ≡ page_size
  long0 = length-replicate n 0 ∙ as-page

  long1 : length with_header ≡ page_size
  long1 = kept (zeros n) header_at (take header_size header) long0

  long2 : length with_loader ≡ page_size
  long2 = kept with_header loader_type_at (le_bytes 1 undefined_loader) long1

  long3 : length with_line ≡ page_size
  long3 = kept with_loader command_line_at (le_bytes 4 addresses.command_line) long2

  long4 : length with_ramdisk ≡ page_size
  long4 = kept with_line ramdisk_at (le_bytes 4 addresses.ramdisk) long3

  long5 : length with_size ≡ page_size
  long5 = kept with_ramdisk ramdisk_size_at (le_bytes 4 addresses.ramdisk_size) long4

  long6 : length with_count ≡ page_size
  long6 = kept with_size count_at (le_bytes 1 (count_of rows)) long5

  page_size_lem : length page ≡ page_size
  page_size_lem = length_parts (parts_of header addresses rows) (zeros n) ∙ long0

  -- ---- the parts leave each other

  abbrev rows_part : List Part
  rows_part = (rows_at, rows_bytes (field_width row_widths) rows 0) ∷ []

  rows_clear : (p k : ℕ) → p + k ≤ rows_at → Clear p k rows_part
  rows_clear p k h = above h of_none

  -- what stands in the setup header has the count below it and the rows above it
  map_clear : (p k : ℕ) → header_at ≤ p → p + k ≤ rows_at → Clear p k (map_parts rows)
  map_clear p k low high = number_below count_at 1 (count_of rows) p k (omega arith) (rows_clear p k high)

  -- ---- each field stands at its place

  loader_stands : HasBytes page loader_type_at (le_bytes 1 undefined_loader)
  unfolding put_parts
  loader_stands =
      number_stands (address_parts addresses ++ map_parts rows) with_header loader_type_at 1 undefined_loader (omega (arith, long1))
      (number_above command_line_at 4 addresses.command_line loader_type_at 1 (omega arith)
      (number_above ramdisk_at 4 addresses.ramdisk loader_type_at 1 (omega arith)
      (number_above ramdisk_size_at 4 addresses.ramdisk_size loader_type_at 1 (omega arith) (map_clear loader_type_at 1 (omega arith) (omega arith)))))

  line_stands : HasBytes page command_line_at (le_bytes 4 addresses.command_line)
  unfolding put_parts
  line_stands =
      number_stands ((ramdisk_at, le_bytes 4 addresses.ramdisk) ∷ (ramdisk_size_at, le_bytes 4 addresses.ramdisk_size) ∷ map_parts rows) with_loader command_line_at 4
      addresses.command_line (omega (arith, long2))
      (number_below ramdisk_at 4 addresses.ramdisk command_line_at 4 (omega arith)
      (number_below ramdisk_size_at 4 addresses.ramdisk_size command_line_at 4 (omega arith) (map_clear command_line_at 4 (omega arith) (omega arith))))

  ramdisk_stands : HasBytes page ramdisk_at (le_bytes 4 addresses.ramdisk)
  unfolding put_parts
  ramdisk_stands =
      number_stands ((ramdisk_size_at, le_bytes 4 addresses.ramdisk_size) ∷ map_parts rows) with_line ramdisk_at 4 addresses.ramdisk (omega (arith, long3))
      (number_above ramdisk_size_at 4 addresses.ramdisk_size ramdisk_at 4 (omega arith) (map_clear ramdisk_at 4 (omega arith) (omega arith)))

  size_stands : HasBytes page ramdisk_size_at (le_bytes 4 addresses.ramdisk_size)
  unfolding put_parts
  size_stands =
      number_stands (map_parts rows) with_ramdisk ramdisk_size_at 4 addresses.ramdisk_size (omega (arith, long4)) (map_clear ramdisk_size_at 4 (omega arith) (omega arith))

  count_stands : HasBytes page count_at (le_bytes 1 (count_of rows))
  unfolding put_parts
  count_stands = number_stands rows_part with_size count_at 1 (count_of rows) (omega (arith, long5)) (rows_clear count_at 1 (omega arith))

  rows_stand : HasBytes page rows_at (rows_bytes (field_width row_widths) rows 0)
  unfolding put_parts
  rows_stand = let e = rows_bytes_lem rows are-rows in stored_at (rows_bytes (field_width row_widths) rows 0) with_count rows_at (omega (arith, long6))

  -- ---- what the parts do not cover

  rows_uncovered : (at : ℕ) → (rows_at ≤ at → at < rows_at + count_of rows * 20 → ⊥) → Uncovered at rows_part
  rows_uncovered at out =
      by_one (λ low high. out low (subst (λ (k : ℕ). at < rows_at + k) (rows_bytes_lem rows are-rows) high)) by_none

  -- a place of the setup header that nothing is set over
  header_uncovered : (at : ℕ) → header_at ≤ at → at < header_at + header_size → NotSet at
      → Uncovered at ((loader_type_at, le_bytes 1 undefined_loader) ∷ (address_parts addresses ++ map_parts rows))
  header_uncovered at low high free =
      number_uncovered loader_type_at 1 undefined_loader at (λ l h. free.no_loader_type (omega arith))
      (number_uncovered command_line_at 4 addresses.command_line at (λ l h. free.no_command_line l h)
      (number_uncovered ramdisk_at 4 addresses.ramdisk at (λ l h. free.no_ramdisk l (omega arith))
      (number_uncovered ramdisk_size_at 4 addresses.ramdisk_size at (λ l h. free.no_ramdisk (omega arith) (omega arith))
      (number_uncovered count_at 1 (count_of rows) at (λ l h. absurd (omega arith)) (rows_uncovered at (λ l h. absurd (omega arith)))))))

  header_byte : (i : ℕ) → i < header_size → get_or with_header (header_at + i) 0 ≡ get_or header i 0
  header_byte i h = split (dec_le (length header) i)
    where
      split : Dec (length header ≤ i) → get_or with_header (header_at + i) 0 ≡ get_or header i 0
      split (yes p) =
          sets_outside (take header_size header) (zeros n) header_at (header_at + i) (λ l k. absurd (omega (arith, length-take header_size header)))
          ∙ get_or-replicate n (header_at + i) 0 0 (omega arith)
          ∙ sym (get_or-eq_default header 0 p)
      split (no q) =
          byte_of_bytes (take header_size header) with_header header_at i (stored_at (take header_size header) (zeros n) header_at (omega (arith, long0, length-take header_size header)))
          (omega (arith, length-take header_size header))
          ∙ get_or-take header_size header i 0 h

  header_stands : (i : ℕ) → i < header_size → NotSet (header_at + i) → get_or page (header_at + i) 0 ≡ get_or header i 0
  unfolding put_parts
  header_stands i h free =
      uncovered_stays ((loader_type_at, le_bytes 1 undefined_loader) ∷ (address_parts addresses ++ map_parts rows)) with_header (header_at + i)
      (header_uncovered (header_at + i) (omega arith) (omega arith) free)
      ∙ header_byte i h

  zero_elsewhere : (at : ℕ) → Elsewhere rows at → get_or page at 0 ≡ 0
  zero_elsewhere at out =
      uncovered_stays (parts_of header addresses rows) (zeros n) at
      (by_one {bs = take header_size header} (λ l h. out.no_header l (omega (arith, length-take header_size header)))
      (number_uncovered loader_type_at 1 undefined_loader at (λ l h. out.no_header (omega arith) (omega arith))
      (number_uncovered command_line_at 4 addresses.command_line at (λ l h. out.no_header (omega arith) (omega arith))
      (number_uncovered ramdisk_at 4 addresses.ramdisk at (λ l h. out.no_header (omega arith) (omega arith))
      (number_uncovered ramdisk_size_at 4 addresses.ramdisk_size at (λ l h. out.no_header (omega arith) (omega arith))
      (number_uncovered count_at 1 (count_of rows) at (λ l h. out.no_count (omega arith)) (rows_uncovered at out.no_rows)))))))
      ∙ zero_byte n at

  pub page_set : Fit32 addresses → IsPage header addresses rows page
  page_set fit =
      record {
        size = page_size_lem;
        loader_type = le_bytes_lem 1 undefined_loader page loader_type_at (omega arith) loader_stands;
        command_line = le_bytes_lem 4 addresses.command_line page command_line_at fit.command_line line_stands;
        ramdisk = le_bytes_lem 4 addresses.ramdisk page ramdisk_at fit.ramdisk ramdisk_stands;
        ramdisk_size = le_bytes_lem 4 addresses.ramdisk_size page ramdisk_size_at fit.ramdisk_size size_stands;
        count = le_bytes_lem 1 (count_of rows) page count_at (omega arith) count_stands;
        map = rows_back (field_width row_widths) rows page rows_at 0 (rows_fit row_widths rows are-rows) rows_stand;
        setup_header = header_stands;
        zero = zero_elsewhere;
      }
