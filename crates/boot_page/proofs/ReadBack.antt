-- The sentence "a reader .. gives back the rows, the addresses and the header, its loader type, command line and ramdisk fields as set
-- here": of a page that was built.
use Rattle.std.specs.Prelude.{Ok, Result}
use Prim.Native.Nat.{ℕ, zero, suc, ◌+◌, ◌-◌, ◌*◌, ◌≤◌, min}
use mathlib.Core.Path.{◌≡◌, refl, sym, ap, subst, subst⁻¹, ◌∙◌}
use mathlib.Core.List.{List}
use native.Mathlib.Omega.{arith}
use borrow.Author.Tests.{leb-true, le-leb, eq-eqb}
use lib.ListN.{length, get_or}
use lib.Seq.{sets}
use Rattle.answers.specs.Tests.{AllHold, Check, pass}
use Rattle.answers.specs.declared.Refusal.{Refusal}
use Rattle.fields.specs.Numbers.{le}
use Rattle.fields.specs.Rows.{field_width, rows_numbers}
use Rattle.bzimage.specs.SetupHeader.{header_size, header_start}
use Rattle.bzimage.specs.Header.{bytes_from, header_read}
use Rattle.bzimage.proofs.Returned.{length_bytes, byte_of}
use Rattle.boot_page.specs.declared.Addresses.{Addresses}
use Rattle.boot_page.specs.declared.Page.{Page}
use Rattle.boot_page.specs.Places.{page_size, header_at, loader_type_at, ramdisk_at, ramdisk_size_at, command_line_at, rows_at}
use Rattle.boot_page.specs.Map.{row_widths, most_rows, count_of, count_in}
use Rattle.boot_page.specs.Building.{tests, Builds}
use Rattle.boot_page.specs.Reading.{read_tests, addresses_in, fields_in, Reads}
use Rattle.boot_page.specs.Page.{Fit32, IsPage, SetHeader}
use Rattle.boot_page.proofs.PageSet.{whole_count, page_set}
use Rattle.boot_page.proofs.Refusals.{built_where, where_built, read_where}

-- a number in the bytes from a place on is the number at that place and further
le_from : (n k : ℕ) (s : List ℕ) (p i : ℕ) → i + k ≤ n → le k (bytes_from n s p) i ≡ le k s (p + i)
unfolding le
le_from n zero s p i h = refl
le_from n (suc k) s p i h =
    rw (byte_of n s p i (omega arith), le_from n k s p (suc i) (omega arith))
    (ap (λ (j : ℕ). get_or s (p + i) 0 + 256 * le k s j) (let same : p + suc i ≡ suc (p + i) = omega arith in same))

-- the header of such a page
header_back : (header : List ℕ) (addresses : Addresses) (rows page : List ℕ) → IsPage header addresses rows page → SetHeader header addresses (header_read page)
header_back header addresses rows page is =
    record {
      as_long = length_bytes header_size page header_start;
      loader_type = le_from header_size 1 page header_start (loader_type_at - header_at) (omega arith) ∙ is.loader_type;
      command_line = le_from header_size 4 page header_start (command_line_at - header_at) (omega arith) ∙ is.command_line;
      ramdisk = le_from header_size 4 page header_start (ramdisk_at - header_at) (omega arith) ∙ is.ramdisk;
      ramdisk_size = le_from header_size 4 page header_start (ramdisk_size_at - header_at) (omega arith) ∙ is.ramdisk_size;
      as_given = λ i h free. byte_of header_size page header_start i h ∙ is.setup_header i h free;
    }

-- a page that is returned is the only one
ok_same : {a b : Page} → ◌≡◌ {A = Result Page Refusal} (Ok a) (Ok b) → a ≡ b
ok_same e = cc

-- the addresses of such a page
addresses_back : (header : List ℕ) (addresses : Addresses) (rows page : List ℕ) → IsPage header addresses rows page → addresses_in page ≡ addresses
unfolding addresses_in
addresses_back header addresses rows page is = rw (is.command_line, is.ramdisk, is.ramdisk_size)

module _ (header : List ℕ) (addresses : Addresses) (rows before : List ℕ) {gate : Check} {page : List ℕ} (builds : Builds header addresses rows before gate page) (built : gate ≡ pass) (fit : Fit32 addresses) where
  held : AllHold (tests (length before) rows)
  held = where_built header addresses rows before builds built

  pub built_page : IsPage header addresses rows page
  built_page =
      subst⁻¹ (IsPage header addresses rows) (built_where header addresses rows before builds held).1
      (page_set header addresses rows page_size refl held.1.0 (leb-true (count_of rows) most_rows held.1.1.0) fit)

  pub readable : AllHold (read_tests page)
  readable =
      let few = leb-true (count_of rows) most_rows held.1.1.0 in
      (eq-eqb (length page) page_size built_page.size, (le-leb (count_in page) most_rows (omega (arith, built_page.count)), tt))

  module _ (list : List ℕ) {r : Result Page Refusal} {after : List ℕ} (reads : Reads page list r after) where
    as_read : r ≡ Ok (fields_in page)
    as_read = (read_where page list reads readable).0

    pub answer_back : r ≡ Ok (record { rows = count_of rows; addresses = addresses; setup_header = header_read page })
    unfolding fields_in
    answer_back = as_read ∙ rw (built_page.count, addresses_back header addresses rows page built_page)

    pub setup_header_back : {found : Page} → r ≡ Ok found → SetHeader header addresses found.setup_header
    unfolding fields_in
    setup_header_back {found} e =
        let same : fields_in page ≡ found = ok_same (sym as_read ∙ e) in
        subst (λ (p : Page). SetHeader header addresses p.setup_header) same (header_back header addresses rows page built_page)

    -- the rows, in a list that has room for them
    pub rows_back_read : length rows ≤ length list → after ≡ sets list 0 rows
    rows_back_read room =
        let whole = whole_count rows held.1.0 in
        let all : min (count_in page * 3) (length list) ≡ length rows = omega (arith, built_page.count) in
        (read_where page list reads readable).1
        ∙ ap (λ (k : ℕ). sets list 0 (rows_numbers (field_width row_widths) k page rows_at 0)) all
        ∙ ap (sets list 0) built_page.map
