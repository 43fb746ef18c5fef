-- The sentences "refusals, in order: .. the page is then untouched" and "a reader, refusing 73 and a count over 128 as 74": a page is built
-- exactly where every test holds, and refused exactly by the first test that fails, with the page as it was; a page is read exactly where
-- it has its size and its count is not over 128, and then what stands there is told, whoever wrote it.
use Rattle.std.specs.Prelude.{Ok, Err, Result, is_ok}
use Prim.Native.Nat.{ℕ}
use mathlib.Core.Path.{◌≡◌, sym, ◌∙◌, refl, ap, subst}
use mathlib.Core.List.{List, [], ◌∷◌}
use native.Mathlib.Omega.{arith}
use lib.ListN.{length}
use lib.Seq.{sets}
use Rattle.answers.specs.Pick.{pick}
use Rattle.answers.specs.Catalogue.{number_of}
use Rattle.answers.specs.Tests.{Test, asked_all, AllHold, FirstFails, here, later, Check, pass}
use Rattle.answers.specs.declared.Refusal.{Refusal}
use Rattle.answers.specs.declared.Refusal.TheVariants.{BadPageSize, TooManyRows}
use Rattle.answers.proofs.TestsLaws.{open_all, all_open, shut_first, first_shut}
use Rattle.fields.specs.Numbers.{le}
use Rattle.boot_page.specs.declared.Addresses.{Addresses}
use Rattle.boot_page.specs.declared.Page.{Page}
use Rattle.boot_page.specs.Answers.{built_number, read_number, read_values}
use Rattle.boot_page.specs.Places.{command_line_at, ramdisk_at, ramdisk_size_at}
use Rattle.boot_page.specs.Map.{count_in, rows_in}
use Rattle.boot_page.specs.Building.{tests, page_of, Builds}
use Rattle.boot_page.specs.Reading.{read_tests, addresses_in, fields_in, read_by, Reads}

-- ---- building

module _ (header : List ℕ) (addresses : Addresses) (rows before : List ℕ) {r : Check} {after : List ℕ} (builds : Builds header addresses rows before r after) where
  abbrev row : List Test
  row = tests (length before) rows

  left_by : {gate : Check} → asked_all pass row ≡ gate → after ≡ pick (is_ok gate) (page_of header addresses rows) before
  left_by e = builds.page ∙ ap (λ g. pick (is_ok g) (page_of header addresses rows) before) e

  pub built_where : AllHold row → (r ≡ pass) × (after ≡ page_of header addresses rows)
  unfolding pick
  built_where h = let e = all_open row h in (builds.answer ∙ e, left_by e)

  pub where_built : r ≡ pass → AllHold row
  where_built e = open_all row (sym builds.answer ∙ e)

  pub refused_where : {refusal : Refusal} → FirstFails refusal row → (r ≡ Err refusal) × (after ≡ before)
  unfolding pick
  refused_where {refusal} f = let e = first_shut row refusal f in (builds.answer ∙ e, left_by e)

  pub where_refused : {refusal : Refusal} → r ≡ Err refusal → FirstFails refusal row
  where_refused {refusal} e = shut_first row refusal (sym builds.answer ∙ e)

  -- the same by the catalogue
  pub built_number_lem : AllHold row → built_number r ≡ 0
  unfolding built_number
  built_number_lem h = ap built_number (built_where h).0

  pub refused_number : {refusal : Refusal} → FirstFails refusal row → built_number r ≡ number_of refusal
  unfolding built_number
  refused_number f = ap built_number (refused_where f).0

-- ---- reading

module _ (page before : List ℕ) {r : Result Page Refusal} {after : List ℕ} (reads : Reads page before r after) where
  abbrev read_row : List Test
  read_row = read_tests page

  read_by_lem : {gate : Check} → asked_all pass read_row ≡ gate → (r ≡ read_by gate page) × (after ≡ pick (is_ok gate) (sets before 0 (rows_in page (length before))) before)
  read_by_lem e = (
    reads.answer ∙ ap (λ g. read_by g page) e,
    reads.rows ∙ ap (λ g. pick (is_ok g) (sets before 0 (rows_in page (length before))) before) e,
  )

  pub read_where : AllHold read_row → (r ≡ Ok (fields_in page)) × (after ≡ sets before 0 (rows_in page (length before)))
  unfolding pick read_by
  read_where h = read_by_lem (all_open read_row h)

  pub not_read_where : {refusal : Refusal} → FirstFails refusal read_row → (r ≡ Err refusal) × (after ≡ before)
  unfolding pick read_by
  not_read_where {refusal} f = read_by_lem (first_shut read_row refusal f)

  -- by the answer
  by_gate : (gate : Check) → asked_all pass read_row ≡ gate → (P : Result Page Refusal → Type 0) → (AllHold read_row → P (Ok (fields_in page)))
      → ((refusal : Refusal) → FirstFails refusal read_row → P (Err refusal)) → P r
  unfolding read_by
  by_gate (Ok _) e P holds fails = subst P (sym (read_by_lem e).0) (holds (open_all read_row e))
  by_gate (Err refusal) e P holds fails = subst P (sym (read_by_lem e).0) (fails refusal (shut_first read_row refusal e))

  pub where_read : {found : Page} → r ≡ Ok found → AllHold read_row
  where_read {found} =
      by_gate (asked_all pass read_row) refl (λ o. o ≡ Ok found → AllHold read_row) (λ h e. h)
      (λ refusal f e. let z : ◌≡◌ {A = ℕ} 0 1 = cc in absurd (omega arith))

  pub where_not_read : {refusal : Refusal} → r ≡ Err refusal → FirstFails refusal read_row
  where_not_read {refusal} =
      by_gate (asked_all pass read_row) refl (λ o. o ≡ Err refusal → FirstFails refusal read_row)
      (λ h e. let z : ◌≡◌ {A = ℕ} 0 1 = cc in absurd (omega arith))
      (λ first f e. let same : ◌≡◌ {A = Refusal} first refusal = cc in subst (λ x. FirstFails x read_row) same f)

  -- the same by the catalogue
  pub read_number_lem : AllHold read_row
      → (read_number r ≡ 0)
      × (read_values r ≡ count_in page ∷ le 4 page command_line_at ∷ le 4 page ramdisk_at ∷ le 4 page ramdisk_size_at ∷ [])
  unfolding read_number read_values fields_in addresses_in
  read_number_lem h =
      (ap read_number (read_where h).0, ap read_values (read_where h).0)

  pub not_read_number : {refusal : Refusal} → FirstFails refusal read_row → (read_number r ≡ number_of refusal) × (read_values r ≡ [])
  unfolding read_number read_values
  not_read_number f =
      (ap read_number (not_read_where f).0, ap read_values (not_read_where f).0)

  -- a refusal is for the size or for the count, and for nothing else
  pub only_two : {refusal : Refusal} → r ≡ Err refusal → (P : Refusal → Type 0) → P BadPageSize → P TooManyRows → P refusal
  only_two {refusal} e P size count = by_test (where_not_read e)
    where
      by_test : FirstFails refusal read_row → P refusal
      by_test (here f is) = subst P is size
      by_test (later h (here f is)) = subst P is count
      by_test (later h (later _ x9)) = elim x9 [ ]
