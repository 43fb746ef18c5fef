-- Laws of a page that is built, as the code fills it.
use Rattle.std.specs.Prelude.{is_ok}
use Prim.Native.Nat.{ℕ, ◌≤◌, min}
use mathlib.Core.Path.{◌≡◌, sym, ap, ◌∙◌}
use mathlib.Core.List.{List}
use native.Mathlib.Omega.{arith}
use native.Mathlib.Decide.{dec_le}
use lib.ListN.{length, take}
use lib.Seq.{take_all}
use borrow.Author.Tests.{eqb-true}
use Rattle.answers.specs.Pick.{pick}
use Rattle.answers.specs.Tests.{asked, asked_all, Check, pass}
use Rattle.answers.proofs.TestsLaws.{open_all}
use Rattle.bzimage.specs.SetupHeader.{header_size}
use Rattle.boot_page.specs.declared.Addresses.{Addresses}
use Rattle.boot_page.specs.Places.{page_size}
use Rattle.boot_page.specs.Building.{tests, filled, page_of, Builds}

-- ---- parts, as the code puts them

-- as many bytes as the header has, and no more than it may have
pub header_front : (header : List ℕ) {n : ℕ} → n ≡ min header_size (length header) → take n header ≡ take header_size header
header_front header {n} e = split (dec_le header_size (length header))
  where
    split : Dec (header_size ≤ length header) → take n header ≡ take header_size header
    split (yes h) = ap (λ (k : ℕ). take k header) (let same : n ≡ header_size = omega arith in same)
    split (no h) = take_all n header (omega arith) ∙ sym (take_all header_size header (omega arith))

-- ---- the answer

module _ (header : List ℕ) (addresses : Addresses) (rows before : List ℕ) where
  -- tests that pass say that the page has its size
  pub builds_open : {gate : Check} {after : List ℕ} → gate ≡ asked_all pass (tests (length before) rows) → gate ≡ pass
      → after ≡ filled header addresses rows (length before) → Builds header addresses rows before pass after
  unfolding pick
  builds_open asked is ea =
      let opens = sym asked ∙ is in
      let size = eqb-true (length before) page_size (open_all (tests (length before) rows) opens).0 in
      record {
        answer = sym opens;
        page = ea ∙ ap (filled header addresses rows) size ∙ ap (λ g. pick (is_ok g) (page_of header addresses rows) before) (sym opens);
      }
