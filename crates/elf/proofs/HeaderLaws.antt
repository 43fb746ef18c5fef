-- Laws of the tests before the program headers: what holds where all of them do.
use Rattle.std.specs.Prelude.{Option}
use Rattle.guest.specs.declared.GuestAddress.{GuestAddress}
use Prim.Native.Nat.{ℕ, ◌+◌, ◌*◌, ◌≤◌, ◌<◌}
use mathlib.Core.Path.{◌≡◌, sym, ◌∙◌, refl}
use mathlib.Core.Bool.{Bool, true, false}
use mathlib.Core.List.{List, ◌++◌}
use native.Mathlib.Omega.{arith}
use borrow.Author.Tests.{leb-true, ne_eqb}
use lib.Dec.{eqb}
use lib.ListN.{length}
use Rattle.answers.specs.Pick.{pick}
use Rattle.answers.specs.Tests.{AllHold}
use Rattle.answers.proofs.TestsLaws.{hold_left, hold_right}
use Rattle.fields.specs.Ranges.{lies_within, top64}
use Rattle.fields.proofs.RangesLaws.{within_sum, within_grows}
use Rattle.guest.specs.Addresses.{amount_of}
use Rattle.guest.specs.Lent.{lent_tests}
use Rattle.guest.specs.declared.Memory.{Memory}
use Rattle.elf.specs.Header.{header_size, program_header_size, e_entry_of, e_phoff_of, e_phnum_of, stand_within, length_tests, file_tests, entry_tests, stand_tests, field_tests, header_tests, tests}
use Rattle.elf.specs.ProgramHeaders.{header_place, HeadersStand}

-- n program headers within the image: each of them stands there
pub stand_all : (image : List ℕ) (n : ℕ) → stand_within (length image) (e_phoff_of image) n ≡ true → HeadersStand image n
unfolding stand_within pick
stand_all image n e = record { stands = λ i lt. stand i lt }
  where
    some : (i : ℕ) → i < n → pick (eqb n 0) true (lies_within (length image) (e_phoff_of image) (program_header_size * n))
        ≡ lies_within (length image) (e_phoff_of image) (program_header_size * n)
    some i lt = rw (ne_eqb n 0 (λ z. omega arith))

    stand : (i : ℕ) → i < n → header_place image i + program_header_size ≤ length image
    stand i lt =
        let all = within_sum (length image) (e_phoff_of image) (program_header_size * n) (sym (some i lt) ∙ e) in
        omega arith

-- program headers within a length lie within a greater one
pub stand_grows : (len len' phoff n : ℕ) → len ≤ len' → stand_within len phoff n ≡ true → stand_within len' phoff n ≡ true
unfolding stand_within pick
stand_grows len len' phoff n h = split (eqb n 0)
  where
    split : (b : Bool) → pick b true (lies_within len phoff (program_header_size * n)) ≡ true → pick b true (lies_within len' phoff (program_header_size * n)) ≡ true
    split true e = refl
    split false e = within_grows len len' phoff (program_header_size * n) h e

module _ (image : List ℕ) (m : Memory) (offset highmem : Option GuestAddress) (hold : AllHold (tests image m offset highmem)) where
  header_hold : AllHold (header_tests image offset highmem)
  header_hold = hold_right (lent_tests (length image) m) (header_tests image offset highmem) hold

  -- the tests behind those of the file: of the entry point, and of the program headers
  entry_hold : AllHold (entry_tests image offset highmem ++ stand_tests image)
  entry_hold =
      hold_right (file_tests image) (entry_tests image offset highmem ++ stand_tests image)
      (hold_right (length_tests image) (field_tests image offset highmem) header_hold)

  -- the header stands in the image
  pub header_stands : header_size ≤ length image
  header_stands = leb-true header_size (length image) (hold_left (length_tests image) (field_tests image offset highmem) header_hold).0

  -- the load address is below 2^64
  pub load_fits : amount_of offset + e_entry_of image ≤ top64
  load_fits =
      within_sum top64 (amount_of offset) (e_entry_of image) (hold_left (entry_tests image offset highmem) (stand_tests image) entry_hold).1.0

  -- every program header stands in the image
  pub headers_stand : HeadersStand image (e_phnum_of image)
  headers_stand = stand_all image (e_phnum_of image) (hold_right (entry_tests image offset highmem) (stand_tests image) entry_hold).0
