-- The sentence "the checker accepts a block, whoever wrote it, exactly when block and both lists lie in guest memory,
-- magic and version are right and every reserved field, the rows' too, is 0": all tests hold exactly if the rule does;
-- and a number is answered exactly if its test is the first that fails.
use Rattle.std.specs.Prelude.{Ok, Err}
use Prim.Native.Nat.{ℕ, ◌+◌, ◌*◌, ◌/◌, ◌≤◌, ◌<◌}
use mathlib.Core.Path.{◌≡◌, refl, sym, ap, ◌∙◌}
use mathlib.Core.Bool.{true}
use mathlib.Core.List.{List, [], ◌∷◌}
use native.Mathlib.Omega.{arith}
use native.Mathlib.Nat.{zero-add, zero-mul}
use native.Mathlib.Decide.{dec_le}
use borrow.Author.Tests.{eq-eqb, eqb-true}
use lib.ListN.{length, get_or}
use Rattle.answers.specs.Catalogue.{number_of}
use Rattle.answers.specs.Listing.{contains, Listed, row_listed}
use Rattle.answers.specs.Tests.{Test, AllHold, FirstFails, Check, pass}
use Rattle.answers.specs.declared.Refusal.{Refusal}
use Rattle.answers.proofs.ListingLaws.{first_listed}
use Rattle.answers.proofs.TestsLaws.{open_all, all_open, shut_first, first_shut}
use Rattle.fields.specs.Numbers.{le}
use Rattle.fields.specs.Rows.{field_width, rows_length, row_length}
use Rattle.fields.proofs.RowsLaws.{numbers_count}
use Rattle.guest.specs.Lent.{memory_tests}
use Rattle.guest.specs.Room.{room, room_for, memory_of}
use Rattle.guest.specs.declared.Map.{Map}
use Rattle.guest.specs.declared.Memory.{Memory}
use Rattle.guest.proofs.RoomLaws.{room_for_none, room_for_some}
use Rattle.start_info.specs.Answers.{gate_number}
use Rattle.start_info.specs.Kinds.{module_widths, range_widths, magic, version, block_size, version_at, reserved_at, row_fields}
use Rattle.start_info.specs.Checking.{rows_in, rows_tests, start_tests, check_tests, check_of}
use Rattle.start_info.specs.Rule.{last_width, last_at, RowsRight, StartRight}
use Rattle.fields.proofs.RowsPlaces.{number_at, width_of, fourth_at}
use Rattle.start_info.proofs.KindsLaws.{zero_means, means_zero}
use Rattle.start_info.proofs.PartsLaws.{some_bytes}

-- ---- a list, of either kind

module _ (widths : List ℕ) (four : length widths ≡ 4) (some : 0 < row_length widths) (m : Memory) (guest : List ℕ) (address count : ℕ) where
  abbrev numbers : List ℕ
  numbers = rows_in widths guest address count

  as_many : length numbers ≡ count * row_fields
  as_many = numbers_count (field_width widths) (count * row_fields) guest address 0

  -- the fourth number of row i is what stands in its reserved field
  fourth : (i : ℕ) → i < count → get_or numbers (i * 4 + 3) 0 ≡ le (last_width widths) guest (last_at widths address i)
  fourth i h =
      let width = field_width widths in
      let place : address + rows_length width (i * 4 + 3) 0 ≡ last_at widths address i = let before = fourth_at widths four i in omega arith in
      number_at width (count * row_fields) guest address 0 (i * 4 + 3) (omega arith)
      ∙ ap (λ (k : ℕ). le (width k) guest (address + rows_length width (i * 4 + 3) 0)) (zero-add (i * 4 + 3))
      ∙ ap (λ (w : ℕ). le w guest (address + rows_length width (i * 4 + 3) 0)) (width_of widths four i 3)
      ∙ ap (le (last_width widths) guest) place

  pub list_rows : AllHold (rows_tests widths m guest address count) → RowsRight widths m guest address count
  list_rows hold =
      record {
        in_memory = λ rows. sym (room_for_some m address (count * row_length widths) (some_bytes count (row_length widths) rows some)) ∙ hold.0;
        reserved = λ i h. sym (fourth i h) ∙ zero_means numbers hold.1.0 (i * 4 + 3) (omega (arith, as_many)) (omega arith);
      }

  -- a list with rows lies where it has room, and one of none anywhere
  list_lies : (0 < count → room m address (count * row_length widths) ≡ true) → room_for m address (count * row_length widths) ≡ true
  list_lies has = split (dec_le count 0)
    where
      split : Dec (count ≤ 0) → room_for m address (count * row_length widths) ≡ true
      split (yes none) = room_for_none m address (count * row_length widths) (ap (λ (k : ℕ). k * row_length widths) (let zero : count ≡ 0 = omega arith in zero) ∙ zero-mul (row_length widths))
      split (no rows) = let more : 0 < count = omega arith in room_for_some m address (count * row_length widths) (some_bytes count (row_length widths) more some) ∙ has more

  pub rows_list : RowsRight widths m guest address count → AllHold (rows_tests widths m guest address count)
  rows_list right = (
    list_lies right.in_memory,
    (
      means_zero numbers
          (λ j h last.
          let row : j / 4 < count = omega (arith, as_many) in
          let same : j ≡ j / 4 * 4 + 3 = omega arith in
          ap (λ (k : ℕ). get_or numbers k 0) same ∙ fourth (j / 4) row ∙ right.reserved (j / 4) row),
      tt,
    ),
  )

-- ---- the block

module _ (m : Memory) (guest : List ℕ) (block : ℕ) where
  pub accepts_rule : AllHold (start_tests m guest block) → StartRight m guest block
  unfolding row_length
  accepts_rule hold =
      let lists = hold.1.1.1.1 in
      record {
        in_memory = sym (room_for_some m block block_size (omega arith)) ∙ hold.0;
        right_magic = eqb-true (le 4 guest block) magic hold.1.0;
        right_version = eqb-true (le 4 guest (block + version_at)) version hold.1.1.0;
        reserved = eqb-true (le 4 guest (block + reserved_at)) 0 hold.1.1.1.0;
        modules = list_rows module_widths refl (omega arith) m guest _ _ (lists.0, (lists.1.0, tt));
        ranges = list_rows range_widths refl (omega arith) m guest _ _ lists.1.1;
      }

  pub rule_accepts : StartRight m guest block → AllHold (start_tests m guest block)
  unfolding row_length
  rule_accepts right =
      let modules = rows_list module_widths refl (omega arith) m guest _ _ right.modules in (
        room_for_some m block block_size (omega arith) ∙ right.in_memory,
        (
          eq-eqb (le 4 guest block) magic right.right_magic,
          (
            eq-eqb (le 4 guest (block + version_at)) version right.right_version,
            (
              eq-eqb (le 4 guest (block + reserved_at)) 0 right.reserved,
              (modules.0, (modules.1.0, rows_list range_widths refl (omega arith) m guest _ _ right.ranges)),
            ),
          ),
        ),
      )

-- ---- the answer

module _ (map : Map) (guest : List ℕ) (block : ℕ) {r : Check} (checks : r ≡ check_of map guest block) where
  abbrev memory : Memory
  memory = memory_of guest map

  abbrev row : List Test
  row = check_tests memory guest block

  pub accepted_where : AllHold (memory_tests memory) → StartRight memory guest block → r ≡ pass
  accepted_where lent right = checks ∙ all_open row (lent.0, (lent.1.0, rule_accepts memory guest block right))

  pub where_accepted : r ≡ pass → AllHold (memory_tests memory) × StartRight memory guest block
  where_accepted e =
      let all = open_all row (sym checks ∙ e) in
      ((all.0, (all.1.0, tt)), accepts_rule memory guest block all.1.1)

  -- and each number

  pub refused_where : {refusal : Refusal} → FirstFails refusal row → r ≡ Err refusal
  refused_where {refusal} fails = checks ∙ first_shut row refusal fails

  pub where_refused : {refusal : Refusal} → r ≡ Err refusal → FirstFails refusal row
  where_refused {refusal} e = shut_first row refusal (sym checks ∙ e)

  -- no other number is answered
  abbrev pub check_numbers : List ℕ
  check_numbers = 60 ∷ 76 ∷ 77 ∷ 78 ∷ 79 ∷ 80 ∷ []

  pub check_listed : {refusal : Refusal} → r ≡ Err refusal → Listed check_numbers refusal
  unfolding row_listed contains
  check_listed e = first_listed check_numbers row refl (where_refused e)

  -- the same by the catalogue
  pub accepted_number : AllHold (memory_tests memory) → StartRight memory guest block → gate_number r ≡ 0
  unfolding gate_number
  accepted_number lent right = ap gate_number (accepted_where lent right)

  -- who compares the number with 0 takes no other block
  pub zero_accepted : gate_number r ≡ 0 → r ≡ pass
  unfolding gate_number contains
  zero_accepted = by_gate r refl
    where
      by_gate : (g : Check) → r ≡ g → gate_number g ≡ 0 → r ≡ pass
      by_gate (Ok _) e zero = e
      by_gate (Err refusal) e zero =
          let listed = check_listed e in
          let none = ap (contains check_numbers) zero in
          absurd (let w : ◌≡◌ {A = ℕ} 0 1 = cc in omega arith)

  pub refused_number : {refusal : Refusal} → FirstFails refusal row → gate_number r ≡ number_of refusal
  unfolding gate_number
  refused_number fails = ap gate_number (refused_where fails)
