-- "What the writer writes is accepted and reads back equal": the block's ten numbers and the rows of both lists stand as they were given, and the
-- checker accepts the block.
use Prim.Native.Nat.{ℕ, ◌+◌, ◌*◌, ◌%◌, ◌≤◌, ◌<◌, min}
use mathlib.Core.Path.{◌≡◌, refl, sym, ap, subst⁻¹, ◌∙◌}
use mathlib.Core.Bool.{true}
use mathlib.Core.List.{List, [], ◌∷◌}
use native.Mathlib.Omega.{arith}
use native.Mathlib.Nat.{add-zero}
use borrow.Author.Tests.{eq-eqb}
use lib.ListN.{length, get_or}
use lib.Seq.{sets, length-sets}
use Rattle.answers.specs.Tests.{AllHold, Check, pass}
use Rattle.answers.proofs.TestsLaws.{all_open}
use Rattle.fields.specs.Numbers.{le, HasBytes, no_byte}
use Rattle.fields.specs.Rows.{field_width, rows_numbers, rows_length, row_length, are_rows, RowsFit, fit_none, fit_one}
use Rattle.fields.proofs.AreRowsLaws.{rows_whole, rows_fit}
use Rattle.fields.proofs.HasBytesLaws.{stored_at}
use Rattle.fields.proofs.RowsBack.{rows_back}
use Rattle.guest.specs.Room.{room_for, memory_of}
use Rattle.guest.specs.declared.Map.{Map}
use Rattle.guest.specs.declared.Memory.{Memory}
use Rattle.guest.proofs.LoadingLaws.{load_length}
use Rattle.start_info.specs.declared.Start.{Start}
use Rattle.start_info.specs.Kinds.{block_widths, module_widths, range_widths, magic, version, block_fields, block_size, version_at, module_count_at, modules_at, ranges_at, range_count_at, reserved_at, row_fields, count_of, reserved_are_zero}
use Rattle.start_info.specs.Parts.{count_end, list_size}
use Rattle.start_info.specs.Writing.{tests, block_of, plan_of, Writes}
use Rattle.start_info.specs.Checking.{rows_tests, start_tests, check_tests, check_of}
use Rattle.start_info.specs.Rule.{FitStart}
use Rattle.fields.proofs.RowsPlaces.{number_at}
use Rattle.start_info.proofs.PartsLaws.{lies_within, kept_apart}
use Rattle.start_info.proofs.WritingLaws.{poured_put}
use Rattle.start_info.proofs.Held.{block_bytes, bytes_of, block_bytes_lem, modules_are, modules_zero, ranges_are, ranges_zero, few_modules, few_ranges, modules_size, ranges_size, block_lies, modules_lie, ranges_lie, block_modules, block_ranges, modules_ranges}
use Rattle.start_info.proofs.Refusals.{written_where, where_written}

-- ---- parts that are stored where they lie

stored_part : (m : Memory) (bytes s : List ℕ) (address n : ℕ) → length bytes ≡ n → room_for m address n ≡ true → m.size ≤ length s → HasBytes (sets s address bytes) address bytes
stored_part m [] s address n e there fits = no_byte
stored_part m (v ∷ vs) s address n e there fits =
    let within = lies_within m address n (omega arith) there in
    stored_at (v ∷ vs) s address (omega arith)

-- the numbers of the block fit their fields
block_fits : (start : Start) (modules ranges : List ℕ) → FitStart start → count_of modules < count_end → count_of ranges < count_end
    → RowsFit (field_width block_widths) (block_of start modules ranges) 0
unfolding field_width
block_fits start modules ranges fit few few' =
    let flags = fit.flags in
    let first = fit.modules in
    let line = fit.command_line in
    let rsdp = fit.rsdp in
    let second = fit.ranges in
    fit_one {v = magic} {i = 0} (omega arith)
    (fit_one {v = version} {i = 1} (omega arith)
    (fit_one {v = start.flags} {i = 2} (omega arith)
    (fit_one {v = count_of modules} {i = 3} (omega arith)
    (fit_one {v = start.modules.0} {i = 4} (omega arith)
    (fit_one {v = start.command_line.0} {i = 5} (omega arith)
    (fit_one {v = start.rsdp.0} {i = 6} (omega arith)
    (fit_one {v = start.ranges.0} {i = 7} (omega arith)
    (fit_one {v = count_of ranges} {i = 8} (omega arith)
    (fit_one {v = 0} {i = 9} (omega arith) fit_none)))))))))

-- a list as the block counts it: rows of four numbers
as_counted : (widths rows : List ℕ) → length widths ≡ 4 → are_rows widths rows ≡ true → count_of rows * row_fields ≡ length rows
as_counted widths rows four are =
    let whole : length rows % 4 ≡ 0 = ap (λ (k : ℕ). length rows % k) (sym four) ∙ rows_whole widths rows are in
    omega arith

module _ (start : Start) (modules ranges : List ℕ) (map : Map) (before : List ℕ) {r : Check} {after : List ℕ}
    (writes : Writes start modules ranges map before r after) (written : r ≡ pass) (fit : FitStart start) where
  abbrev m : Memory
  m = memory_of before map

  hold : AllHold (tests m start modules ranges)
  hold = where_written start modules ranges map before writes written

  abbrev first : List ℕ
  first = sets before start.block.0 (block_bytes start modules ranges)

  abbrev second : List ℕ
  second = sets first start.modules.0 (bytes_of module_widths modules)

  abbrev third : List ℕ
  third = sets second start.ranges.0 (bytes_of range_widths ranges)

  as_put : after ≡ third
  as_put = (written_where start modules ranges map before writes hold).1 ∙ poured_put start modules ranges before

  length_first : length first ≡ length before
  length_first = length-sets before start.block.0 (block_bytes start modules ranges)

  length_second : length second ≡ length before
  length_second = length-sets first start.modules.0 (bytes_of module_widths modules) ∙ length_first

  -- ---- the bytes of each part stand where it was put

  block_stands : HasBytes after start.block.0 (block_bytes start modules ranges)
  block_stands =
      subst⁻¹ (λ (l : List ℕ). HasBytes l start.block.0 (block_bytes start modules ranges)) as_put
      (kept_apart (block_bytes start modules ranges) second (bytes_of range_widths ranges) start.block.0 start.ranges.0 (block_ranges m start modules ranges hold)
      (kept_apart (block_bytes start modules ranges) first (bytes_of module_widths modules) start.block.0 start.modules.0 (block_modules m start modules ranges hold)
      (stored_part m (block_bytes start modules ranges) before start.block.0 block_size (block_bytes_lem start modules ranges) (block_lies m start modules ranges hold) (omega arith))))

  modules_stand : HasBytes after start.modules.0 (bytes_of module_widths modules)
  modules_stand =
      subst⁻¹ (λ (l : List ℕ). HasBytes l start.modules.0 (bytes_of module_widths modules)) as_put
      (kept_apart (bytes_of module_widths modules) second (bytes_of range_widths ranges) start.modules.0 start.ranges.0 (modules_ranges m start modules ranges hold)
      (stored_part m (bytes_of module_widths modules) first start.modules.0 (list_size module_widths modules) (modules_size m start modules ranges hold)
      (modules_lie m start modules ranges hold) (omega (arith, length_first))))

  ranges_stand : HasBytes after start.ranges.0 (bytes_of range_widths ranges)
  ranges_stand =
      subst⁻¹ (λ (l : List ℕ). HasBytes l start.ranges.0 (bytes_of range_widths ranges)) as_put
      (stored_part m (bytes_of range_widths ranges) second start.ranges.0 (list_size range_widths ranges) (ranges_size m start modules ranges hold)
      (ranges_lie m start modules ranges hold) (omega (arith, length_second)))

  -- ---- and read back equal

  pub block_back : rows_numbers (field_width block_widths) block_fields after start.block.0 0 ≡ block_of start modules ranges
  block_back =
      rows_back (field_width block_widths) (block_of start modules ranges) after start.block.0 0
      (block_fits start modules ranges fit (few_modules m start modules ranges hold) (few_ranges m start modules ranges hold)) block_stands

  pub modules_back : rows_numbers (field_width module_widths) (length modules) after start.modules.0 0 ≡ modules
  modules_back = rows_back (field_width module_widths) modules after start.modules.0 0 (rows_fit module_widths modules (modules_are m start modules ranges hold)) modules_stand

  pub ranges_back : rows_numbers (field_width range_widths) (length ranges) after start.ranges.0 0 ≡ ranges
  ranges_back = rows_back (field_width range_widths) ranges after start.ranges.0 0 (rows_fit range_widths ranges (ranges_are m start modules ranges hold)) ranges_stand

  -- ---- so the block is accepted

  -- the k-th number of the block, where it stands
  field_back : (k : ℕ) → k < block_fields → le (field_width block_widths (0 + k)) after (start.block.0 + rows_length (field_width block_widths) k 0) ≡ get_or (block_of start modules ranges) k 0
  field_back k h = sym (number_at (field_width block_widths) block_fields after start.block.0 0 k h) ∙ ap (λ (l : List ℕ). get_or l k 0) block_back

  right_magic : le 4 after start.block.0 ≡ magic
  unfolding rows_length field_width
  right_magic = ap (le 4 after) (sym (add-zero start.block.0)) ∙ field_back 0 (omega arith)

  right_version : le 4 after (start.block.0 + version_at) ≡ version
  unfolding rows_length field_width
  right_version = field_back 1 (omega arith)

  module_count : le 4 after (start.block.0 + module_count_at) ≡ count_of modules
  unfolding rows_length field_width
  module_count = field_back 3 (omega arith)

  modules_address : le 8 after (start.block.0 + modules_at) ≡ start.modules.0
  unfolding rows_length field_width
  modules_address = field_back 4 (omega arith)

  ranges_address : le 8 after (start.block.0 + ranges_at) ≡ start.ranges.0
  unfolding rows_length field_width
  ranges_address = field_back 7 (omega arith)

  range_count : le 4 after (start.block.0 + range_count_at) ≡ count_of ranges
  unfolding rows_length field_width
  range_count = field_back 8 (omega arith)

  right_reserved : le 4 after (start.block.0 + reserved_at) ≡ 0
  unfolding rows_length field_width
  right_reserved = field_back 9 (omega arith)

  -- a list that was written, as the checker sees it
  list_back : (widths rows : List ℕ) {address count : ℕ} (at : ℕ) → address ≡ at → count ≡ count_of rows → length widths ≡ 4 → are_rows widths rows ≡ true
      → count_of rows < count_end → reserved_are_zero rows ≡ true → room_for m at (list_size widths rows) ≡ true
      → rows_numbers (field_width widths) (length rows) after at 0 ≡ rows → AllHold (rows_tests widths m after address count)
  list_back widths rows at ea ec four are few zeros there back =
      let all : min (count_of rows) count_end ≡ count_of rows = omega arith in
      rw (ea, ec) (
        ap (λ (k : ℕ). room_for m at (k * row_length widths)) (sym all) ∙ there,
        (ap reserved_are_zero (ap (λ (k : ℕ). rows_numbers (field_width widths) k after at 0) (as_counted widths rows four are) ∙ back) ∙ zeros, tt),
      )

  -- memory is as large as it was, and has the same map
  same_memory : memory_of after map ≡ m
  same_memory = ap (λ (n : ℕ). record { size = n; map = map }) (load_length (plan_of m start modules ranges) before after writes)

  pub accepted_back : AllHold (start_tests m after start.block.0)
  accepted_back =
      let first = list_back module_widths modules start.modules.0 modules_address module_count refl (modules_are m start modules ranges hold) (few_modules m start modules ranges hold)
      (modules_zero m start modules ranges hold) (modules_lie m start modules ranges hold) modules_back in (
        block_lies m start modules ranges hold,
        (
          eq-eqb (le 4 after start.block.0) magic right_magic,
          (
            eq-eqb (le 4 after (start.block.0 + version_at)) version right_version,
            (
              eq-eqb (le 4 after (start.block.0 + reserved_at)) 0 right_reserved,
              (
                first.0,
                (
                  first.1.0,
                  list_back range_widths ranges start.ranges.0 ranges_address range_count refl (ranges_are m start modules ranges hold) (few_ranges m start modules ranges hold)
                      (ranges_zero m start modules ranges hold) (ranges_lie m start modules ranges hold) ranges_back,
                ),
              ),
            ),
          ),
        ),
      )

  pub checked_back : {answer : Check} → answer ≡ check_of map after start.block.0 → answer ≡ pass
  checked_back checks =
      checks
      ∙ all_open (check_tests (memory_of after map) after start.block.0)
      (subst⁻¹ (λ (x : Memory). AllHold (check_tests x after start.block.0)) same_memory (hold.0, (hold.1.0, accepted_back)))
