-- "More memory or a wider map keeps what was accepted": while the old map and the new are good ones, what was written is
-- written alike in memory that grows, the added bytes untouched, and only a 76 for room may change: one for overlap or
-- for 2^32 rows stays. What the checker answers stays, too, of an accepted block and of one that is not accepted though
-- all of it lies in guest memory.
use Rattle.std.specs.Prelude.{Err}
use Prim.Native.Nat.{ℕ, zero, suc, ◌+◌, ◌*◌, ◌≤◌, ◌<◌}
use mathlib.Core.Path.{◌≡◌, sym, ◌∙◌, refl, ap, ap₂, subst⁻¹}
use mathlib.Core.Bool.{Bool, true, false}
use mathlib.Core.List.{List, ◌∷◌, ◌++◌}
use native.Mathlib.Omega.{arith}
use native.Mathlib.Nat.{suc-mul}
use borrow.Author.Tests.{ltb-true}
use lib.Dec.{eqb}
use lib.ListN.{length, length-append}
use Rattle.answers.specs.Keeping.{same, ShutBy, shut_by}
use Rattle.answers.specs.Tests.{Test, Check, pass}
use Rattle.answers.specs.declared.Refusal.{Refusal}
use Rattle.answers.specs.declared.Refusal.TheVariants.{BadPart}
use Rattle.answers.proofs.KeepingLaws.{Widens, end, stays, grows, kept, row_keeps, widens_append, widens_same}
use Rattle.fields.specs.Numbers.{le}
use Rattle.fields.specs.Rows.{field_width, rows_numbers, rows_length, row_length}
use Rattle.fields.proofs.NumbersLaws.{le_append}
use Rattle.fields.proofs.WholeRows.{whole_rows}
use Rattle.guest.specs.Loading.{RefusedFor}
use Rattle.guest.specs.Maps.{good_map}
use Rattle.guest.specs.Room.{room_for, Grows, Larger, memory_of}
use Rattle.guest.specs.Sizes.{allowed, longest}
use Rattle.guest.specs.declared.Map.{Map}
use Rattle.guest.specs.declared.Memory.{Memory}
use Rattle.guest.proofs.MapsLaws.{good_longer}
use Rattle.guest.proofs.RoomLaws.{longer_grows, larger_grows, allowed_longer, memory_stays, room_for_grows}
use Rattle.guest.proofs.LoadingLaws.{load_kept, behind_keeps}
use Rattle.start_info.specs.declared.Start.{Start}
use Rattle.start_info.specs.Kinds.{module_widths, range_widths, magic, version, block_size, version_at, module_count_at, modules_at, ranges_at, range_count_at, reserved_at, row_fields, count_of, reserved_are_zero}
use Rattle.start_info.specs.Parts.{count_end, list_size}
use Rattle.start_info.specs.Writing.{list_tests, part_tests, tests, plan_of, Writes}
use Rattle.start_info.specs.Checking.{rows_in, rows_tests, check_tests, check_of}
use Rattle.start_info.specs.Rule.{PartsLie, StartLies, ForRoom, NotInMemory}
use Rattle.start_info.proofs.PartsLaws.{lies_within}
use Rattle.start_info.proofs.OnlyParts.{plan_inside}
use Rattle.start_info.proofs.ExactRule.{where_accepted}

clash : {b : Bool} → b ≡ true → b ≡ false → ⊥
clash t f = let w : ◌≡◌ {A = ℕ} 0 1 = cc in omega arith

-- a part that comes to lie in guest memory, whose refusal may change if it did not
part_grows : {May : Refusal → Type 0} {ts ts' : List Test} (m m' : Memory) → Grows m m' → (address n : ℕ) → (room_for m address n ≡ false → May BadPart)
    → (room_for m address n ≡ true → Widens May ts ts') → Widens May ((room_for m address n, BadPart) ∷ ts) ((room_for m' address n, BadPart) ∷ ts')
part_grows {May} {ts} {ts'} m m' more address n = by_test (room_for m address n) (room_for_grows m m' address n more)
  where
    by_test : (b : Bool) {b' : Bool} → (b ≡ true → b' ≡ true) → (b ≡ false → May BadPart) → (b ≡ true → Widens May ts ts')
        → Widens May ((b, BadPart) ∷ ts) ((b', BadPart) ∷ ts')
    by_test true comes may rest = stays (comes refl) rest
    by_test false comes may rest = grows (λ e. absurd (clash e refl)) (may refl) rest

-- ---- the writer

module _ (start : Start) (modules ranges : List ℕ) (m m' : Memory) (more : Grows m m') where
  abbrev May : Refusal → Type 0
  May = ForRoom m start modules ranges

  parts_widen : Widens May (part_tests m start modules ranges) (part_tests m' start modules ranges)
  parts_widen =
      stays refl
      (λ few.
      stays refl
      (λ few'.
      let for-room : (PartsLie m start modules ranges → ⊥) → May BadPart = λ out. record {
        is = refl;
        few_modules = ltb-true (count_of modules) count_end few;
        few_ranges = ltb-true (count_of ranges) count_end few';
        out = out;
      } in
      part_grows m m' more start.block.0 block_size (λ f. for-room (λ all. clash all.block_lies f))
      (λ _.
      part_grows m m' more start.modules.0 (list_size module_widths modules) (λ f. for-room (λ all. clash all.modules_lie f))
      (λ _.
      part_grows m m' more start.ranges.0 (list_size range_widths ranges) (λ f. for-room (λ all. clash all.ranges_lie f)) (λ _. widens_same May _)))))

  rows_widen : allowed m'.size ≡ allowed m.size → good_map m'.size m'.map ≡ good_map m.size m.map
      → Widens May (tests m start modules ranges) (tests m' start modules ranges)
  rows_widen both maps =
      widens_append May
      (widens_append May
      (widens_append May (memory_stays May m m' both maps) (λ _. widens_same May (list_tests module_widths modules)))
      (λ _. widens_same May (list_tests range_widths ranges)))
      (λ _. parts_widen)

module _ (start : Start) (modules ranges : List ℕ) (map : Map) (guest more : List ℕ) {r r' : Check} {after after' : List ℕ}
    (before : Writes start modules ranges map guest r after) (short : length (guest ++ more) ≤ longest) (good : good_map (length guest) map ≡ true) where
  module _ (stays-so : RefusedFor Err (ForRoom (memory_of guest map) start modules ranges) r → ⊥) where
    pub guest_grows : (map' : Map) → good_map (length (guest ++ more)) map' ≡ true → Grows (memory_of guest map) (memory_of (guest ++ more) map')
        → Writes start modules ranges map' (guest ++ more) r' after' → (r' ≡ r) × (after' ≡ after ++ more)
    guest_grows map' good' more_Room longer =
        load_kept (plan_of (memory_of guest map) start modules ranges) guest after before (RefusedFor Err (ForRoom (memory_of guest map) start modules ranges)) (memory_of guest map)
        (plan_inside (memory_of guest map) start modules ranges) (omega arith)
        (behind_keeps Err (ForRoom (memory_of guest map) start modules ranges)
        (rows_widen start modules ranges (memory_of guest map) (memory_of (guest ++ more) map') more_Room (allowed_longer guest more short) (good' ∙ sym good))
        (λ _. same))
        more longer stays-so

    -- the slice is lengthened only, or memory is made larger in any of the ways
    pub guest_longer : Writes start modules ranges map (guest ++ more) r' after' → (r' ≡ r) × (after' ≡ after ++ more)
    guest_longer =
        guest_grows map (good_longer (length guest) (length (guest ++ more)) map (simp length-append (omega arith)) good) (longer_grows guest more map)

    pub guest_larger : (map' : Map) → good_map (length (guest ++ more)) map' ≡ true → Larger (memory_of guest map) (memory_of (guest ++ more) map')
        → Writes start modules ranges map' (guest ++ more) r' after' → (r' ≡ r) × (after' ≡ after ++ more)
    guest_larger map' good' larger = guest_grows map' good' (larger_grows larger)

  -- the two that stay, whatever was answered: parts that all lie in guest memory, and a list of 2^32 rows or more
  module _ (map' : Map) (good' : good_map (length (guest ++ more)) map' ≡ true) (grown : Grows (memory_of guest map) (memory_of (guest ++ more) map'))
      (longer : Writes start modules ranges map' (guest ++ more) r' after') where
    pub overlap_stays : PartsLie (memory_of guest map) start modules ranges → (r' ≡ r) × (after' ≡ after ++ more)
    overlap_stays lie = guest_grows (λ for. for.lifts.out lie) map' good' grown longer

    pub modules_stay : count_end ≤ count_of modules → (r' ≡ r) × (after' ≡ after ++ more)
    modules_stay many = guest_grows (λ for. let few = for.lifts.few_modules in omega arith) map' good' grown longer

    pub ranges_stay : count_end ≤ count_of ranges → (r' ≡ r) × (after' ≡ after ++ more)
    ranges_stay many = guest_grows (λ for. let few = for.lifts.few_ranges in omega arith) map' good' grown longer

-- ---- the checker

-- numbers within a slice are the same in a longer one
numbers_append : (width : ℕ → ℕ) (n : ℕ) (s t : List ℕ) (p i : ℕ) → p + rows_length width n i ≤ length s → rows_numbers width n (s ++ t) p i ≡ rows_numbers width n s p i
unfolding rows_numbers rows_length
numbers_append width zero s t p i h = refl
numbers_append width (suc n) s t p i h = ap₂ ◌∷◌ (le_append (width i) s t p (omega arith)) (numbers_append width n s t (p + width i) (suc i) (omega arith))

module _ (map map' : Map) (guest more : List ℕ) (grown : Grows (memory_of guest map) (memory_of (guest ++ more) map')) where
  abbrev old : Memory
  old = memory_of guest map

  abbrev new : Memory
  new = memory_of (guest ++ more) map'

  -- and so are those of a list that lies in guest memory
  rows_same : (widths : List ℕ) → length widths ≡ 4 → 0 < row_length widths → (address count : ℕ) → room_for old address (count * row_length widths) ≡ true
      → rows_in widths (guest ++ more) address count ≡ rows_in widths guest address count
  unfolding rows_numbers
  rows_same widths four some address zero there = refl
  rows_same widths four some address (suc k) there =
      let least : row_length widths ≤ suc k * row_length widths = let next = suc-mul k (row_length widths) in omega arith in
      let within = lies_within old address (suc k * row_length widths) (omega arith) there in
      let as_long : rows_length (field_width widths) (suc k * row_fields) 0 ≡ suc k * row_length widths =
      ap (λ (n : ℕ). rows_length (field_width widths) (suc k * n) 0) (sym four) ∙ whole_rows widths (suc k) in
      numbers_append (field_width widths) (suc k * row_fields) guest more address 0 (omega arith)

  module _ (block : ℕ) where
    abbrev May' : Refusal → Type 0
    May' = NotInMemory old guest block

    list_widen : (widths : List ℕ) → length widths ≡ 4 → 0 < row_length widths → {address address' count count' : ℕ} → address' ≡ address → count' ≡ count
        → (room_for old address (count * row_length widths) ≡ false → StartLies old guest block → ⊥)
        → Widens May' (rows_tests widths old guest address count) (rows_tests widths new (guest ++ more) address' count')
    list_widen widths four some {address} {count = count} ea ec out =
        rw (ea, ec)
        (part_grows old new grown address (count * row_length widths) (λ f. record { is = refl; out = out f })
        (λ there. stays (ap reserved_are_zero (rows_same widths four some address count there)) (λ _. end)))

    check_widens : allowed (length (guest ++ more)) ≡ allowed (length guest) → good_map (length (guest ++ more)) map' ≡ good_map (length guest) map
        → Widens May' (check_tests old guest block) (check_tests new (guest ++ more) block)
    unfolding row_length
    check_widens both maps =
        widens_append May' (memory_stays May' old new both maps)
        (λ _.
        part_grows old new grown block block_size (λ f. record { is = refl; out = λ all. clash all.block_lies f })
        (λ there.
        let within = lies_within old block block_size (omega arith) there in
        let as_before : (n at : ℕ) → at + n ≤ block_size → le n (guest ++ more) (block + at) ≡ le n guest (block + at) = λ n at h.
        le_append n guest more (block + at) (omega arith) in
        stays (ap (λ (v : ℕ). eqb v magic) (le_append 4 guest more block (omega arith)))
        (λ _.
        stays (ap (λ (v : ℕ). eqb v version) (as_before 4 version_at (omega arith)))
        (λ _.
        stays (ap (λ (v : ℕ). eqb v 0) (as_before 4 reserved_at (omega arith)))
        (λ _.
        widens_append May'
        (list_widen module_widths refl (omega arith) (as_before 8 modules_at (omega arith)) (as_before 4 module_count_at (omega arith)) (λ f all. clash all.modules_lie f))
        (λ _.
        list_widen range_widths refl (omega arith) (as_before 8 ranges_at (omega arith)) (as_before 4 range_count_at (omega arith)) (λ f all. clash all.ranges_lie f)))))))

    module _ {r r' : Check} (checks : r ≡ check_of map guest block) (short : length (guest ++ more) ≤ longest)
        (good' : good_map (length (guest ++ more)) map' ≡ true) (checks' : r' ≡ check_of map' (guest ++ more) block) where
      -- the answer stays, unless it is a 76
      pub check_grows : good_map (length guest) map ≡ true → (RefusedFor Err May' r → ⊥) → r' ≡ r
      check_grows good stays-so =
          checks'
          ∙ kept (ShutBy May') (row_keeps May' (check_widens (allowed_longer guest more short) (good' ∙ sym good)))
          (λ shut. stays-so (subst⁻¹ (RefusedFor Err May') checks (for_that shut)))
          ∙ sym checks
        where
          for_that : {g : Check} → ShutBy May' g → RefusedFor Err May' g
          for_that (shut_by l) = record { refusal = _; lifts = l; is = refl }

      -- so an accepted block is accepted, and one of which all lies in guest memory has the same answer
      pub accepted_grows : r ≡ pass → r' ≡ pass
      accepted_grows accepted =
          let good = (where_accepted map guest block checks accepted).0.1.0 in
          check_grows good (λ for. let e = sym accepted ∙ for.is in absurd (let w : ◌≡◌ {A = ℕ} 0 1 = cc in omega arith)) ∙ accepted

      pub not_accepted_grows : good_map (length guest) map ≡ true → StartLies old guest block → r' ≡ r
      not_accepted_grows good lie = check_grows good (λ for. for.lifts.out lie)

-- the same of memory made larger in any of the ways
module _ (map map' : Map) (guest more : List ℕ) (larger : Larger (memory_of guest map) (memory_of (guest ++ more) map')) (block : ℕ) {r r' : Check}
    (checks : r ≡ check_of map guest block) (short : length (guest ++ more) ≤ longest) (good' : good_map (length (guest ++ more)) map' ≡ true)
    (checks' : r' ≡ check_of map' (guest ++ more) block) where
  pub accepted_larger : r ≡ pass → r' ≡ pass
  accepted_larger = accepted_grows map map' guest more (larger_grows larger) block checks short good' checks'

  pub check_larger : good_map (length guest) map ≡ true → (RefusedFor Err (NotInMemory (memory_of guest map) guest block) r → ⊥) → r' ≡ r
  check_larger = check_grows map map' guest more (larger_grows larger) block checks short good' checks'
