-- Laws of the plan and its parts, of any format: each format has shown that its parts are what it writes, and that they fit.
use Rattle.std.specs.Prelude.{Ok, Err, Option, is_ok}
use Rattle.guest.specs.declared.GuestAddress.{GuestAddress}
use Prim.Native.Nat.{ℕ, zero, suc, ◌+◌, ◌-◌, ◌*◌, ◌≤◌, ◌<◌}
use mathlib.Core.Path.{◌≡◌, refl, sym, ◌∙◌, ap, subst, subst⁻¹}
use mathlib.Core.Bool.{Bool, true, false}
use mathlib.Core.List.{List, []}
use native.Mathlib.Omega.{arith}
use borrow.Author.Tests.{eq-eqb, lt-ltb, eqb-false}
use lib.Dec.{eqb}
use lib.ListN.{length}
use Rattle.answers.specs.Pick.{pick}
use Rattle.answers.specs.declared.Refusal.{Refusal}
use Rattle.answers.proofs.PickLaws.{pick_with}
use Rattle.guest.specs.Addresses.{amount_of}
use Rattle.guest.specs.Answers.{Answer}
use Rattle.guest.specs.Loading.{Plan, Loads}
use Rattle.guest.specs.Parts.{PartLies, Fits, PartCopied, kept_part, part_stream, parts_from, portion_of}
use Rattle.guest.specs.Stream.{Poke, Inside, none, pour, stream_at, bytes_at}
use Rattle.guest.specs.declared.KernelLoaderResult.{KernelLoaderResult}
use Rattle.guest.specs.declared.Memory.{Memory}
use Rattle.guest.specs.declared.Part.{Part}
use Rattle.guest.specs.declared.Portion.{Portion}
use Rattle.guest.proofs.PartsLaws.{kept_stands, parts_inside, parts_kept, none_fits}
use Rattle.guest.proofs.StreamLaws.{pour_append}
use Rattle.fields.proofs.RangesLaws.{sum_within}
use Rattle.elf.specs.Header.{e_phoff_of, e_phnum_of, program_header_size}
use Rattle.elf.specs.Parts.{header_part}
use Rattle.elf.specs.Parts as elf_parts
use Rattle.elf.specs.Pouring as elf
use Rattle.elf.specs.ProgramHeaders.{header_place, header_of}
use Rattle.elf.specs.Verdict.{Accepted, is_accepted}
use Rattle.elf.proofs.FitsLaws.{accepted_stand}
use Rattle.elf.proofs.PartsLaws as elf_laws
use Rattle.bzimage.specs.Plan as bzimage
use Rattle.bzimage.proofs.PlanLaws as bzimage_laws
use Rattle.arm64.specs.Plan as arm64
use Rattle.arm64.proofs.PlanLaws as arm64_laws
use Rattle.loads.specs.Formats.{answer_by, count_by, only_at, part_by, answer_of, count_of, part_of, plan_of}
use Rattle.loads.specs.Layout.{layout_by, layout_of, part_in, HeaderLies, TableStands, headers, bzimage_has_none, arm64_has_none}
use Rattle.loads.specs.Steps.{tested_part}
use Rattle.loads.specs.declared.Format.{Format}
use Rattle.loads.specs.declared.Format.TheVariants.{Elf, BzImage, Arm64}
use Rattle.loads.specs.declared.Options.{Options}
use Rattle.loads.specs.declared.formats.Layout.{Layout}

-- ---- the plan of a load is its format's

-- a plan that writes these parts if it loads, and else nothing
by_answer : (plan : Plan Answer) (parts : List Poke) → ((k : KernelLoaderResult) → plan.answer ≡ Ok k → parts ≡ plan.stream)
    → ((r : Refusal) → plan.answer ≡ Err r → plan.stream ≡ []) → record { answer = plan.answer; stream = pick (is_ok plan.answer) parts [] } ≡ plan
unfolding pick
by_answer plan parts loads refuses = ap (λ (ps : List Poke). record { answer = plan.answer; stream = ps }) (by plan.answer refl)
  where
    by : (a : Answer) → plan.answer ≡ a → pick (is_ok plan.answer) parts [] ≡ plan.stream
    by (Ok k) e = ap (λ (a : Answer). pick (is_ok a) parts []) e ∙ loads k e
    by (Err r) e = ap (λ (a : Answer). pick (is_ok a) parts []) e ∙ sym (refuses r e)

module _ (image : List ℕ) (m : Memory) (offset highmem : Option GuestAddress) where
  abbrev by_format : Format → Plan Answer
  by_format f =
      record {
        answer = answer_by f image m offset highmem;
        stream = pick (is_ok (answer_by f image m offset highmem)) (parts_from (count_by f image) image (part_by f image offset) 0) [];
      }

  elf_by : by_format Elf ≡ elf.plan_of image m offset highmem
  unfolding answer_by count_by part_by
  elf_by = by_answer (elf.plan_of image m offset highmem) _ (λ k e. elf_laws.parts_written image m offset highmem e) (λ r e. elf_laws.none_written image m offset highmem e)

  bzimage_by : by_format BzImage ≡ bzimage.plan_of image m offset highmem
  unfolding answer_by count_by part_by parts_from only_at pick
  bzimage_by =
      by_answer (bzimage.plan_of image m offset highmem) _ (λ k e. bzimage_laws.parts_written image m offset highmem e)
      (λ r e. ap (λ (p : Plan Answer). p.stream) (bzimage_laws.refused_plan_lem image m offset highmem e))

  arm64_by : by_format Arm64 ≡ arm64.plan_of image m (amount_of offset)
  unfolding answer_by count_by part_by parts_from only_at pick
  arm64_by =
      by_answer (arm64.plan_of image m (amount_of offset)) _ (λ k e. arm64_laws.parts_written image m (amount_of offset) e)
      (λ r e. ap (λ (p : Plan Answer). p.stream) (arm64_laws.refused_plan_lem image m (amount_of offset) e))

  -- ---- the parts of an accepted load fit

  fit_by : (f : Format) {k : KernelLoaderResult} → answer_by f image m offset highmem ≡ Ok k → (i : ℕ) → i < count_by f image
      → Fits (length image) m (part_by f image offset i)
  unfolding answer_by count_by part_by only_at
  fit_by Elf is i lt = elf_laws.parts_fit image m offset highmem (subst⁻¹ Accepted is is_accepted) i lt
  fit_by BzImage is i lt =
      pick_with (Fits (length image) m) (eqb i 0) (λ _. bzimage_laws.part_fits image m offset highmem is) (λ _. none_fits (length image) m)
  fit_by Arm64 is i lt =
      pick_with (Fits (length image) m) (eqb i 0) (λ _. arm64_laws.part_fits image m (amount_of offset) is) (λ _. none_fits (length image) m)

module _ (image : List ℕ) (m : Memory) (o : Options) where
  pub elf_plan : o.format ≡ Elf → plan_of image m o ≡ elf.plan_of image m o.kernel_offset o.highmem_start
  elf_plan e = ap (by_format image m o.kernel_offset o.highmem_start) e ∙ elf_by image m o.kernel_offset o.highmem_start

  pub bzimage_plan : o.format ≡ BzImage → plan_of image m o ≡ bzimage.plan_of image m o.kernel_offset o.highmem_start
  bzimage_plan e = ap (by_format image m o.kernel_offset o.highmem_start) e ∙ bzimage_by image m o.kernel_offset o.highmem_start

  pub arm64_plan : o.format ≡ Arm64 → plan_of image m o ≡ arm64.plan_of image m (amount_of o.kernel_offset)
  arm64_plan e = ap (by_format image m o.kernel_offset o.highmem_start) e ∙ arm64_by image m o.kernel_offset o.highmem_start

  pub parts_fit : {k : KernelLoaderResult} → answer_of image m o ≡ Ok k → (i : ℕ) → i < count_of image o → Fits (length image) m (part_of image o i)
  parts_fit is = fit_by image m o.kernel_offset o.highmem_start o.format is

  -- of an accepted load the program headers lie in the image
  stands_by : (f : Format) {k : KernelLoaderResult} → answer_by f image m o.kernel_offset o.highmem_start ≡ Ok k → TableStands image f
  unfolding answer_by
  stands_by Elf is = headers (accepted_stand image m o.kernel_offset o.highmem_start (subst⁻¹ Accepted is is_accepted))
  stands_by BzImage is = bzimage_has_none
  stands_by Arm64 is = arm64_has_none

  pub table_stands : {a : Answer} → a ≡ answer_of image m o → is_ok a ≡ true → TableStands image o.format
  table_stands {a = Ok k} ea is = stands_by o.format (sym ea)
  table_stands {a = Err r} ea is = absurd (eqb-false 0 0 (sym is) refl)

  -- so testing them again changes nothing of what they write
  pub parts_tested : {k : KernelLoaderResult} → answer_of image m o ≡ Ok k
      → parts_from (count_of image o) image (tested_part image m o) 0 ≡ parts_from (count_of image o) image (part_of image o) 0
  parts_tested is = parts_kept (count_of image o) image m (part_of image o) 0 (λ j le lt. parts_fit is j (omega arith))

  -- whatever the image holds by now, a part that was tested lies in it and has room
  pub parts_stand : (i : ℕ) → PartLies (length image) m (tested_part image m o i)
  parts_stand i = kept_stands (length image) m (part_of image o i)

  -- what is written lies in guest memory
  inside_by : (a : Answer) → answer_of image m o ≡ a → Inside m (pick (is_ok a) (parts_from (count_of image o) image (part_of image o) 0) [])
  unfolding pick
  inside_by (Ok k) e = subst (Inside m) (parts_tested e) (parts_inside image m (tested_part image m o) parts_stand (count_of image o) 0)
  inside_by (Err r) e = none

  pub plan_inside : Inside m (plan_of image m o).stream
  plan_inside = inside_by (answer_of image m o) refl

  -- ---- the whole load: a refusal writes nothing, and else all parts are written

  written_by : {a : Answer} {x : Bool} {before after : List ℕ} → a ≡ answer_of image m o → is_ok a ≡ x
      → after ≡ pour (pick x (parts_from (count_of image o) image (part_of image o) 0) []) before → Loads (plan_of image m o) before a after
  written_by {before = before} ea ex written =
      record {
        answer = ea;
        memory = written ∙ ap (λ (y : Bool). pour (pick y (parts_from (count_of image o) image (part_of image o) 0) []) before) (sym ex ∙ ap is_ok ea);
      }

  pub load_refused : {a : Answer} (before : List ℕ) → a ≡ answer_of image m o → is_ok a ≡ false → Loads (plan_of image m o) before a before
  unfolding pick pour
  load_refused before ea shut = written_by ea shut refl

  pub load_accepted : {a : Answer} {before after : List ℕ} → a ≡ answer_of image m o → is_ok a ≡ true
      → after ≡ pour (parts_from (count_of image o) image (part_of image o) 0) before → Loads (plan_of image m o) before a after
  unfolding pick
  load_accepted ea is written = written_by ea is written

  -- ---- portions

  -- what was copied of part i
  pub part_copied : (i : ℕ) {p : Part} {skip budget size count : ℕ} {before after : List ℕ} → p ≡ part_of image o i
      → PartCopied image (kept_part (length image) m p) skip budget before size count after → PartCopied image (tested_part image m o i) skip budget before size count after
  part_copied i {p} {skip} {budget} {size} {count} {before} {after} e copied =
      subst (λ (x : Part). PartCopied image (kept_part (length image) m x) skip budget before size count after) e copied

  -- the count of parts, as it was read
  pub portion_counted : (i q budget : ℕ) {n : ℕ} {before after : List ℕ} {r : Portion} → n ≡ count_of image o
      → Loads (portion_of n image (tested_part image m o) i q budget) before r after
      → Loads (portion_of (count_of image o) image (tested_part image m o) i q budget) before r after
  portion_counted i q budget {n} {before} {after} {r} e loads =
      subst (λ k. Loads (portion_of k image (tested_part image m o) i q budget) before r after) e loads

-- a place within a part is a number of 64 bits
pub short_sum : (passed k size top : ℕ) → k < size - passed → size < top → passed + k < top
short_sum passed k size top short small = omega arith

-- ---- all parts, one after the other

module _ (image : List ℕ) (offset : Option GuestAddress) (i : ℕ) where
  -- the part of a header that lies in the image
  table_part : i < e_phnum_of image → header_place image i + program_header_size ≤ length image
      → header_part (amount_of offset) (header_of image i) ≡ elf_parts.part_of image offset i
  unfolding elf_parts.part_of elf_parts.part_at pick
  table_part lt stands =
      rw (lt-ltb i (e_phnum_of image) lt, sum_within (length image) (e_phoff_of image) (program_header_size * i + program_header_size) (omega arith))

  layout_by_lem : (f : Format) → TableStands image f → i < count_by f image → part_in image (layout_by f image offset) i ≡ part_by f image offset i
  unfolding part_in layout_by part_by count_by only_at pick
  layout_by_lem Elf (headers h) lt = table_part lt (h.stands i lt)
  layout_by_lem BzImage bzimage_has_none lt = sym (rw (eq-eqb i 0 (omega arith)))
  layout_by_lem Arm64 arm64_has_none lt = sym (rw (eq-eqb i 0 (omega arith)))

  fits_by : (f : Format) → TableStands image f → i < count_by f image → HeaderLies image (layout_by f image offset) i
  unfolding layout_by count_by
  fits_by Elf (headers h) lt = h.stands i lt
  fits_by BzImage bzimage_has_none lt = tt
  fits_by Arm64 arm64_has_none lt = tt

-- parts that agree, one by one
same_parts : (image : List ℕ) (p q : ℕ → Part) (k i : ℕ) → ((j : ℕ) → j < i + k → p j ≡ q j) → parts_from k image p i ≡ parts_from k image q i
unfolding parts_from
same_parts image p q zero i same = refl
same_parts image p q (suc k) i same = rw (same i (omega arith), same_parts image p q k (suc i) (λ j lt. same j (omega arith)))

module _ (image : List ℕ) (o : Options) (stands : TableStands image o.format) {n : ℕ} (counted : n ≡ count_of image o) {l : Layout}
    (laid : l ≡ layout_of image o) where
  pub layout_fits : (i : ℕ) → i < n → HeaderLies image l i
  layout_fits i lt = subst⁻¹ (λ (x : Layout). HeaderLies image x i) laid (fits_by image o.kernel_offset i o.format stands (subst (λ k. i < k) counted lt))

  pub layout_parts : parts_from n image (part_in image l) 0 ≡ parts_from (count_of image o) image (part_of image o) 0
  layout_parts =
      ap (λ k. parts_from k image (part_in image l) 0) counted ∙ ap (λ (x : Layout). parts_from (count_of image o) image (part_in image x) 0) laid
      ∙ same_parts image (part_in image (layout_of image o)) (part_of image o) (count_of image o) 0 (λ j lt. layout_by_lem image o.kernel_offset j o.format stands (omega arith))

-- a part that is copied
pub part_poured : (image : List ℕ) (before : List ℕ) {p q : Part} {after : List ℕ} → p ≡ q
    → after ≡ pour (stream_at p.address.0 (bytes_at image p.place.0 p.size)) before → after ≡ pour (part_stream image q) before
unfolding part_stream
part_poured image before e wrote =
    wrote ∙ ap (λ (x : Part). pour (stream_at x.address.0 (bytes_at image x.place.0 x.size)) before) e

module _ (image : List ℕ) (part : ℕ → Part) (i : ℕ) (guest : List ℕ) where
  pub parts_next : {n : ℕ} (k next : ℕ) → n ≡ suc k → next ≡ suc i
      → pour (parts_from n image part i) guest ≡ pour (parts_from k image part next) (pour (part_stream image (part i)) guest)
  unfolding parts_from
  parts_next k next en ei = rw (en, ei) (pour_append (part_stream image (part i)) (parts_from k image part (suc i)) guest)

  pub parts_end : {n : ℕ} → n ≡ 0 → pour (parts_from n image part i) guest ≡ guest
  unfolding parts_from pour
  parts_end en = rw en
