-- Laws of the plan, which the functions' proofs and the theorems cite.
use Rattle.std.specs.Prelude.{Ok, Err}
use Rattle.guest.specs.Answers.{Answer}
use Prim.Native.Nat.{ℕ}
use mathlib.Core.Path.{◌≡◌, sym, ◌∙◌, ap, subst, subst⁻¹}
use mathlib.Core.Bool.{true}
use mathlib.Core.List.{List, ◌++◌, append-nil}
use native.Mathlib.Omega.{arith}
use lib.ListN.{length}
use lib.Seq.{take_all}
use Rattle.answers.specs.Pick.{pick}
use Rattle.answers.specs.Tests.{Test, AllHold, FirstFails}
use Rattle.answers.specs.declared.Refusal.{Refusal}
use Rattle.answers.proofs.TestsLaws.{hold_left, hold_right}
use Rattle.fields.specs.Ranges.{fits64}
use Rattle.fields.proofs.RangesLaws.{sum_within}
use Rattle.guest.specs.declared.Memory.{Memory}
use Rattle.guest.specs.Lent.{lent_tests}
use Rattle.guest.specs.Loading.{Plan, refused_plan}
use Rattle.guest.specs.Parts.{Fits, part_stream, parts_from}
use Rattle.guest.specs.Room.{room}
use Rattle.guest.specs.Stream.{bytes_at, stream_at}
use Rattle.guest.proofs.LoadingLaws.{all_planned, first_planned, behind_with}
use Rattle.guest.specs.declared.KernelLoaderResult.{KernelLoaderResult}
use Rattle.arm64.specs.Image.{text_offset, start_of}
use Rattle.arm64.specs.Plan.{image_tests, place_tests, tests, loaded_as, image_plan, plan_of}
use Rattle.arm64.specs.Parts.{whole_file, part_of}

-- ---- the tests and the plan behind them

module _ (s : List ℕ) (m : Memory) (base : ℕ) where
  abbrev row : List Test
  row = tests s m base

  -- what an image that passed the tests has: an address and an end of 64 bits, and room
  hold_place : AllHold row → AllHold (place_tests s m base)
  hold_place hold = hold_right (image_tests s base) (place_tests s m base) (hold_right (lent_tests (length s) m) (image_tests s base ++ place_tests s m base) hold)

  pub hold_room : AllHold row → room m (start_of s base) (length s) ≡ true
  hold_room hold = (hold_place hold).0

  pub hold_start : AllHold row → fits64 base (text_offset s) ≡ true
  hold_start hold =
      let own = hold_left (image_tests s base) (place_tests s m base) (hold_right (lent_tests (length s) m) (image_tests s base ++ place_tests s m base) hold) in
      own.1.1.1.1.1.0

  -- a plan, by its answer: one that loads passed all tests, and one that refuses failed one
  pub plan_loaded : {k : KernelLoaderResult} → (plan_of s m base).answer ≡ Ok k → AllHold row × (k ≡ loaded_as s base)
  plan_loaded {k} =
      behind_with Err row (image_plan s base) (λ p. p.answer ≡ Ok k → AllHold row × (k ≡ loaded_as s base))
      (λ hold e. let same : ◌≡◌ {A = KernelLoaderResult} (loaded_as s base) k = cc in (hold, sym same))
      (λ r fails e. let z : ◌≡◌ {A = ℕ} 0 1 = cc in absurd (omega arith))

  pub plan_refused : {refusal : Refusal} → (plan_of s m base).answer ≡ Err refusal → FirstFails refusal row
  plan_refused {refusal} =
      behind_with Err row (image_plan s base) (λ p. p.answer ≡ Err refusal → FirstFails refusal row)
      (λ hold e. let z : ◌≡◌ {A = ℕ} 0 1 = cc in absurd (omega arith))
      (λ r fails e. let same : ◌≡◌ {A = Refusal} r refusal = cc in subst (λ x. FirstFails x row) same fails)

  -- the whole plan of one that loads, and of one that refuses
  pub loaded_plan : {k : KernelLoaderResult} → (plan_of s m base).answer ≡ Ok k → plan_of s m base ≡ image_plan s base
  loaded_plan e = all_planned Err row (image_plan s base) (plan_loaded e).0

  pub refused_plan_lem : {refusal : Refusal} → (plan_of s m base).answer ≡ Err refusal → plan_of s m base ≡ refused_plan Err refusal
  refused_plan_lem e = first_planned Err row (image_plan s base) (plan_refused e)

-- ---- the file's bytes

-- all bytes from the first on are the file
pub all_bytes : (s : List ℕ) → bytes_at s 0 (length s) ≡ s
all_bytes s = take_all (length s) s (omega arith)

-- ---- of an accepted load the file fits, and is what is written

module _ (s : List ℕ) (m : Memory) (base : ℕ) {k : KernelLoaderResult} (is : (plan_of s m base).answer ≡ Ok k) where
  part_is : part_of s base ≡ whole_file s base
  unfolding part_of pick
  part_is = rw (hold_start s m base (plan_loaded s m base is).0)

  pub part_fits : Fits (length s) m (part_of s base)
  part_fits =
      subst⁻¹ (Fits (length s) m) part_is
      (record { in_image = λ _. sum_within (length s) 0 (length s) (omega arith); in_guest = λ _. hold_room s m base (plan_loaded s m base is).0 })

  pub parts_written : parts_from 1 s (λ _. part_of s base) 0 ≡ (plan_of s m base).stream
  unfolding parts_from part_stream
  parts_written =
      append-nil (part_stream s (part_of s base))
      ∙ ap (part_stream s) part_is
      ∙ ap (stream_at (start_of s base)) (all_bytes s)
      ∙ sym (ap (λ (p : Plan Answer). p.stream) (loaded_plan s m base is))
