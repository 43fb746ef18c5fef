-- Laws of the plan, which the functions' proofs and the theorems cite.
use Rattle.std.specs.Prelude.{Ok, Err, Option}
use Rattle.guest.specs.Answers.{Answer}
use Prim.Native.Nat.{ℕ, zero, suc, ◌+◌, ◌^◌, ◌<◌, ◌≤◌}
use mathlib.Core.Path.{◌≡◌, sym, ◌∙◌, refl, ap, subst}
use mathlib.Core.Bool.{true}
use mathlib.Core.List.{List, ◌++◌, append-nil}
use native.Mathlib.Omega.{arith}
use borrow.Author.Tests.{leb-true}
use lib.ListN.{length}
use Rattle.answers.specs.Tests.{Test, asked_all, AllHold, FirstFails, Check, pass}
use Rattle.answers.specs.declared.Refusal.{Refusal}
use Rattle.answers.proofs.TestsLaws.{open_all, hold_right}
use Rattle.fields.proofs.RangesLaws.{sum_within}
use Rattle.guest.specs.declared.GuestAddress.{GuestAddress}
use Rattle.guest.specs.declared.Memory.{Memory}
use Rattle.guest.specs.Lent.{lent_tests}
use Rattle.guest.specs.Sizes.{allowed, longest}
use Rattle.guest.specs.Loading.{Plan, refused_plan}
use Rattle.guest.specs.Room.{room}
use Rattle.guest.specs.Parts.{Fits, part_stream, parts_from}
use Rattle.guest.specs.Stream.{stream_at}
use Rattle.guest.proofs.RoomLaws.{room_size, room_for_some}
use Rattle.guest.proofs.LoadingLaws.{all_planned, first_planned, behind_with}
use Rattle.guest.specs.declared.KernelLoaderResult.{KernelLoaderResult}
use Rattle.bzimage.specs.Kernel.{setup_size, kernel_size, kernel_of, load_of}
use Rattle.bzimage.specs.Plan.{image_tests, room_tests, tests, loaded_as, kernel_plan, plan_of}
use Rattle.bzimage.specs.Parts.{part_of}
use Rattle.bzimage.proofs.KernelLaws.{kernel_bytes}

-- ---- the tests and the plan behind them

module _ (s : List ℕ) (m : Memory) (offset highmem : Option GuestAddress) where
  abbrev row : List Test
  row = tests s m offset highmem

  abbrev kernel : Plan Answer
  kernel = kernel_plan s (load_of s offset)

  -- a kernel of some bytes that passed the tests has room
  pub hold_room : AllHold row → 0 < kernel_size s → room m (load_of s offset).0 (kernel_size s) ≡ true
  hold_room hold lt =
      let rooms = hold_right (image_tests s highmem) (room_tests s m offset) (hold_right (lent_tests (length s) m) (image_tests s highmem ++ room_tests s m offset) hold) in
      sym (room_for_some m (load_of s offset).0 (kernel_size s) lt) ∙ rooms.0

  -- and the memory is not too long
  short_memory : AllHold row → m.size ≤ longest
  unfolding allowed
  short_memory hold = leb-true m.size longest hold.1.0

  -- so its end is a number of 64 bits, as the address is
  pub open_end : {gate : Check} {load : GuestAddress} {n : ℕ} → gate ≡ asked_all pass row → gate ≡ pass → load ≡ load_of s offset
      → n ≡ kernel_size s → load.0 < 2 ^ 64 → load.0 + n < 2 ^ 64
  open_end {gate} {load} {n} eg e el en small = by_size n en
    where
      at : load.0 ≡ (load_of s offset).0
      at = ap (λ (a : GuestAddress). a.0) el

      by_size : (n : ℕ) → n ≡ kernel_size s → load.0 + n < 2 ^ 64
      by_size zero ez = omega arith
      by_size (suc k) ez =
          let hold = open_all row (sym eg ∙ e) in
          let sum = room_size m (load_of s offset).0 (kernel_size s) (hold_room hold (omega arith)) in
          let short = short_memory hold in
          omega (arith, at)

  -- a plan, by its answer: one that loads passed all tests, and one that refuses failed one
  loaded_at : {k : KernelLoaderResult} → kernel.answer ≡ Ok k → k.kernel_load ≡ load_of s offset
  loaded_at {k} e =
      let same : ◌≡◌ {A = KernelLoaderResult} (loaded_as s (load_of s offset)) k = cc in
      ap (λ (q : KernelLoaderResult). q.kernel_load) (sym same)

  pub plan_loaded : {k : KernelLoaderResult} → (plan_of s m offset highmem).answer ≡ Ok k → AllHold row × (k.kernel_load ≡ load_of s offset)
  plan_loaded {k} =
      behind_with Err row kernel (λ p. p.answer ≡ Ok k → AllHold row × (k.kernel_load ≡ load_of s offset))
      (λ hold e. (hold, loaded_at e)) (λ r fails e. let z : ◌≡◌ {A = ℕ} 0 1 = cc in absurd (omega arith))

  pub plan_refused : {refusal : Refusal} → (plan_of s m offset highmem).answer ≡ Err refusal → FirstFails refusal row
  plan_refused {refusal} =
      behind_with Err row kernel (λ p. p.answer ≡ Err refusal → FirstFails refusal row)
      (λ hold e. let z : ◌≡◌ {A = ℕ} 0 1 = cc in absurd (omega arith))
      (λ r fails e. let same : ◌≡◌ {A = Refusal} r refusal = cc in subst (λ x. FirstFails x row) same fails)

  -- the whole plan of one that loads
  pub loaded_plan : {k : KernelLoaderResult} → (plan_of s m offset highmem).answer ≡ Ok k → plan_of s m offset highmem ≡ kernel_plan s k.kernel_load
  loaded_plan e = let loaded = plan_loaded e in all_planned Err row kernel loaded.0 ∙ ap (kernel_plan s) (sym loaded.1)

  -- and of one that refuses
  pub refused_plan_lem : {refusal : Refusal} → (plan_of s m offset highmem).answer ≡ Err refusal
      → plan_of s m offset highmem ≡ refused_plan Err refusal
  refused_plan_lem e = first_planned Err row kernel (plan_refused e)

-- ---- of an accepted load the kernel fits, and is what is written

module _ (s : List ℕ) (m : Memory) (offset highmem : Option GuestAddress) {k : KernelLoaderResult} (is : (plan_of s m offset highmem).answer ≡ Ok k) where
  pub part_fits : Fits (length s) m (part_of s offset)
  unfolding kernel_size
  part_fits =
      record {
        in_image = λ some. sum_within (length s) (setup_size s) (kernel_size s) (omega arith);
        in_guest = λ some. hold_room s m offset highmem (plan_loaded s m offset highmem is).0 some;
      }

  pub parts_written : parts_from 1 s (λ _. part_of s offset) 0 ≡ (plan_of s m offset highmem).stream
  unfolding parts_from part_stream
  parts_written =
      let loaded = plan_loaded s m offset highmem is in
      append-nil (part_stream s (part_of s offset))
      ∙ ap (stream_at (load_of s offset).0) (kernel_bytes s refl refl)
      ∙ ap (λ a. stream_at a.0 (kernel_of s)) (sym loaded.1)
      ∙ sym (ap (λ (p : Plan Answer). p.stream) (loaded_plan s m offset highmem is))
