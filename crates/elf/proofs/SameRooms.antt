-- Two memories that have the same rooms of one byte or more: the program headers answer the same, since room is asked for no other.
use Rattle.std.specs.Prelude.{Ok, Err, Option, Result}
use Rattle.guest.specs.declared.GuestAddress.{GuestAddress}
use Rattle.answers.specs.declared.Refusal.{Refusal}
use Rattle.guest.specs.Answers.{Answer}
use Prim.Native.Nat.{ℕ, zero, suc, ◌<◌}
use mathlib.Core.Path.{◌≡◌, refl}
use mathlib.Core.Bool.{false}
use mathlib.Core.List.{List}
use native.Mathlib.Omega.{arith}
use borrow.Author.Tests.{eqb-false}
use lib.Dec.{eqb}
use lib.ListN.{length}
use Rattle.answers.proofs.PickLaws.{pick_both}
use Rattle.guest.specs.Addresses.{amount_of}
use Rattle.guest.specs.declared.KernelLoaderResult.{KernelLoaderResult}
use Rattle.elf.specs.ProgramHeaders.{header_of}
use Rattle.elf.specs.Survey.{Rooms, address_of, load_step, step_of, survey_from, advanced, after_step}
use Rattle.elf.specs.declared.program_headers.ProgramHeader.{ProgramHeader}
use Rattle.elf.specs.declared.survey.Effect.{Effect}

positive : (n : ℕ) → eqb n 0 ≡ false → 0 < n
positive n f = let some = eqb-false n 0 f in omega arith

module _ (one other : Rooms) (same : (address n : ℕ) → 0 < n → one address n ≡ other address n) where
  load_same : (imageLength shift : ℕ) (h : ProgramHeader) → load_step imageLength one shift h ≡ load_step imageLength other shift h
  unfolding load_step
  load_same imageLength shift h =
      pick_both ◌≡◌ (eqb h.p_filesz 0) (λ _. refl) (λ some. rw (same (address_of shift h) h.p_filesz (positive h.p_filesz some)))

  step_same : (image : List ℕ) (offset : Option GuestAddress) (h : ProgramHeader) → step_of image one offset h ≡ step_of image other offset h
  unfolding step_of
  step_same image offset h = rw (load_same (length image) (amount_of offset) h)

  pub survey_same : (n : ℕ) (image : List ℕ) (offset : Option GuestAddress) (i : ℕ) (result : KernelLoaderResult)
      → survey_from n image one offset i result ≡ survey_from n image other offset i result
  unfolding survey_from
  survey_same zero image offset i result = refl
  survey_same (suc n) image offset i result =
      rw (step_same image offset (header_of image i))
      (by (step_of image other offset (header_of image i)) (λ e. survey_same n image offset (suc i) (advanced result e)))
    where
      by : {more more' : Effect → Answer} (s : Result Effect Refusal) → ((e : Effect) → more e ≡ more' e) → after_step s more ≡ after_step s more'
      by (Ok e) same = same e
      by (Err r) same = refl
