-- Laws of the survey.
use Rattle.std.specs.Prelude.{Ok, Err, Option, Result}
use Rattle.guest.specs.declared.GuestAddress.{GuestAddress}
use Rattle.answers.specs.declared.Refusal.{Refusal}
use Rattle.guest.specs.Answers.{Answer}
use Prim.Native.Nat.{ℕ, zero, suc, ◌+◌, ◌-◌, ◌<◌}
use mathlib.Core.Path.{◌≡◌, sym, ◌∙◌, refl, subst}
use mathlib.Core.List.{List}
use native.Mathlib.Nat.{add-zero}
use native.Mathlib.Omega.{arith}
use Rattle.elf.specs.ProgramHeaders.{header_of}
use Rattle.elf.specs.Survey.{Rooms, step_of, advanced, after_step, survey_from}
use Rattle.guest.specs.declared.KernelLoaderResult.{KernelLoaderResult}
use Rattle.elf.specs.declared.program_headers.ProgramHeader.{ProgramHeader}
use Rattle.elf.specs.declared.survey.Effect.{Effect}

-- header i of n, where what is left of the survey is `whole`
module _ (image : List ℕ) (hasRoom : Rooms) (offset : Option GuestAddress) (i : ℕ) (result : KernelLoaderResult) where
  step_left : {left : ℕ} {h : ProgramHeader} {r t : Result Effect Refusal} (rest next : ℕ) → left ≡ suc rest → next ≡ suc i → h ≡ header_of image i
      → r ≡ step_of image hasRoom offset h → r ≡ t
      → survey_from left image hasRoom offset i result ≡ after_step t (λ e. survey_from rest image hasRoom offset next (advanced result e))
  unfolding survey_from
  step_left rest next el en eh er et = rw (el, en, ← eh, ← er, et)

  -- its step decides, or goes on to the headers after it
  pub survey_turn : {n : ℕ} {h : ProgramHeader} {r t : Result Effect Refusal} {whole : Answer} → i < n → h ≡ header_of image i → r ≡ step_of image hasRoom offset h → r ≡ t
      → survey_from (n - i) image hasRoom offset i result ≡ whole
      → after_step t (λ e. survey_from (n - (i + 1)) image hasRoom offset (i + 1) (advanced result e)) ≡ whole
  survey_turn {n} lt eh er et left = sym (step_left (n - (i + 1)) (i + 1) (omega arith) (omega arith) eh er et) ∙ left

  pub survey_end : {left : ℕ} → left ≡ 0 → Ok result ≡ survey_from left image hasRoom offset i result
  unfolding survey_from
  survey_end el = rw el

-- what holds before any program header, and is kept by each that passes, holds of the result
pub survey_with : (image : List ℕ) (hasRoom : Rooms) (offset : Option GuestAddress) (P : ℕ → KernelLoaderResult → Type 0)
    → ((i : ℕ) (x : KernelLoaderResult) (e : Effect) → step_of image hasRoom offset (header_of image i) ≡ Ok e → P i x → P (suc i) (advanced x e))
    → (n i : ℕ) (x : KernelLoaderResult) {r : KernelLoaderResult} → P i x → survey_from n image hasRoom offset i x ≡ Ok r → P (i + n) r
unfolding survey_from
survey_with image hasRoom offset P keeps zero i x {r} p is = let same : x ≡ r = cc in rw add-zero (subst (P i) same p)
survey_with image hasRoom offset P keeps (suc n) i x {r} p is =
    by (step_of image hasRoom offset (header_of image i)) refl is
    (λ e passed more. survey_with image hasRoom offset P keeps n (suc i) (advanced x e) (keeps i x e passed p) more)
  where
    next : Effect → Answer
    next e = survey_from n image hasRoom offset (suc i) (advanced x e)

    by : (t : Result Effect Refusal) → step_of image hasRoom offset (header_of image i) ≡ t → after_step t next ≡ Ok r
        → ((e : Effect) → step_of image hasRoom offset (header_of image i) ≡ Ok e → next e ≡ Ok r → P (suc i + n) r) → P (i + suc n) r
    by (Ok e) passed ok rest = subst (λ k. P k r) (let same : suc i + n ≡ i + suc n = omega arith in same) (rest e passed ok)
    by (Err s) passed ok rest = let w : ◌≡◌ {A = ℕ} 0 1 = cc in absurd (omega arith)
