-- "A number is given exactly when its turn comes and its condition holds", for a whole load: the verdict says which rule decides, and
-- each rule, where its turn comes, decides.
use Rattle.std.specs.Prelude.{Ok, Err, Option, Result}
use Rattle.guest.specs.declared.GuestAddress.{GuestAddress}
use Prim.Native.Nat.{ℕ, zero, suc, ◌+◌, ◌≤◌, ◌<◌}
use mathlib.Core.Path.{◌≡◌, ◌∙◌, refl, ap, subst, subst⁻¹}
use mathlib.Core.List.{List}
use native.Mathlib.Omega.{arith}
use native.Mathlib.Decide.{dec_le}
use Rattle.answers.specs.Catalogue.{number_of}
use Rattle.answers.specs.Tests.{Test, AllHold, FirstFails, pass}
use Rattle.answers.specs.declared.Refusal.{Refusal}
use Rattle.guest.specs.Loading.{Plan}
use Rattle.guest.specs.Room.{room}
use Rattle.guest.specs.declared.Memory.{Memory}
use Rattle.guest.proofs.LoadingLaws.{all_planned, first_planned, behind_with}
use Rattle.elf.specs.Header.{tests, e_phnum_of}
use Rattle.elf.specs.Survey.{advanced, blank, after_step, survey_from, load_address, survey_of}
use Rattle.elf.specs.Pouring.{survey_plan, plan_of}
use Rattle.guest.specs.Answers.{answer_number, Answer}
use Rattle.elf.specs.Verdict.{Passes, passes, AllPass, FirstStops, stops, step_at, Verdict, by_test, by_header, accepted, Accepted, is_accepted}
use Rattle.guest.specs.declared.KernelLoaderResult.{KernelLoaderResult}
use Rattle.elf.specs.declared.survey.Effect.{Effect}

-- ---- the survey of n program headers from i on

-- where it ends: after all, or at the first that does not pass
data Ends (step : ℕ → Result Effect Refusal) (i n : ℕ) : Answer → Type 0 where
  all : {result : KernelLoaderResult} → ((j : ℕ) → i ≤ j → j < i + n → Passes (step j)) → Ends step i n (Ok result)
  stop : {r : Refusal} (k : ℕ) → i ≤ k → k < i + n → ((j : ℕ) → i ≤ j → j < k → Passes (step j)) → step k ≡ Err r → Ends step i n (Err r)

module _ (step : ℕ → Result Effect Refusal) where
  -- header i passes, and so do those after it
  and_first : (i k : ℕ) {e : Effect} → step i ≡ Ok e → ((j : ℕ) → suc i ≤ j → j < k → Passes (step j)) → (j : ℕ) → i ≤ j → j < k → Passes (step j)
  and_first i k first rest j le lt = split (dec_le (suc i) j)
    where
      split : Dec (suc i ≤ j) → Passes (step j)
      split (yes h) = rest j h lt
      split (no h) = subst (λ x. Passes (step x)) (let e : i ≡ j = omega arith in e) (subst⁻¹ Passes first passes)

  one_more : (i n : ℕ) {e : Effect} {a : Answer} → step i ≡ Ok e → Ends step (suc i) n a → Ends step i (suc n) a
  one_more i n first (all rest) = all (λ j le lt. and_first i (suc i + n) first rest j le (omega arith))
  one_more i n first (stop k le lt rest is) = stop k (omega arith) (omega arith) (and_first i k first rest) is

module _ (image : List ℕ) (m : Memory) (offset : Option GuestAddress) where
  abbrev at_header : ℕ → Result Effect Refusal
  at_header = step_at image m offset

  step_ends : (n i : ℕ) (t : Result Effect Refusal) (more : Effect → Answer) → at_header i ≡ t → ((e : Effect) → Ends at_header (suc i) n (more e))
      → Ends at_header i (suc n) (after_step t more)
  step_ends n i (Ok e) more is rest = one_more at_header i n is (rest e)
  step_ends n i (Err r) more is rest = stop i (omega arith) (omega arith) (λ j le lt. absurd (omega arith)) is

  survey_ends : (n i : ℕ) (result : KernelLoaderResult) → Ends at_header i n (survey_from n image (room m) offset i result)
  unfolding survey_from
  survey_ends zero i result = all (λ j le lt. absurd (omega arith))
  survey_ends (suc n) i result =
      step_ends n i (at_header i) (λ e. survey_from n image (room m) offset (suc i) (advanced result e)) refl (λ e. survey_ends n (suc i) (advanced result e))

  -- the first that does not pass, header k, decides
  survey_stops : (n i k : ℕ) (result : KernelLoaderResult) {r : Refusal} → i ≤ k → k < i + n
      → ((j : ℕ) → i ≤ j → j < k → Passes (at_header j)) → at_header k ≡ Err r → survey_from n image (room m) offset i result ≡ Err r
  unfolding survey_from
  survey_stops zero i k result le lt before is = absurd (omega arith)
  survey_stops (suc n) i k result {r} le lt before is =
      split (dec_le (suc i) k) (λ h e. survey_stops n (suc i) k (advanced result e) h (omega arith) (λ j le' lt'. before j (omega arith) lt') is)
    where
      next : Effect → Answer
      next e = survey_from n image (room m) offset (suc i) (advanced result e)

      goes_on : (u : Result Effect Refusal) → Passes u → ((e : Effect) → next e ≡ Err r) → after_step u next ≡ Err r
      goes_on (Err _) x7 rest = elim x7 [ ]
      goes_on (Ok e) passes rest = rest e

      split : Dec (suc i ≤ k) → (suc i ≤ k → (e : Effect) → next e ≡ Err r) → after_step (at_header i) next ≡ Err r
      split (yes h) rest = goes_on (at_header i) (before i (omega arith) h) (rest h)
      split (no h) rest = ap (λ x. after_step (at_header x) next) (let same : i ≡ k = omega arith in same) ∙ ap (λ u. after_step u next) is

  -- where all pass, the load is accepted
  survey_passes : (n i : ℕ) (result : KernelLoaderResult) → ((j : ℕ) → i ≤ j → j < i + n → Passes (at_header j))
      → Accepted (survey_from n image (room m) offset i result)
  unfolding survey_from
  survey_passes zero i result all_pass = is_accepted
  survey_passes (suc n) i result all_pass =
      goes_on (at_header i) (all_pass i (omega arith) (omega arith))
      (λ e. survey_passes n (suc i) (advanced result e) (λ j le lt. all_pass j (omega arith) (omega arith)))
    where
      next : Effect → Answer
      next e = survey_from n image (room m) offset (suc i) (advanced result e)

      goes_on : (u : Result Effect Refusal) → Passes u → ((e : Effect) → Accepted (next e)) → Accepted (after_step u next)
      goes_on (Err _) x4 rest = elim x4 [ ]
      goes_on (Ok e) passes rest = rest e

-- ---- the whole load

module _ (image : List ℕ) (m : Memory) (offset highmem : Option GuestAddress) where
  abbrev row : List Test
  row = tests image m offset highmem

  abbrev steps : ℕ → Result Effect Refusal
  steps = step_at image m offset

  abbrev headers : Plan Answer
  headers = survey_plan image offset (survey_of image (room m) offset)

  abbrev told : Answer
  told = (plan_of image m offset highmem).answer

  abbrev first : KernelLoaderResult
  first = blank (load_address image offset)

  pub by_headers : AllHold row → told ≡ survey_of image (room m) offset
  by_headers hold = ap (λ (p : Plan Answer). p.answer) (all_planned Err row headers hold)

  -- each rule, where its turn comes, decides

  pub test_decides : {r : Refusal} → FirstFails r row → told ≡ Err r
  test_decides fails = ap (λ (p : Plan Answer). p.answer) (first_planned Err row headers fails)

  pub header_decides : {r : Refusal} → AllHold row → FirstStops steps (e_phnum_of image) r → told ≡ Err r
  header_decides hold (stops k lt before is) =
      by_headers hold ∙ survey_stops image m offset (e_phnum_of image) 0 k first (omega arith) (omega arith) (λ j le lt'. before j lt') is

  pub none_decides : AllHold row → AllPass steps (e_phnum_of image) → Accepted told
  none_decides hold all_pass =
      subst⁻¹ Accepted (by_headers hold) (survey_passes image m offset (e_phnum_of image) 0 first (λ j le lt. all_pass j (omega arith)))

  -- one of them does

  ends_verdict : AllHold row → {a : Answer} → Ends steps 0 (e_phnum_of image) a → Verdict image m offset highmem a
  ends_verdict hold (all pass) = accepted hold (λ j lt. pass j (omega arith) (omega arith))
  ends_verdict hold (stop k le lt before is) = by_header hold (stops k (omega arith) (λ j lt'. before j (omega arith) lt') is)

  pub verdict : Verdict image m offset highmem told
  verdict =
      behind_with Err row headers (λ p. Verdict image m offset highmem p.answer)
      (λ hold. ends_verdict hold (survey_ends image m offset (e_phnum_of image) 0 first)) (λ r fails. by_test fails)

  -- in the catalogue's numbers

  pub test_number : {r : Refusal} → FirstFails r row → answer_number told ≡ number_of r
  unfolding answer_number
  test_number fails = ap answer_number (test_decides fails)

  pub header_number : {r : Refusal} → AllHold row → FirstStops steps (e_phnum_of image) r → answer_number told ≡ number_of r
  unfolding answer_number
  header_number hold by = ap answer_number (header_decides hold by)

-- an answer that is accepted has no number
pub accepted_number : {a : Answer} → Accepted a → answer_number a ≡ 0
unfolding answer_number
accepted_number is_accepted = refl
