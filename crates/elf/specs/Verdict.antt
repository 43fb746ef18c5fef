-- A load read without its order of work: which rule decides it.
use Rattle.guest.specs.declared.GuestAddress.{GuestAddress}
use Rattle.guest.specs.Answers.{Answer}
use Rattle.std.specs.Prelude.{ℕ, ◌<◌, ◌≡◌, List, Ok, Err, Option, Result}
use Rattle.answers.specs.Tests.{AllHold, FirstFails}
use Rattle.answers.specs.declared.Refusal.{Refusal}
use Rattle.guest.specs.Room.{room}
use Rattle.guest.specs.declared.Memory.{Memory}
use Rattle.elf.specs.Header.{tests, e_phnum_of}
use Rattle.elf.specs.ProgramHeaders.{header_of}
use Rattle.elf.specs.Survey.{step_of}
use Rattle.guest.specs.declared.KernelLoaderResult.{KernelLoaderResult}
use Rattle.elf.specs.declared.survey.Effect.{Effect}

pub data Passes : Result Effect Refusal → Type 0 where
  passes : {e : Effect} → Passes (Ok e)

-- the first k program headers pass, given what each of them says
abbrev pub AllPass : (ℕ → Result Effect Refusal) → ℕ → Type 0
AllPass step k = (j : ℕ) → j < k → Passes (step j)

-- of n program headers the first that does not pass refuses with r
pub data FirstStops (step : ℕ → Result Effect Refusal) (n : ℕ) (r : Refusal) : Type 0 where
  stops : (k : ℕ) → k < n → AllPass step k → step k ≡ Err r → FirstStops step n r

-- what program header j says
abbrev pub step_at : List ℕ → Memory → Option GuestAddress → ℕ → Result Effect Refusal
step_at image m offset j = step_of image (room m) offset (header_of image j)

-- which rule decides: a test before the program headers, a program header, or none
pub data Verdict (image : List ℕ) (m : Memory) (offset highmem : Option GuestAddress) : Answer → Type 0 where
  by_test : {r : Refusal} → FirstFails r (tests image m offset highmem) → Verdict image m offset highmem (Err r)
  by_header : {r : Refusal} → AllHold (tests image m offset highmem) → FirstStops (step_at image m offset) (e_phnum_of image) r
      → Verdict image m offset highmem (Err r)
  accepted : {result : KernelLoaderResult} → AllHold (tests image m offset highmem) → AllPass (step_at image m offset) (e_phnum_of image)
      → Verdict image m offset highmem (Ok result)

pub data Accepted : Answer → Type 0 where
  is_accepted : {result : KernelLoaderResult} → Accepted (Ok result)
