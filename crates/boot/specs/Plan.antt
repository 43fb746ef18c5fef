-- The plan of a boot: what the kernel's own load refuses, then a row of checks, then everything is written: the kernel, and
-- the other pieces after it.
use Rattle.answers.specs.declared.Refusal.{Refusal}
use Rattle.boot.specs.declared.Booted.{Booted}
use Rattle.std.specs.Prelude.{ℕ, List, ◌++◌, Ok, Err, Result}
use Rattle.answers.specs.Tests.{Test}
use Rattle.guest.specs.Loading.{Plan, refused_plan, behind_tests}
use Rattle.guest.specs.declared.Extent.{Extent}
use Rattle.guest.specs.declared.KernelLoaderResult.{KernelLoaderResult}
use Rattle.guest.specs.Stream.{Poke}
use Rattle.loads.specs.declared.Options.{Options}
use Rattle.boot.specs.Blobs.{Blob, stream_of}
use Rattle.boot.specs.Kernel.{kernel_stream}

-- n bytes at an address
abbrev pub extent : ℕ → ℕ → Extent
extent address n = record { at = record { 0 = address }; size = n }

-- what a boot answers: where the kernel is and where it is entered, or the refusal
abbrev pub Answer : Type 0
Answer = Result Booted Refusal

-- a kernel that is loaded, and the address at which it is entered
abbrev pub booted_at : KernelLoaderResult → ℕ → Answer
booted_at k entry = Ok (record { kernel = k; entry = record { 0 = entry } })

-- the stream of all pieces
abbrev pub boot_stream : List ℕ → Options → List Blob → List Poke
boot_stream image o blobs = kernel_stream image o ++ stream_of blobs

-- by what the kernel's own load answers: its refusal, or the checks and then the stream
abbrev pub plan_by : Result KernelLoaderResult Refusal → (KernelLoaderResult → List Test) → (KernelLoaderResult → ℕ) → (KernelLoaderResult → List Poke) → Plan Answer
plan_by (Ok k) row entry stream = behind_tests Err (row k) (record { answer = booted_at k (entry k); stream = stream k })
plan_by (Err r) row entry stream = refused_plan Err r
