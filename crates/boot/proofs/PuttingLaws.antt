-- Laws of a blob alone: what is answered and left by how the tests end.
use Rattle.std.specs.Prelude.{Err}
use Prim.Native.Nat.{ℕ}
use mathlib.Core.Path.{◌≡◌, refl, sym, ◌∙◌, ap, subst}
use mathlib.Core.List.{List}
use native.Mathlib.Omega.{arith}
use lib.ListN.{length}
use lib.Seq.{take_all}
use Rattle.answers.specs.Tests.{asked_all, Check, pass}
use Rattle.answers.specs.declared.Refusal.{Refusal}
use Rattle.guest.specs.Loading.{Plan, Loads, behind_tests, behind_gate}
use Rattle.guest.specs.Room.{memory_of}
use Rattle.guest.specs.Stream.{stream_at, bytes_at, pour}
use Rattle.guest.specs.declared.Map.{Map}
use Rattle.boot.specs.Putting.{put_tests, Puts}

module _ (address : ℕ) (bytes : List ℕ) (map : Map) (guest : List ℕ) where
  abbrev whole : Plan Check
  whole = record { answer = pass; stream = stream_at address bytes }

  -- the first test that fails refuses, and nothing is written
  pub put_refused : {g : Check} {r : Refusal} → g ≡ asked_all pass (put_tests (memory_of guest map) address (length bytes)) → g ≡ Err r
      → Puts address bytes map guest (Err r) guest
  unfolding behind_tests pour
  put_refused {r = r} eg es = subst (λ (x : Check). Loads (behind_gate Err x whole) guest (Err r) guest) (sym es ∙ eg) (record { answer = refl; memory = refl })

  -- all of the bytes
  pub put_done : {g : Check} {after : List ℕ} → g ≡ asked_all pass (put_tests (memory_of guest map) address (length bytes)) → g ≡ pass
      → after ≡ pour (stream_at address (bytes_at bytes 0 (length bytes))) guest → Puts address bytes map guest pass after
  unfolding behind_tests
  put_done {after = after} eg eo e =
      subst (λ (x : Check). Loads (behind_gate Err x whole) guest pass after) (sym eo ∙ eg)
      (record { answer = refl; memory = e ∙ ap (λ (vs : List ℕ). pour (stream_at address vs) guest) (take_all (length bytes) bytes (omega arith)) })
