-- Laws of the entry points of the start block.
use Rattle.answers.specs.Tests.{Check}
use Prim.Native.Nat.{ℕ}
use mathlib.Core.Path.{◌≡◌, ap, subst, ◌∙◌}
use mathlib.Core.List.{List}
use Rattle.guest.specs.declared.Map.{Map}
use Rattle.start_info.specs.declared.Start.{Start}
use Rattle.start_info.specs.Answers.{gate_number}
use Rattle.start_info.specs.Writing.{Writes}
use Rattle.capi_pages.specs.Starts.{StartWrites}

pub start_written : (start : Start) (modules ranges : List ℕ) (map : Map) (before : List ℕ) {m : Map} {gate : Check} {r : ℕ} {after : List ℕ} → m ≡ map
    → Writes start modules ranges m before gate after → r ≡ gate_number gate → StartWrites start modules ranges map before r after
start_written start modules ranges map before {gate = gate} {after = after} em writes e =
    let there = subst (λ (x : Map). Writes start modules ranges x before gate after) em writes in
    record { answer = e ∙ ap gate_number there.answer; memory = there.memory }
