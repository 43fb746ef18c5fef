-- The sentence "then the line and its zero, nothing else touched": after an accepted loading each byte of guest memory is the line's that
-- covers it, the zero after the text, or as it was; after a refused one every byte is as it was.
use Rattle.answers.specs.Tests.{Check, pass}
use Rattle.std.specs.Prelude.{Err}
use Prim.Native.Nat.{ℕ}
use mathlib.Core.Path.{◌≡◌, ◌∙◌, ap}
use mathlib.Core.List.{List}
use native.Mathlib.Omega.{arith}
use Rattle.answers.specs.declared.Refusal.{Refusal}
use Rattle.cmdline.specs.Text.{Text}
use Rattle.guest.specs.Loading.{Plan}
use Rattle.guest.specs.Room.{memory_of}
use Rattle.guest.specs.declared.Map.{Map}
use Rattle.guest.specs.Stream.{pour, Stands}
use Rattle.guest.proofs.StreamLaws.{poured_stands}
use Rattle.guest.proofs.LoadingLaws.{nothing_written, all_planned, first_planned}
use Rattle.loader.specs.Lines.{line_bytes, tests, line_plan, plan_of, LineLoads}
use Rattle.loader.proofs.LinesLaws.{hold_room}
use Rattle.loader.proofs.Refusals.{where_loaded, where_refused}

-- ---- of the loading's contract

module _ (t : Text) (address : ℕ) (map : Map) (guest : List ℕ) {r : Check} {after : List ℕ} (loads : LineLoads t address map guest r after) where
  pub loaded_written : r ≡ pass → Stands (line_bytes t) address guest after
  loaded_written e =
      let hold = where_loaded t address map guest loads e in
      poured_stands (line_bytes t) address guest (memory_of guest map) (λ _. hold_room t (memory_of guest map) address hold) (omega arith)
      (loads.memory ∙ ap (λ (p : Plan Check). pour p.stream guest) (all_planned Err (tests t (memory_of guest map) address) (line_plan t address) hold))

  pub refused_untouched : {refusal : Refusal} → r ≡ Err refusal → after ≡ guest
  refused_untouched e =
      nothing_written (plan_of t (memory_of guest map) address) guest after loads
      (ap (λ (p : Plan Check). p.stream)
      (first_planned Err (tests t (memory_of guest map) address) (line_plan t address) (where_refused t address map guest loads e)))
