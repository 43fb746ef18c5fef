-- The sentence "a number is given exactly when its turn comes in the order and its condition holds": a line is loaded exactly where every test
-- holds, and refused exactly by the first test that fails; and InvalidCommandLine is the condition that writing the line, given room, would
-- be refused with NoBootArgsInserted or NullTerminator.
use Rattle.std.specs.Prelude.{Err, is_ok}
use Prim.Native.Nat.{ℕ}
use mathlib.Core.Path.{◌≡◌, sym, ◌∙◌, refl, ap}
use mathlib.Core.Bool.{Bool, true, false, not}
use mathlib.Core.List.{List}
use native.Mathlib.Omega.{arith}
use lib.ListN.{length}
use Rattle.answers.specs.Pick.{pick}
use Rattle.answers.specs.Tests.{Test, asked, AllHold, FirstFails, Check, pass}
use Rattle.answers.specs.declared.Refusal.{Refusal}
use Rattle.answers.specs.Listing.{contains, Listed, row_listed}
use Rattle.answers.proofs.ListingLaws.{first_listed}
use Rattle.slugs.specs.Bytes.{has}
use Rattle.cmdline.specs.Text.{Text}
use Rattle.cmdline.specs.Writing.{headed, whole_line, text_tests, text_gate}
use Rattle.guest.specs.Loading.{Plan}
use Rattle.guest.specs.Room.{memory_of}
use Rattle.guest.specs.declared.Map.{Map}
use Rattle.guest.specs.declared.Memory.{Memory}
use Rattle.guest.proofs.LoadingLaws.{all_planned, first_planned}
use Rattle.loader.specs.Lines.{tests, line_plan, plan_of, LineLoads, line_numbers, TextRefused, no_boot_args, null_terminator}
use Rattle.loader.proofs.LinesLaws.{plan_loaded, plan_refused}

module _ (t : Text) (address : ℕ) (map : Map) (guest : List ℕ) {r : Check} {after : List ℕ} (loads : LineLoads t address map guest r after) where
  abbrev row : List Test
  row = tests t (memory_of guest map) address

  pub loaded_where : AllHold row → r ≡ pass
  loaded_where h = loads.answer ∙ ap (λ (p : Plan Check). p.answer) (all_planned Err row (line_plan t address) h)

  pub where_loaded : r ≡ pass → AllHold row
  where_loaded e = plan_loaded t (memory_of guest map) address (sym loads.answer ∙ e)

  pub refused_where : {refusal : Refusal} → FirstFails refusal row → r ≡ Err refusal
  refused_where f = loads.answer ∙ ap (λ (p : Plan Check). p.answer) (first_planned Err row (line_plan t address) f)

  pub where_refused : {refusal : Refusal} → r ≡ Err refusal → FirstFails refusal row
  where_refused e = plan_refused t (memory_of guest map) address (sym loads.answer ∙ e)

-- ---- the condition of InvalidCommandLine

pub invalid_when : (t : Text) → TextRefused t → is_ok (text_gate t) ≡ false
invalid_when t (no_boot_args e) = ap is_ok e
invalid_when t (null_terminator e) = ap is_ok e

pub when_invalid : (t : Text) → is_ok (text_gate t) ≡ false → TextRefused t
unfolding text_tests asked pick
when_invalid t e = by_tests (headed (length t.boot) (length t.init)) (not (has 0 (whole_line t.boot t.init))) refl refl e
  where
    by_tests : (a b : Bool) → headed (length t.boot) (length t.init) ≡ a → not (has 0 (whole_line t.boot t.init)) ≡ b
        → is_ok (text_gate t) ≡ false → TextRefused t
    by_tests false b ea eb e = no_boot_args (rw ea)
    by_tests true false ea eb e = null_terminator (rw (ea, eb))
    by_tests true true ea eb e = let opens : is_ok (text_gate t) ≡ true = rw (ea, eb) in let w : ◌≡◌ {A = ℕ} 0 1 = cc in absurd (omega arith)

-- "Bad input gets its listed number": a refusal has one of these numbers and no other
pub line_listed : (t : Text) (m : Memory) (address : ℕ) {refusal : Refusal} → (plan_of t m address).answer ≡ Err refusal → Listed line_numbers refusal
unfolding row_listed contains
line_listed t m address e = first_listed line_numbers (tests t m address) refl (plan_refused t m address e)
