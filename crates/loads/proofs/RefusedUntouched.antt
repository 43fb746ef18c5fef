-- "Every load leaves guest memory wholly untouched on refusal", of a load of any format.
use Rattle.std.specs.Prelude.{Err, is_ok}
use Prim.Native.Nat.{ℕ}
use mathlib.Core.Path.{◌≡◌, sym, ◌∙◌, ap}
use mathlib.Core.List.{List, []}
use Rattle.answers.specs.Pick.{pick}
use Rattle.answers.specs.declared.Refusal.{Refusal}
use Rattle.guest.specs.Answers.{Answer}
use Rattle.guest.specs.Parts.{parts_from}
use Rattle.guest.specs.Room.{memory_of}
use Rattle.guest.specs.declared.Map.{Map}
use Rattle.guest.proofs.LoadingLaws.{nothing_written}
use Rattle.loads.specs.Formats.{count_of, part_of, plan_of, LoadSays}
use Rattle.loads.specs.declared.Options.{Options}

pub refused_untouched : (image : List ℕ) (o : Options) (map : Map) (before after : List ℕ) {r : Answer} {refusal : Refusal} → LoadSays image o map before r after
    → r ≡ Err refusal → after ≡ before
unfolding pick
refused_untouched image o map before after says e =
    nothing_written (plan_of image (memory_of before map) o) before after says
    (ap (λ (a : Answer). pick (is_ok a) (parts_from (count_of image o) image (part_of image o) 0) []) (sym says.answer ∙ e))
