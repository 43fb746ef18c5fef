-- Laws of the text that a job prints, put part by part.
use Rattle.std.specs.Prelude.{Ok}
use Rattle.guest.specs.Answers.{Answer}
use Prim.Native.Nat.{ℕ, min}
use mathlib.Core.Path.{◌≡◌, ap, ◌∙◌}
use mathlib.Core.List.{List, [], ◌∷◌}
use native.Mathlib.Omega.{arith}
use lib.ListN.{length, replicate, length-replicate}
use Rattle.cmdline.specs.Digits.{decimal}
use Rattle.slugs.specs.Stored.{Stored}
use Rattle.slugs.proofs.StoredLaws.{then}
use Rattle.guest.specs.declared.KernelLoaderResult.{KernelLoaderResult}
use Rattle.loads.specs.declared.Format.{Format}
use Rattle.guest.specs.Room.{whole_of}
use Rattle.desk.specs.declared.Output.{Output}
use Rattle.desk.specs.Table.{image_row}
use Rattle.desk.specs.Work.{guest_size, image_format, job_plan}
use Rattle.desk.specs.Printing.{load_word, end_word, number_line, pvh_line, answer_text, printed, output_of}

pub kernel_stored : {d x y left : List ℕ} {at p q r : ℕ} (f : Format) {answer : Answer} (kernel : KernelLoaderResult) → answer ≡ Ok kernel
    → Stored d at (number_line load_word kernel.kernel_load.0) x p → Stored x p (number_line end_word kernel.kernel_end.0) y q
    → Stored y q (pvh_line f kernel.pvh_boot_cap) left r → Stored d at (answer_text f answer) left r
unfolding answer_text
kernel_stored f kernel e a b c = rw e (then a (then b c))

-- a word, a number and a line feed
pub line_told : {d x y left : List ℕ} {at p q r : ℕ} (word : List ℕ) (n : ℕ) → Stored d at word x p → Stored x p (decimal n) y q → Stored y q (10 ∷ []) left r
    → Stored d at (number_line word n) left r
line_told word n a b c = then a (then b c)

-- the text of a job, if its guest memory has the size that a job has
pub job_output : (job : List ℕ) {size : ℕ} {f : Format} {answer : Answer} {r : Output} → size ≡ guest_size → f ≡ image_format (image_row job).kind
    → answer ≡ (job_plan job (whole_of size)).answer → r ≡ output_of (answer_text f answer) → r ≡ output_of (printed job guest_size)
job_output job {size} {f} {answer} {r} es ef ea er =
    er
    ∙ ap (λ (x : Format). output_of (answer_text x answer)) ef
    ∙ ap (λ (a : Answer). output_of (answer_text (image_format (image_row job).kind) a)) ea
    ∙ ap (λ (n : ℕ). output_of (printed job n)) es

-- what 80 zeros hold after a text was stored in them
pub text_held : (f : Format) (answer : Answer) {bytes : List ℕ} {n : ℕ} → Stored (replicate 80 0) 0 (answer_text f answer) bytes n
    → ◌≡◌ {A = Output} (record { bytes = bytes; length = n }) (output_of (answer_text f answer))
text_held f answer {bytes} {n} w =
    let long = length-replicate {A = ℕ} 80 0 in
    let place = w.place in
    let e : n ≡ min (length (answer_text f answer)) 80 = omega arith in
    rw (w.bytes, e)
