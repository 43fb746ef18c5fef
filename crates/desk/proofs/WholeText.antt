-- The 80 bytes that are returned hold the whole text: what is printed of them is exactly what the job says.
use Rattle.std.specs.Prelude.{Ok, Err}
use Rattle.guest.specs.Answers.{Answer}
use Prim.Native.Nat.{ℕ, zero, suc, ◌+◌, ◌%◌, ◌/◌, ◌≤◌, min}
use mathlib.Core.Path.{◌≡◌, ap, ◌∙◌}
use mathlib.Core.List.{List, [], ◌∷◌, ◌++◌}
use native.Mathlib.Omega.{arith}
use lib.Dec.{ltb}
use lib.ListN.{length, take, drop, replicate, length-append, length-replicate}
use lib.Seq.{sets, sets-eq, take-append_seam}
use Rattle.answers.specs.Catalogue.{number_of}
use Rattle.answers.proofs.PickLaws.{pick_with}
use Rattle.cmdline.specs.Digits.{digit, digits_before, decimal}
use Rattle.guest.specs.declared.PvhBootCapability.{PvhBootCapability}
use Rattle.guest.specs.declared.PvhBootCapability.TheVariants.{PvhEntryPresent, PvhEntryNotPresent, PvhEntryIgnored}
use Rattle.loads.specs.declared.Format.{Format}
use Rattle.loads.specs.declared.Format.TheVariants.{Elf, BzImage, Arm64}
use Rattle.desk.specs.Printing.{load_word, end_word, pvh_word, refused_word, number_line, pvh_text, pvh_line, answer_text, output_of}

-- no number has more digits than are looked for
few_digits : (most base n : ℕ) (later : List ℕ) → length (digits_before most base n later) ≤ most + length later
unfolding digits_before
few_digits zero base n later = omega arith
few_digits (suc most) base n later =
    let more = few_digits most base (n / base) (digit (n % base) ∷ later) in
    pick_with (λ (ds : List ℕ). length ds ≤ suc most + length later) (ltb n base) (λ e. omega arith) (λ e. omega arith)

line_few : (word : List ℕ) (n : ℕ) → length (number_line word n) ≤ length word + 21
line_few word n =
    let few = few_digits 20 10 n [] in
    let inner = length-append (decimal n) (10 ∷ []) in
    let outer = length-append word (decimal n ++ (10 ∷ [])) in
    omega arith

pvh_few : (pvh : PvhBootCapability) → length (pvh_text pvh) ≤ 25
unfolding pvh_text
pvh_few PvhEntryIgnored = omega arith
pvh_few PvhEntryNotPresent = omega arith
pvh_few (PvhEntryPresent note) = line_few pvh_word note.entry.0

pvh_line_few : (f : Format) (pvh : PvhBootCapability) → length (pvh_line f pvh) ≤ 25
unfolding pvh_line
pvh_line_few Elf pvh = pvh_few pvh
pvh_line_few BzImage pvh = omega arith
pvh_line_few Arm64 pvh = omega arith

text_few : (f : Format) (answer : Answer) → length (answer_text f answer) ≤ 80
unfolding answer_text
text_few f (Err refusal) = let few = line_few refused_word (number_of refusal) in omega arith
text_few f (Ok kernel) =
    let load = kernel.kernel_load.0 in
    let end = kernel.kernel_end.0 in
    let first = line_few load_word load in
    let second = line_few end_word end in
    let third = pvh_line_few f kernel.pvh_boot_cap in
    let inner = length-append (number_line end_word end) (pvh_line f kernel.pvh_boot_cap) in
    let outer = length-append (number_line load_word load) (number_line end_word end ++ pvh_line f kernel.pvh_boot_cap) in
    omega arith

pub whole_text : (f : Format) (answer : Answer) → take (output_of (answer_text f answer)).length (output_of (answer_text f answer)).bytes ≡ answer_text f answer
whole_text f answer =
    let text = answer_text f answer in
    let few = text_few f answer in
    let long = length-replicate {A = ℕ} 80 0 in
    let count : min (length text) 80 ≡ length text = omega arith in
    ap (λ (n : ℕ). take n (sets (replicate 80 0) 0 text)) count
    ∙ rw (sets-eq text (replicate 80 0) 0 (omega arith)) (take-append_seam text (drop (0 + length text) (replicate 80 0)))
