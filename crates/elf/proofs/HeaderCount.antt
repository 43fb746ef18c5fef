-- "The note walk reads never more than one header for each twelve bytes begun of `p_filesz`": few_headers, of the count that the public
-- walk returns.
use Rattle.std.specs.Prelude.{Ok, Err, Result}
use Prim.Native.Nat.{ℕ, zero, suc, ◌+◌, ◌≤◌}
use mathlib.Core.Path.{◌≡◌, subst}
use mathlib.Core.List.{List}
use native.Mathlib.Omega.{arith}
use native.Mathlib.Nat.{zero-add}
use Rattle.answers.proofs.PickLaws.{pick_with}
use Rattle.guest.specs.declared.ImagePlace.{ImagePlace}
use Rattle.guest.specs.declared.PvhNote.{PvhNote}
use Rattle.answers.specs.declared.Refusal.{Refusal}
use Rattle.elf.specs.Notes.{note_at, NoteAnswer}
use Rattle.elf.specs.NoteWalk.{turn_at, after_turn, walk_from, twelves, entry_of, public_note}
use Rattle.elf.specs.declared.ElfNote.{ElfNote}
use Rattle.elf.specs.declared.notes.Turn.{Turn}
use Rattle.elf.specs.declared.notes.Turn.TheVariants as turn

-- what the walk returns has no more, if it does not refuse
abbrev Few : ℕ → NoteAnswer → Type 0
Few bound (Ok note) = note.headers ≤ bound
Few bound (Err r) = Unit {0}

turn_few : (bound headers : ℕ) (t : Result Turn Refusal) (note : PvhNote) (more : ℕ → NoteAnswer) → headers ≤ bound → ((k : ℕ) → Few bound (more k))
    → Few bound (after_turn note t headers more)
turn_few bound headers (Ok (turn.Found place size)) note more h rest = h
turn_few bound headers (Ok (turn.Skip k)) note more h rest = rest k
turn_few bound headers (Err r) note more h rest = tt

walk_few : (left : ℕ) (image : List ℕ) (from size read headers : ℕ) → Few (headers + left) (walk_from left image from size read headers)
unfolding walk_from
walk_few zero image from size read headers = omega arith
walk_few (suc left) image from size read headers =
    pick_with (Few (headers + suc left)) _
    (λ _. turn_few (headers + suc left) (suc headers) (turn_at image (from + read)) (note_at image (from + read)) (λ k. walk_from left image from size (read + k) (suc headers))
    (omega arith) (λ k. subst (λ n. Few n (walk_from left image from size (read + k) (suc headers))) (let same : suc headers + left ≡ headers + suc left = omega arith in same)
    (walk_few left image from size (read + k) (suc headers))))
    (λ _. omega arith)

public_few : (image : List ℕ) (from : ImagePlace) (size : ℕ) → Few (twelves size) (public_note image from size)
unfolding public_note entry_of
public_few image from size =
    pick_with (Few (twelves size)) _ (λ _. subst (λ n. Few n (walk_from (twelves size) image from.0 size 0 0)) (zero-add (twelves size)) (walk_few (twelves size) image from.0 size 0 0)) (λ _. tt)

pub few_headers : (image : List ℕ) (from : ImagePlace) (size : ℕ) {note : ElfNote} → public_note image from size ≡ Ok note → note.headers ≤ twelves size
few_headers image from size e = subst (Few (twelves size)) e (public_few image from size)
