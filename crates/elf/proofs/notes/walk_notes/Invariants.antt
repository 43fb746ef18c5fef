-- `notes::walk_notes`: what is left of the walk, from what is read on, is the whole walk; each note passed over is twelve bytes or more.
use Prim.Native.Nat.{◌+◌, ◌*◌, ◌-◌, ◌≤◌}
use mathlib.Core.Path.{◌≡◌}
use lib.ListN.{length}
use Rattle.elf.specs.NoteWalk.{walk_from, twelves}
use Rattle.elf.proofs.NotesLaws.{longest_note}
use Rattle.elf.proofs.notes.walk_notes.Given as goal

abbrev pub invariant-loop-read : goal.invariant-loop-read
invariant-loop-read l =
    (12 * l.headers ≤ l.read) × (l.read ≤ length l.image + longest_note)
    × (walk_from (twelves l.p_filesz - l.headers) l.image l.from l.p_filesz l.read l.headers ≡ walk_from (twelves l.p_filesz) l.image l.from l.p_filesz 0 0)

abbrev pub decreases-loop-read : goal.decreases-loop-read
decreases-loop-read l = l.p_filesz - l.read
