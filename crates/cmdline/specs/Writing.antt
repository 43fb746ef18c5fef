-- The written line, and equality by written answers.
use Rattle.answers.specs.declared.Refusal.{Refusal}
use Rattle.std.specs.Prelude.{ℕ, ◌+◌, ◌≡◌, Bool, true, false, not, ◌&&◌, leb, ltb, eqb, Ok, Err, Result}
use Rattle.std.specs.Prelude.{List, [], ◌∷◌, ◌++◌, length}
use Rattle.std.proofs.lemmas.List.Edits.{sets}
use Rattle.answers.specs.Pick.{pick}
use Rattle.answers.specs.Catalogue.{number_of}
use Rattle.answers.specs.Tests.{Test, asked_all, Check, pass}
use Rattle.answers.specs.declared.Refusal.TheVariants as refusal
use Rattle.slugs.specs.Bytes.{has}
use Rattle.cmdline.specs.Text.{Text}
use Rattle.slugs.specs.Splitting.{separator}

-- the whole text, without its zero: boot, and the separator and init if init is not empty
unfoldable pub whole_line : List ℕ → List ℕ → List ℕ
whole_line boot init = boot ++ pick (eqb (length init) 0) [] (separator ++ init)

-- the separator before an init text, if there is any
unfoldable pub separator_before : List ℕ → List ℕ
separator_before init = pick (eqb (length init) 0) [] separator

abbrev pub whole : Text → List ℕ
whole t = whole_line t.boot t.init

-- no init text, or boot text before it
unfoldable pub headed : ℕ → ℕ → Bool
headed boots inits = pick (eqb inits 0) true (ltb 0 boots)

-- no init text alone, then no zero byte in the text
unfoldable pub text_tests : List ℕ → List ℕ → List Test
text_tests boot init =
    (headed (length boot) (length init), refusal.NoBootArgsInserted)
    ∷ (not (has 0 (whole_line boot init)), refusal.NullTerminator) ∷ []

-- what is said of the text, given room
abbrev pub text_gate : Text → Check
text_gate t = asked_all pass (text_tests t.boot t.init)

-- the text's tests, then room for it and its zero
abbrev pub write_tests : Text → ℕ → List Test
write_tests t room = text_tests t.boot t.init ++ ((leb (length (whole t) + 1) room, refusal.NoRoom) ∷ [])

abbrev pub write_gate : Text → ℕ → Check
write_gate t room = asked_all pass (write_tests t room)

-- what writing says: the bytes written, the zero counted
abbrev pub written_of : Check → Text → Result ℕ Refusal
written_of (Ok _) t = Ok (length (whole t) + 1)
written_of (Err r) t = Err r

-- the catalogue's number of what writing says; a line that is written has none, and counts as 0
abbrev pub written_number : Result ℕ Refusal → ℕ
written_number (Ok n) = 0
written_number (Err r) = number_of r

-- and its values: the count of bytes; a refusal has none
unfoldable pub written_count : Result ℕ Refusal → List ℕ
written_count (Ok n) = n ∷ []
written_count (Err r) = []

-- the bytes that are written: the text and its zero, or nothing
abbrev pub written_bytes : Check → Text → List ℕ
written_bytes (Ok _) t = whole t ++ (0 ∷ [])
written_bytes (Err r) t = []

-- writing a line: what it returns, and what it leaves of the caller's bytes: only those of the text and its zero change
pub record Writes (t : Text) (out : List ℕ) (r : Result ℕ Refusal) (left : List ℕ) : Type 0 where
  pub answer : r ≡ written_of (write_gate t (length out)) t
  pub bytes : left ≡ sets out 0 (written_bytes (write_gate t (length out)) t)

-- two written answers are the same, by how the tests of each end: what is said, and the bytes
pub record SameWritten (a b : Text) (g h : Check) : Type 0 where
  pub answer : written_of g a ≡ written_of h b
  pub bytes : written_bytes g a ≡ written_bytes h b

-- two texts alone: writing and comparing do not look at a capacity
abbrev pub bare : List ℕ → List ℕ → Text
bare boot init = record { boot = boot; init = init; capacity = 0 }

-- two texts are the same
unfoldable pub same_bytes : List ℕ → List ℕ → Bool
same_bytes [] [] = true
same_bytes [] (y ∷ ys) = false
same_bytes (x ∷ xs) [] = false
same_bytes (x ∷ xs) (y ∷ ys) = eqb x y && same_bytes xs ys

-- two answers are the same: the same refusal, or two texts that are the same
abbrev pub same_answer : Check → Check → Bool → Bool
same_answer (Ok _) (Ok _) same = same
same_answer (Ok _) (Err s) same = false
same_answer (Err r) (Ok _) same = false
same_answer (Err r) (Err s) same = eqb (number_of r) (number_of s)

-- two lines are equal when their written answers, given room, are
abbrev pub same_line : Text → Text → Bool
same_line a b = same_answer (text_gate a) (text_gate b) (same_bytes (whole a) (whole b))
