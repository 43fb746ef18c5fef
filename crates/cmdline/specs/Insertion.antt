-- The tests of an insertion, in order, and the texts that it leaves.
use Rattle.std.specs.Prelude.{ℕ, List, [], ◌∷◌, ◌++◌, length, Ok, Err}
use Rattle.answers.specs.Tests.{Test, asked_all, Check, pass}
use Rattle.answers.specs.declared.Refusal.TheVariants as refusal
use Rattle.answers.specs.Catalogue.{check_number}
use Rattle.slugs.specs.Bytes.{equals, printable, all_bytes}
use Rattle.slugs.specs.Trimming.{trim}
use Rattle.slugs.specs.Keys.{key_tests}
use Rattle.slugs.specs.Values.{value_tests, pair}
use Rattle.slugs.specs.Joining.{joined}
use Rattle.slugs.specs.Lists.{list_pre, listed}
use Rattle.cmdline.specs.Text.{Text, boot_room, init_room}

-- the tests of a call, in order, and the line where every test holds
pub record Plan : Type 0 where
  pub tests : List Test
  pub text : Text

abbrev pub plan_gate : Plan → Check
plan_gate p = asked_all pass p.tests

-- what a call says: the refusal of the first test that fails
abbrev pub answer_of : Check → Check
answer_of (Ok _) = pass
answer_of (Err r) = Err r

-- the catalogue's number of an answer; an accepted call has none, and counts as 0
abbrev pub call_number : Check → ℕ
call_number check = check_number check

-- what is there after a call: the new where every test held, and the old, unchanged, where one failed
abbrev pub settled : {A : Type 0} → Check → A → A → A
settled (Ok _) old new = new
settled (Err r) old new = old

-- some tests first, and then a plan
abbrev pub after : List Test → Plan → Plan
after ts p = record { tests = ts ++ p.tests; text = p.text }

abbrev pub with_boot : Text → List ℕ → Text
with_boot t b = record { boot = b; init = t.init; capacity = t.capacity }

abbrev pub with_init : Text → List ℕ → Text
with_init t i = record { boot = t.boot; init = i; capacity = t.capacity }

-- a slug is trimmed at both ends; printable bytes, then room
unfoldable pub insert_str : Text → List ℕ → Plan
insert_str t slug =
    record {
      tests =
          (all_bytes printable (trim slug), refusal.InvalidAscii)
          ∷ (boot_room t (length (trim slug)), refusal.TooLarge) ∷ [];
      text = with_boot t (joined t.boot (trim slug));
    }

-- the same for the init text
unfoldable pub insert_init_args : Text → List ℕ → Plan
insert_init_args t slug =
    record {
      tests =
          (all_bytes printable (trim slug), refusal.InvalidAscii)
          ∷ (init_room t (length (trim slug)), refusal.TooLarge) ∷ [];
      text = with_init t (joined t.init (trim slug));
    }

-- the key's tests, the value's, then the slug of key, equals sign and value
unfoldable pub insert : Text → List ℕ → List ℕ → Plan
insert t key value = after (key_tests key ++ value_tests value) (insert_str t (pair key value))

-- the tests of the list, the key and the values, then the slug of the key, an equals sign and the values joined by
-- commas
unfoldable pub insert_multiple : Text → List ℕ → List ℕ → List ℕ → Plan
insert_multiple t key values ends = after (list_pre key values ends) (insert_str t (key ++ listed equals 0 ends values))
