-- Insertion in place, by the lengths of the texts: its tests, what is put after the text, and what it leaves of the
-- caller's buffer.
use Rattle.answers.specs.declared.Refusal.{Refusal}
use Rattle.std.specs.Prelude.{ℕ, ◌+◌, min, ◌≡◌, not, List, [], ◌∷◌, ◌++◌, leb, eqb, length, Ok, Err, Option, Result}
use Rattle.std.proofs.lemmas.List.Edits.{sets}
use Rattle.answers.specs.Tests.{Test, asked, asked_all, Check, pass}
use Rattle.answers.specs.declared.Refusal.TheVariants as refusal
use Rattle.slugs.specs.Bytes.{equals, printable, all_bytes}
use Rattle.slugs.specs.Trimming.{trim}
use Rattle.slugs.specs.Keys.{key_tests}
use Rattle.slugs.specs.Values.{value_tests, pair}
use Rattle.slugs.specs.Joining.{space_after}
use Rattle.slugs.specs.Lists.{list_pre, listed}
use Rattle.cmdline.specs.Limit.{limit}
use Rattle.cmdline.specs.declared.sizes.Lengths.{Lengths}
use Rattle.cmdline.specs.Text.{size_of, boot_gap, init_gap}
use Rattle.cmdline.specs.Insertion.{settled}
use Rattle.cmdline.specs.Device.{device_text}

-- the tests, in order, and the slug that is put after the text where every test holds
pub record Append : Type 0 where
  pub tests : List Test
  pub slug : List ℕ

abbrev pub after_tests : List Test → Append → Append
after_tests ts g = record { tests = ts ++ g.tests; slug = g.slug }

-- a slug that is trimmed: printable bytes, then room in a line of this counted size, with what joins the slug to its
-- text, and of this capacity
unfoldable pub slug_append : ℕ → ℕ → List ℕ → Append
slug_append size c slug =
    record {
      tests =
          (all_bytes printable (trim slug), refusal.InvalidAscii)
          ∷ (leb (size + length (trim slug)) c, refusal.TooLarge) ∷ [];
      slug = trim slug;
    }

-- the tests of n bytes more: room in such a line, then in a buffer after a text, with the space between them
abbrev pub room_tests : ℕ → ℕ → ℕ → ℕ → ℕ → List Test
room_tests size c text buffer n =
    (leb (size + n) c, refusal.TooLarge) ∷ (leb (text + boot_gap text + n) buffer, refusal.TooLarge) ∷ []

-- a slug after a boot text of b bytes, with i bytes of init text and a capacity of c
unfoldable pub str_append : ℕ → ℕ → ℕ → List ℕ → Append
str_append b i c slug =
    record {
      tests =
          (all_bytes printable (trim slug), refusal.InvalidAscii)
          ∷ (leb (size_of b i + boot_gap b + length (trim slug)) c, refusal.TooLarge) ∷ [];
      slug = trim slug;
    }

-- a key, an equals sign and a value
unfoldable pub pair_append : ℕ → ℕ → ℕ → List ℕ → List ℕ → Append
pair_append b i c key value = after_tests (key_tests key ++ value_tests value) (str_append b i c (pair key value))

-- a key, an equals sign and the values joined by commas
unfoldable pub list_append : ℕ → ℕ → ℕ → List ℕ → List ℕ → List ℕ → Append
list_append b i c key values ends =
    after_tests (list_pre key values ends) (str_append b i c (key ++ listed equals 0 ends values))

-- a size that is not 0, then the text of a device
unfoldable pub device_append : ℕ → ℕ → ℕ → ℕ → ℕ → ℕ → Option ℕ → Append
device_append b i c size base irq id =
    after_tests ((not (eqb size 0), refusal.MmioSize) ∷ []) (str_append b i c (device_text size base irq id))

-- a slug after the init text
unfoldable pub init_append : ℕ → ℕ → ℕ → List ℕ → Append
init_append b i c slug =
    record {
      tests =
          (all_bytes printable (trim slug), refusal.InvalidAscii)
          ∷ (leb (size_of b i + init_gap i + length (trim slug)) c, refusal.TooLarge) ∷ [];
      slug = trim slug;
    }

-- an insertion by the lengths of a line: each number above the limit counts as the limit
abbrev pub clamped : {A : Type 0} → (ℕ → ℕ → ℕ → A) → Lengths → A
clamped append l = append (min l.boot_len limit) (min l.init_len limit) (min l.capacity limit)

-- what is said: the length of the text after it, or the refusal
abbrev pub appended_of : Check → ℕ → Result ℕ Refusal
appended_of (Ok _) n = Ok n
appended_of (Err r) n = Err r

-- s after a text of n bytes in a buffer, as far as the buffer goes, if no test refused; else nothing
pub record AppendsBy (gate : Check) (buffer : List ℕ) (n : ℕ) (s : List ℕ) (r : Result ℕ Refusal) (left : List ℕ)
    : Type 0 where
  pub answer : r ≡ appended_of gate (min (n + length (space_after n ++ s)) (length buffer))
  pub bytes : left ≡ settled gate buffer (sets buffer n (space_after n ++ s))

-- the tests of an insertion after a text of n bytes, and then that the buffer holds the whole text
abbrev pub append_gate : Append → List ℕ → ℕ → Check
append_gate g buffer n =
    asked (asked_all pass g.tests) (leb (n + length (space_after n ++ g.slug)) (length buffer)) refusal.TooLarge

-- an insertion into a buffer: the length of the whole text, which is there; or the refusal, and the buffer as it was
pub record Appends (g : Append) (buffer : List ℕ) (n : ℕ) (r : Result ℕ Refusal) (left : List ℕ) : Type 0 where
  pub answer : r ≡ appended_of (append_gate g buffer n) (n + length (space_after n ++ g.slug))
  pub bytes : left ≡ settled (append_gate g buffer n) buffer (sets buffer n (space_after n ++ g.slug))
