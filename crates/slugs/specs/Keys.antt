-- What a key is checked for.
use Rattle.std.specs.Prelude.{ℕ, not, List, [], ◌∷◌}
use Rattle.answers.specs.Tests.{Test}
use Rattle.answers.specs.declared.Refusal.TheVariants as refusal
use Rattle.slugs.specs.Bytes.{space, equals, printable, all_bytes, has}

-- printable bytes, no space, no equals sign
unfoldable pub key_tests : List ℕ → List Test
key_tests key =
    (all_bytes printable key, refusal.InvalidAscii)
    ∷ (not (has space key), refusal.HasSpace)
    ∷ (not (has equals key), refusal.HasEquals)
    ∷ []
