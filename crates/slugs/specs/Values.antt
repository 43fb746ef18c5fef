-- What a value is checked for.
use Rattle.std.specs.Prelude.{ℕ, ◌-◌, Bool, true, not, ◌&&◌, List, [], ◌∷◌, ◌++◌, leb, eqb, length, take, drop, get_or}
use Rattle.answers.specs.Pick.{pick}
use Rattle.answers.specs.Tests.{Test}
use Rattle.answers.specs.declared.Refusal.TheVariants as refusal
use Rattle.slugs.specs.Bytes.{space, quote, equals, printable, all_bytes, has}

-- the bytes strictly between the first and the last
abbrev pub inner : List ℕ → List ℕ
inner s = take (length s - 2) (drop 1 s)

-- two bytes or more, with a quote at each end
unfoldable pub quoted : List ℕ → Bool
quoted s = leb 2 (length s) && (eqb (get_or s 0 0) quote && eqb (get_or s (length s - 1) 0) quote)

-- no space, or the value is quoted
unfoldable pub protected : List ℕ → Bool
protected s = pick (has space s) (quoted s) true

-- printable bytes, no quote strictly inside, no space unless quoted
unfoldable pub value_tests : List ℕ → List Test
value_tests value =
    (all_bytes printable value, refusal.InvalidAscii)
    ∷ (not (has quote (inner value)), refusal.InvalidQuote)
    ∷ (protected value, refusal.NoQuoteSpace)
    ∷ []

-- a key, an equals sign and a value
abbrev pub pair : List ℕ → List ℕ → List ℕ
pair key value = key ++ (equals ∷ value)
