-- A list of values: one buffer, and the list of their ends.
use Rattle.std.specs.Prelude.{ℕ, ◌-◌, Bool, true, ◌&&◌, List, [], ◌∷◌, ◌++◌, leb, ltb, eqb, length, take, drop}
use Rattle.answers.specs.Pick.{pick}
use Rattle.answers.specs.Tests.{Test}
use Rattle.answers.specs.declared.Refusal.TheVariants as refusal
use Rattle.slugs.specs.Bytes.{comma}
use Rattle.slugs.specs.Keys.{key_tests}
use Rattle.slugs.specs.Values.{value_tests}

-- from a place on no end falls, and the last is n
unfoldable pub rising : ℕ → List ℕ → ℕ → Bool
rising at [] n = eqb at n
rising at (e ∷ es) n = leb at e && rising e es n

-- an empty list is good
unfoldable pub good_list : List ℕ → ℕ → Bool
good_list ends n = pick (eqb (length ends) 0) true (rising 0 ends n)

-- the bytes from a place up to an end
abbrev pub part : ℕ → ℕ → List ℕ → List ℕ
part at end values = take (end - at) (drop at values)

-- the tests of each value in turn: those between the place and the ends
unfoldable pub list_tests : ℕ → List ℕ → List ℕ → List Test
list_tests at [] values = []
list_tests at (e ∷ es) values = value_tests (part at e values) ++ list_tests e es values

-- a mark before the first value and commas before the later ones
unfoldable pub listed : ℕ → ℕ → List ℕ → List ℕ → List ℕ
listed mark at [] values = []
listed mark at (e ∷ es) values = mark ∷ (part at e values ++ listed comma e es values)

-- what is checked before the slug: the list, the key, that there is a value, each value in turn
abbrev pub list_pre : List ℕ → List ℕ → List ℕ → List Test
list_pre key values ends =
    (good_list ends (length values), refusal.BadList) ∷ (key_tests key ++ ((ltb 0 (length ends), refusal.MissingVal) ∷ list_tests 0 ends values))
