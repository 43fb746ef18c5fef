-- A blob alone, at an address of guest memory.
use Rattle.std.specs.Prelude.{ℕ, List, [], ◌∷◌, ◌++◌, length, Err}
use Rattle.answers.specs.Tests.{Test, Check, pass}
use Rattle.answers.specs.declared.Refusal.TheVariants.{NoRoom}
use Rattle.guest.specs.Lent.{memory_tests}
use Rattle.guest.specs.Loading.{Plan, Loads, behind_tests}
use Rattle.guest.specs.Room.{room_for, memory_of}
use Rattle.guest.specs.Stream.{stream_at}
use Rattle.guest.specs.declared.Map.{Map}
use Rattle.guest.specs.declared.Memory.{Memory}

-- guest memory's own tests, then room for the bytes; 0 bytes have room at every address
abbrev pub put_tests : Memory → ℕ → ℕ → List Test
put_tests m address n = memory_tests m ++ ((room_for m address n, NoRoom) ∷ [])

abbrev pub put_plan : Memory → ℕ → List ℕ → Plan Check
put_plan m address bytes = behind_tests Err (put_tests m address (length bytes)) (record { answer = pass; stream = stream_at address bytes })

-- bytes put into guest memory with a map that held `before`: it answers r and leaves `after`
abbrev pub Puts : ℕ → List ℕ → Map → List ℕ → Check → List ℕ → Type 0
Puts address bytes map before r after = Loads (put_plan (memory_of before map) address bytes) before r after
