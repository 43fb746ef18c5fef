-- Laws of program headers.
use Prim.Native.Nat.{ℕ, ◌+◌, ◌-◌, ◌≤◌}
use mathlib.Core.Path.{◌≡◌}
use mathlib.Core.List.{List}
use borrow.Author.Tests.{le-ltb}
use native.Mathlib.Omega.{arith}
use native.Mathlib.Nat.{add-zero}
use lib.ListN.{length, take, drop, length-take, length-drop}
use Rattle.answers.specs.Pick.{pick}
use Rattle.fields.specs.Numbers.{le}
use Rattle.fields.proofs.NumbersLaws.{le_within}
use Rattle.elf.specs.Header.{program_header_size}
use Rattle.elf.specs.Parts.{header_part, own_part}
use Rattle.elf.specs.ProgramHeaders.{header_at}

-- a program header, read in its own bytes
module _ (image : List ℕ) (place : ℕ) where
  abbrev own : List ℕ
  own = take (place + program_header_size - place) (drop place image)

  pub field_own : (n p : ℕ) → p + n ≤ program_header_size → le n own p ≡ le n image (place + p)
  field_own n p h = le_within n place (place + program_header_size - place) image p (omega arith)

  pub header_own : header_at own 0 ≡ header_at image place
  unfolding header_at
  header_own =
      rw (
        field_own 8 40 (omega arith),
        field_own 8 32 (omega arith),
        field_own 8 24 (omega arith),
        field_own 8 8 (omega arith),
        field_own 4 0 (omega arith),
        add-zero,
      )

  -- and its part
  pub own_part_lem : (shift : ℕ) → place + program_header_size ≤ length image → own_part own shift ≡ header_part shift (header_at image place)
  unfolding own_part pick
  own_part_lem shift h =
      let long : 56 ≤ length own = omega (arith, length-take (place + program_header_size - place) (drop place image), length-drop place image) in
      rw (le-ltb (length own) 56 long, header_own)
