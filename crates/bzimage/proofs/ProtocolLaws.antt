-- Laws of what a setup header says to a boot loader.
use Prim.Native.Nat.{ℕ, suc, ◌+◌, ◌-◌, ◌*◌, ◌/◌, ◌%◌, ◌≤◌, ◌<◌, min}
use mathlib.Core.Path.{◌≡◌, ◌∙◌, ap, subst}
use native.Mathlib.Omega.{arith}
use native.Mathlib.Decide.{ℕ_discrete}
use native.Mathlib.Nat.{mod-lt, div-add-mod', suc-mul}
use borrow.Author.Tests.{eq-eqb, ne_eqb}
use lib.Arith.{digits_mod}
use Rattle.answers.specs.Pick.{pick}
use Rattle.fields.specs.Ranges.{top64}
use Rattle.bzimage.specs.SetupHeader.{place_of, protocol_places}
use Rattle.bzimage.specs.Protocol.{initrd_addr_max, kernel_alignment, relocatable_kernel, xloadflags, cmdline_size, pref_address, init_size, aligned_up, RoundedUp}
use Rattle.bzimage.proofs.SetupHeaderLaws.{placed}

-- ---- the fields are where the table of the setup header has them

pub at_initrd_addr_max : place_of 24 ≡ initrd_addr_max
unfolding protocol_places
at_initrd_addr_max = placed 24 (omega arith)

pub at_kernel_alignment : place_of 25 ≡ kernel_alignment
unfolding protocol_places
at_kernel_alignment = placed 25 (omega arith)

pub at_relocatable_kernel : place_of 26 ≡ relocatable_kernel
unfolding protocol_places
at_relocatable_kernel = placed 26 (omega arith)

pub at_xloadflags : place_of 28 ≡ xloadflags
unfolding protocol_places
at_xloadflags = placed 28 (omega arith)

pub at_cmdline_size : place_of 29 ≡ cmdline_size
unfolding protocol_places
at_cmdline_size = placed 29 (omega arith)

pub at_pref_address : place_of 35 ≡ pref_address
unfolding protocol_places
at_pref_address = placed 35 (omega arith)

pub at_init_size : place_of 36 ≡ init_size
unfolding protocol_places
at_init_size = placed 36 (omega arith)

-- ---- rounding up

pub aligned_even : (step v : ℕ) → v % step ≡ 0 → v ≡ aligned_up step v
unfolding aligned_up pick
aligned_even step v even = rw (eq-eqb (v % step) 0 even)

pub aligned_odd : (step v : ℕ) {r : ℕ} → (v % step ≡ 0 → ⊥) → r ≡ min (v + (step - v % step)) top64 → r ≡ aligned_up step v
unfolding aligned_up pick
aligned_odd step v odd e = rw (ne_eqb (v % step) 0 odd) e

module _ (v step : ℕ) (some : 0 < step) where
  abbrev up : ℕ
  up = v + (step - v % step)

  is_multiple : up ≡ suc (v / step) * step + 0
  is_multiple =
      let small = mod-lt v some in
      let parts = div-add-mod' v step in
      let next = suc-mul (v / step) step in
      omega arith

  up_aligned : up % step ≡ 0
  up_aligned = ap (λ (n : ℕ). n % step) is_multiple ∙ digits_mod (suc (v / step)) some

-- a multiple of the step, not below v, and less than a step above it: if the sum of both does not pass 2^64
pub aligned_up_lem : (step v : ℕ) → 0 < step → v + step ≤ 18446744073709551616 → RoundedUp step v (aligned_up step v)
aligned_up_lem step v some fits = split (ℕ_discrete (v % step) 0)
  where
    split : Dec (v % step ≡ 0) → RoundedUp step v (aligned_up step v)
    split (yes even) =
        subst (RoundedUp step v) (aligned_even step v even)
        (record { multiple = even; from = omega arith; below = omega arith })
    split (no odd) =
        let small = mod-lt v some in
        let whole : v + (step - v % step) ≡ min (v + (step - v % step)) top64 = omega arith in
        subst (RoundedUp step v) (aligned_odd step v odd whole)
        (record { multiple = up_aligned v step some; from = omega arith; below = omega arith })
