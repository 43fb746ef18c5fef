-- "Two images of one length that hold the same bytes in the setup header have the same plan": the same answer, the same setup header and the same
-- part, whatever the rest of either image holds. So a caller may plan with those bytes only, and copy the part from the whole image (`loads`, Footprint).
use Rattle.std.specs.Prelude.{Ok, Err, Option}
use Rattle.guest.specs.declared.GuestAddress.{GuestAddress}
use Prim.Native.Nat.{ℕ, zero, suc, ◌+◌, ◌≤◌}
use mathlib.Core.Path.{◌≡◌, refl, ap}
use mathlib.Core.List.{List}
use native.Mathlib.Omega.{arith}
use Rattle.fields.specs.Agreement.{Agree}
use Rattle.fields.specs.Numbers.{le}
use Rattle.fields.proofs.AgreementLaws.{agree_within, agree_le}
use Rattle.guest.specs.Addresses.{given_or}
use Rattle.guest.specs.declared.Memory.{Memory}
use Rattle.guest.proofs.LoadingLaws.{answer_same}
use Rattle.bzimage.specs.Footprint.{SameFootprint}
use Rattle.bzimage.specs.Header.{bytes_from, header_of}
use Rattle.bzimage.specs.Kernel.{sectors_of, setup_size, kernel_size, start_of, load_of}
use Rattle.bzimage.specs.Plan.{tests, loaded_as, kernel_plan, plan_of}
use Rattle.bzimage.specs.SetupHeader.{header_start, header_size, setup_sects, header_magic, version, loadflags, code32_start}
use Rattle.bzimage.specs.Parts.{part_of}

bytes_same : (s t : List ℕ) (n p : ℕ) → Agree s t p n → bytes_from n s p ≡ bytes_from n t p
unfolding bytes_from
bytes_same s t zero p agree = refl
bytes_same s t (suc n) p agree =
    rw (agree.same p (omega arith) (omega arith), bytes_same s t n (suc p) (agree_within s t p (suc n) (suc p) n agree (omega arith) (omega arith)))

module _ (s t : List ℕ) (same : SameFootprint s t) where
  -- ---- what is read

  field_same : (n p : ℕ) → header_start ≤ p → p + n ≤ header_start + header_size → le n s p ≡ le n t p
  field_same n p from below = agree_le s t n p (agree_within s t header_start header_size p n same.header from below)

  setup_same : setup_size s ≡ setup_size t
  unfolding setup_size sectors_of
  setup_same = rw (field_same 1 setup_sects (omega arith) (omega arith))

  size_same : kernel_size s ≡ kernel_size t
  unfolding kernel_size
  size_same = rw (same.lengths, setup_same)

  start_same : start_of s ≡ start_of t
  unfolding start_of
  start_same = rw (field_same 4 code32_start (omega arith) (omega arith))

  pub header_same : (load : ℕ) → header_of s load ≡ header_of t load
  unfolding header_of
  header_same load = rw (bytes_same s t header_size header_start same.header)

  -- ---- the plan

  module _ (m : Memory) (offset highmem : Option GuestAddress) where
    tests_same : tests s m offset highmem ≡ tests t m offset highmem
    tests_same =
        rw (
          same.lengths,
          field_same 4 header_magic (omega arith) (omega arith),
          field_same 2 version (omega arith) (omega arith),
          field_same 1 loadflags (omega arith) (omega arith),
          setup_same,
          start_same,
          size_same,
        )

    load_same : load_of s offset ≡ load_of t offset
    load_same = ap (given_or offset) start_same

    loaded_same : loaded_as s (load_of s offset) ≡ loaded_as t (load_of t offset)
    loaded_same = rw (size_same, load_same)

    pub plan_same : (plan_of s m offset highmem).answer ≡ (plan_of t m offset highmem).answer
    plan_same = answer_same Err (kernel_plan s (load_of s offset)) (kernel_plan t (load_of t offset)) tests_same (ap Ok loaded_same)

    pub part_same : part_of s offset ≡ part_of t offset
    part_same = rw (start_same, setup_same, size_same)
