-- Laws of the guest memory that the segments of a load take.
use Rattle.std.specs.Prelude.{Option}
use Rattle.guest.specs.declared.GuestAddress.{GuestAddress}
use Prim.Native.Nat.{ℕ, ◌+◌, ◌*◌, ◌≤◌, ◌<◌}
use mathlib.Core.Path.{◌≡◌, ◌∙◌}
use mathlib.Core.Bool.{true}
use mathlib.Core.List.{List}
use native.Mathlib.Omega.{arith}
use native.Mathlib.Decide.{dec_le}
use borrow.Author.Tests.{eq-eqb, lt-ltb}
use lib.ListN.{length}
use Rattle.answers.specs.Pick.{pick}
use Rattle.fields.specs.Ranges.{fits64}
use Rattle.fields.proofs.RangesLaws.{sum_within}
use Rattle.guest.specs.Addresses.{amount_of}
use Rattle.guest.specs.declared.Memory.{Memory}
use Rattle.elf.specs.Header.{e_phoff_of, e_phnum_of, program_header_size}
use Rattle.elf.specs.Memory.{segment_memory, header_memory, memory_at, memory_of}
use Rattle.elf.specs.Pouring.{plan_of}
use Rattle.elf.specs.ProgramHeaders.{header_place, header_of}
use Rattle.elf.specs.Rules.{HeaderRules}
use Rattle.elf.specs.Verdict.{Accepted}
use Rattle.elf.specs.declared.program_headers.ProgramHeader.{ProgramHeader}
use Rattle.elf.proofs.EveryRule.{accept_rules}
use Rattle.elf.proofs.FitsLaws.{accepted_stand}

-- ---- of an accepted load every segment that takes memory has it at its address

-- the address of such a segment is a number of 64 bits, with file bytes or without
address_fits : (image : List ℕ) (m : Memory) (offset : Option GuestAddress) (h : ProgramHeader) → HeaderRules image m offset h
    → h.p_type ≡ 1 → 0 < h.p_memsz → fits64 (amount_of offset) h.p_paddr.0 ≡ true
address_fits image m offset h rules loads some = split (dec_le 1 h.p_filesz)
  where
    split : Dec (1 ≤ h.p_filesz) → fits64 (amount_of offset) h.p_paddr.0 ≡ true
    split (yes file) = (rules.segment loads file).address_fits
    split (no empty) = (rules.memory loads (omega arith) some).address_fits

header_memory_lem : (shift : ℕ) (h : ProgramHeader) → h.p_type ≡ 1 → fits64 shift h.p_paddr.0 ≡ true
    → header_memory shift h ≡ segment_memory shift h
unfolding header_memory pick
header_memory_lem shift h loads fits = rw (eq-eqb h.p_type 1 loads, fits)

memory_stands : (image : List ℕ) (offset : Option GuestAddress) (j : ℕ) → j < e_phnum_of image
    → header_place image j + program_header_size ≤ length image
    → memory_of image offset j ≡ header_memory (amount_of offset) (header_of image j)
unfolding memory_of memory_at pick
memory_stands image offset j lt stands =
    rw (
      lt-ltb j (e_phnum_of image) lt,
      sum_within (length image) (e_phoff_of image) (program_header_size * j + program_header_size) (omega arith),
    )

pub segment_memory_lem : (image : List ℕ) (m : Memory) (offset highmem : Option GuestAddress) → Accepted (plan_of image m offset highmem).answer
    → (j : ℕ) → j < e_phnum_of image → (header_of image j).p_type ≡ 1 → 0 < (header_of image j).p_memsz
    → memory_of image offset j ≡ segment_memory (amount_of offset) (header_of image j)
segment_memory_lem image m offset highmem ok j lt loads some =
    memory_stands image offset j lt ((accepted_stand image m offset highmem ok).stands j lt)
    ∙ header_memory_lem (amount_of offset) (header_of image j) loads
    (address_fits image m offset (header_of image j) ((accept_rules image m offset highmem ok).headers j lt) loads some)
