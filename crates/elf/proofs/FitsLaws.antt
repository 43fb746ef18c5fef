-- What an accepted load writes fits: its bytes stand in the image, and the stream goes into guest memory.
use Rattle.std.specs.Prelude.{Ok, Err, Option}
use Rattle.guest.specs.declared.GuestAddress.{GuestAddress}
use Rattle.guest.specs.Answers.{Answer}
use Prim.Native.Nat.{ℕ, zero, suc, ◌+◌, ◌≤◌, ◌<◌}
use mathlib.Core.Path.{◌≡◌, subst⁻¹}
use mathlib.Core.List.{List}
use native.Mathlib.Omega.{arith}
use native.Mathlib.Decide.{dec_le, ℕ_discrete}
use lib.ListN.{length, length-take}
use Rattle.guest.specs.Addresses.{amount_of}
use Rattle.guest.specs.Stream.{Inside, none}
use Rattle.guest.specs.declared.Memory.{Memory}
use Rattle.guest.proofs.StreamLaws.{inside_append, inside_at}
use Rattle.elf.specs.Header.{e_phnum_of}
use Rattle.elf.specs.ProgramHeaders.{header_of, HeadersStand}
use Rattle.elf.specs.Pouring.{segment_stream, stream_from, whole_stream, if_loaded, plan_of}
use Rattle.elf.specs.Verdict.{Accepted, is_accepted}
use Rattle.elf.specs.Rules.{SegmentFits}
use Rattle.elf.specs.declared.program_headers.ProgramHeader.{ProgramHeader}
use Rattle.elf.proofs.HeaderLaws.{headers_stand}
use Rattle.elf.proofs.PouringLaws.{segment_bytes, stream_none, stream_empty, stream_loads, plan_stream}
use Rattle.elf.proofs.EveryRule.{accept_rules}

-- ---- an accepted load: all program headers stand in the image, and every segment fits

module _ (image : List ℕ) (m : Memory) (offset highmem : Option GuestAddress) (ok : Accepted (plan_of image m offset highmem).answer) where
  pub accepted_stand : HeadersStand image (e_phnum_of image)
  accepted_stand = headers_stand image m offset highmem (accept_rules image m offset highmem ok).before

  pub accepted_fit : (j : ℕ) → j < e_phnum_of image → SegmentFits (length image) m (amount_of offset) (header_of image j)
  accepted_fit j lt = ((accept_rules image m offset highmem ok).headers j lt).segment

-- ---- the stream goes into guest memory

segment_inside : (image : List ℕ) (m : Memory) (shift : ℕ) (h : ProgramHeader) → SegmentFits (length image) m shift h → Inside m (segment_stream image shift h)
segment_inside image m shift h fits = split (ℕ_discrete h.p_type 1) (dec_le 1 h.p_filesz)
  where
    count : length (segment_bytes image h) ≤ h.p_filesz
    count = simp length-take (omega arith)

    split : Dec (h.p_type ≡ 1) → Dec (1 ≤ h.p_filesz) → Inside m (segment_stream image shift h)
    split (no other) any = rw (stream_none image shift h other) none
    split (yes loads) (yes some) =
        rw (stream_loads image shift h loads)
        (inside_at m (shift + h.p_paddr.0) h.p_filesz (segment_bytes image h) (fits loads some).in_guest count)
    split (yes loads) (no empty) = rw (stream_empty image shift h (omega arith)) none

stream_inside : (image : List ℕ) (m : Memory) (shift n i : ℕ) → ((j : ℕ) → i ≤ j → j < i + n → SegmentFits (length image) m shift (header_of image j))
    → Inside m (stream_from n image shift i)
unfolding stream_from
stream_inside image m shift zero i fits = none
stream_inside image m shift (suc n) i fits =
    inside_append (segment_inside image m shift (header_of image i) (fits i (omega arith) (omega arith)))
    (stream_inside image m shift n (suc i) (λ j le lt. fits j (omega arith) (omega arith)))

module _ (image : List ℕ) (m : Memory) (offset highmem : Option GuestAddress) where
  inside_by : (a : Answer) → (Accepted a → (j : ℕ) → j < e_phnum_of image → SegmentFits (length image) m (amount_of offset) (header_of image j))
      → Inside m (if_loaded a (whole_stream image offset))
  unfolding whole_stream
  inside_by (Ok result) fits = stream_inside image m (amount_of offset) (e_phnum_of image) 0 (λ j le lt. fits is_accepted j (omega arith))
  inside_by (Err r) fits = none

  pub plan_inside : Inside m (plan_of image m offset highmem).stream
  plan_inside = subst⁻¹ (Inside m) (plan_stream image m offset highmem) (inside_by (plan_of image m offset highmem).answer (accepted_fit image m offset highmem))
