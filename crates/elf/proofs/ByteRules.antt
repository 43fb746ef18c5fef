-- "After an accepted ELF load each guest byte is the file byte of the last loadable segment whose file bytes cover it, or is
-- untouched": byte_rule.
use Rattle.std.specs.Prelude.{Ok, Option}
use Rattle.guest.specs.declared.GuestAddress.{GuestAddress}
use Rattle.guest.specs.Answers.{Answer}
use Prim.Native.Nat.{ℕ, zero, suc, ◌+◌, ◌-◌, ◌≤◌, ◌<◌}
use mathlib.Core.Path.{◌≡◌, sym, ◌∙◌, refl, subst, subst⁻¹}
use mathlib.Core.List.{List}
use native.Mathlib.Omega.{arith}
use native.Mathlib.Decide.{dec_le, ℕ_discrete}
use lib.ListN.{length, get_or, drop, length-take, length-drop}
use lib.Seq.{get_or-take, get_or-drop}
use Rattle.fields.proofs.RangesLaws.{within_sum}
use Rattle.guest.specs.Addresses.{amount_of}
use Rattle.guest.specs.Room.{memory_of}
use Rattle.guest.specs.Stream.{pour, last_at}
use Rattle.guest.specs.declared.Map.{Map}
use Rattle.guest.specs.declared.Memory.{Memory}
use Rattle.guest.proofs.StreamLaws.{last_decides, last_append, last_inside, last_outside}
use Rattle.guest.proofs.LoadingLaws.{load_length}
use Rattle.elf.specs.Header.{e_phnum_of}
use Rattle.elf.specs.ProgramHeaders.{header_of}
use Rattle.elf.specs.Pouring.{segment_stream, stream_from, whole_stream, plan_of}
use Rattle.elf.specs.Rules.{SegmentRules, SegmentFits}
use Rattle.elf.specs.Load.{LoadSays}
use Rattle.elf.specs.Verdict.{Accepted, is_accepted}
use Rattle.elf.specs.ByteRule.{RuledBytes, Covers, FileByte, Ruled, last_covers, untouched}
use Rattle.guest.specs.declared.KernelLoaderResult.{KernelLoaderResult}
use Rattle.elf.specs.declared.program_headers.ProgramHeader.{ProgramHeader}
use Rattle.elf.proofs.PouringLaws.{segment_bytes, stream_none, stream_loads, plan_stream}
use Rattle.elf.proofs.FitsLaws.{accepted_fit}

-- ---- one segment, seen at an address

module _ (image : List ℕ) (m : Memory) (shift a : ℕ) (h : ProgramHeader) (fits : SegmentFits (length image) m shift h) where
  segment_length : SegmentRules (length image) m shift h → length (segment_bytes image h) ≡ h.p_filesz
  segment_length f = let in_image = within_sum (length image) h.p_offset.0 h.p_filesz f.in_image in simp (length-take, length-drop) (omega arith)

  covered : {byte : ℕ} (b : ℕ) → Covers shift a h → byte ≡ last_at (segment_stream image shift h) a b → FileByte image shift a h byte
  covered b c e =
      let from = c.from in
      let below = c.below in
      let all-fits = fits c.loadable (omega arith) in
      let in_image = within_sum (length image) h.p_offset.0 h.p_filesz all-fits.in_image in
      let len = segment_length all-fits in
      record {
        in_image = omega arith;
        is =
            e
            ∙ rw (stream_loads image shift h c.loadable)
            (last_inside (segment_bytes image h) (shift + h.p_paddr.0) a b from (omega arith)
            ∙ get_or-take h.p_filesz (drop h.p_offset.0 image) (a - (shift + h.p_paddr.0)) 0 (omega arith)
            ∙ get_or-drop h.p_offset.0 image (a - (shift + h.p_paddr.0)) 0);
      }

  uncovered : (b : ℕ) → (Covers shift a h → ⊥) → last_at (segment_stream image shift h) a b ≡ b
  unfolding last_at
  uncovered b out = split (ℕ_discrete h.p_type 1)
    where
      few : length (segment_bytes image h) ≤ h.p_filesz
      few = simp length-take (omega arith)

      split : Dec (h.p_type ≡ 1) → last_at (segment_stream image shift h) a b ≡ b
      split (no other) = rw (stream_none image shift h other)
      split (yes loads) =
          rw (stream_loads image shift h loads)
          (last_outside (segment_bytes image h) (shift + h.p_paddr.0) a b
          (λ le lt. out (record { loadable = loads; from = le; below = omega (arith, few) })))

-- does a segment cover the address?
covers? : (shift a : ℕ) (h : ProgramHeader) → Dec (Covers shift a h)
covers? shift a h = split (ℕ_discrete h.p_type 1) (dec_le (shift + h.p_paddr.0) a) (dec_le (suc a) (shift + h.p_paddr.0 + h.p_filesz))
  where
    split : Dec (h.p_type ≡ 1) → Dec (shift + h.p_paddr.0 ≤ a) → Dec (suc a ≤ shift + h.p_paddr.0 + h.p_filesz) → Dec (Covers shift a h)
    split (yes loads) (yes le) (yes lt) = yes (record { loadable = loads; from = le; below = lt })
    split (no other) any any' = no (λ c. other c.loadable)
    split (yes loads) (no n) any = no (λ c. n c.from)
    split (yes loads) (yes le) (no n) = no (λ c. n c.below)

-- ---- all of them

module _ (image : List ℕ) (m : Memory) (shift a : ℕ) where
  stream_rule : (n i old : ℕ) → ((j : ℕ) → i ≤ j → j < i + n → SegmentFits (length image) m shift (header_of image j))
      → Ruled image shift a i n old (last_at (stream_from n image shift i) a old)
  unfolding stream_from last_at
  stream_rule zero i old fits = untouched (λ j le lt. absurd (omega arith)) refl
  stream_rule (suc n) i old fits =
      rw (last_append (segment_stream image shift (header_of image i)) (stream_from n image shift (suc i)) a old)
      (one_more (stream_rule n (suc i) after (λ j le lt. fits j (omega arith) (omega arith))))
    where
      after : ℕ
      after = last_at (segment_stream image shift (header_of image i)) a old

      fits_here : SegmentFits (length image) m shift (header_of image i)
      fits_here = fits i (omega arith) (omega arith)

      -- header i covers the address or not, and none after it does
      here : {byte : ℕ} → ((j : ℕ) → suc i ≤ j → j < suc i + n → Covers shift a (header_of image j) → ⊥) → byte ≡ after → Dec (Covers shift a (header_of image i))
          → Ruled image shift a i (suc n) old byte
      here later e (yes c) =
          last_covers i (omega arith) (omega arith) c (λ j lt lt'. later j lt (omega arith)) (covered image m shift a (header_of image i) fits_here old c e)
      here later e (no out) = untouched (λ j le lt. at j le lt (dec_le (suc i) j)) (e ∙ uncovered image m shift a (header_of image i) fits_here old out)
        where
          at : (j : ℕ) → i ≤ j → j < i + suc n → Dec (suc i ≤ j) → Covers shift a (header_of image j) → ⊥
          at j le lt (yes h) = later j h (omega arith)
          at j le lt (no h) = subst (λ k. Covers shift a (header_of image k) → ⊥) (let same : i ≡ j = omega arith in same) out

      one_more : {byte : ℕ} → Ruled image shift a (suc i) n after byte → Ruled image shift a i (suc n) old byte
      one_more (last_covers k le lt c later e) = last_covers k (omega arith) (omega arith) c (λ j lt' lt''. later j lt' (omega arith)) e
      one_more (untouched later e) = here later e (covers? shift a (header_of image i))

-- ---- a load

module _ (image : List ℕ) (m : Memory) (offset highmem : Option GuestAddress) (ok : Accepted (plan_of image m offset highmem).answer) where
  poured_rule : (guest : List ℕ) (a : ℕ) → a < length guest
      → Ruled image (amount_of offset) a 0 (e_phnum_of image) (get_or guest a 0) (get_or (pour (whole_stream image offset) guest) a 0)
  unfolding whole_stream
  poured_rule guest a lt =
      subst⁻¹ (Ruled image (amount_of offset) a 0 (e_phnum_of image) (get_or guest a 0))
      (last_decides (stream_from (e_phnum_of image) image (amount_of offset) 0) guest a lt)
      (stream_rule image m (amount_of offset) a (e_phnum_of image) 0 (get_or guest a 0) (λ j le lt'. accepted_fit image m offset highmem ok j (omega arith)))

-- the theorem, of whatever the contract of `load` permits
module _ (image : List ℕ) (offset highmem : Option GuestAddress) (map : Map) (before after : List ℕ) {r : Answer} (says : LoadSays image offset highmem map before r after) where
  ruled_at : {result : KernelLoaderResult} → r ≡ Ok result → (a : ℕ) → a < length before
      → Ruled image (amount_of offset) a 0 (e_phnum_of image) (get_or before a 0) (get_or after a 0)
  ruled_at e a lt =
      let loaded = sym says.answer ∙ e in
      rw (says.memory, plan_stream image (memory_of before map) offset highmem, loaded)
      (poured_rule image (memory_of before map) offset highmem (subst⁻¹ Accepted loaded is_accepted) before a lt)

  pub byte_rule : {result : KernelLoaderResult} → r ≡ Ok result → RuledBytes image (amount_of offset) before after
  byte_rule e = record { as_long = load_length (plan_of image (memory_of before map) offset highmem) before after says; ruled = ruled_at e }
