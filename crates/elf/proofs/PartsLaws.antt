-- Laws of the parts of a load.
use Rattle.std.specs.Prelude.{Ok, Err, Option}
use Rattle.guest.specs.declared.GuestAddress.{GuestAddress}
use Rattle.guest.specs.Answers.{Answer}
use Prim.Native.Nat.{ℕ, zero, suc, ◌+◌, ◌*◌, ◌≤◌, ◌<◌}
use mathlib.Core.Path.{◌≡◌, sym, ◌∙◌, refl, ap, subst⁻¹}
use mathlib.Core.List.{List, []}
use native.Mathlib.Omega.{arith}
use native.Mathlib.Decide.{dec_le, ℕ_discrete}
use borrow.Author.Tests.{eq-eqb, ne_eqb, lt-ltb, eqb-true}
use lib.ListN.{length}
use Rattle.answers.specs.Pick.{pick}
use Rattle.answers.specs.declared.Refusal.{Refusal}
use Rattle.answers.proofs.PickLaws.{pick_with}
use Rattle.fields.proofs.RangesLaws.{sum_within}
use Rattle.guest.specs.Addresses.{amount_of}
use Rattle.guest.specs.Parts.{part_stream, no_part, parts_from, Fits}
use Rattle.guest.specs.declared.KernelLoaderResult.{KernelLoaderResult}
use Rattle.guest.specs.declared.Memory.{Memory}
use Rattle.guest.specs.declared.Part.{Part}
use Rattle.guest.proofs.PartsLaws.{empty_stream, none_fits}
use Rattle.elf.specs.Header.{e_phoff_of, e_phnum_of, program_header_size}
use Rattle.elf.specs.ProgramHeaders.{header_place, header_of}
use Rattle.elf.specs.Pouring.{segment_stream, stream_from, whole_stream, if_loaded, plan_of}
use Rattle.elf.specs.Parts.{header_part, part_at, part_of}
use Rattle.elf.specs.Rules.{SegmentFits, SegmentRules}
use Rattle.elf.specs.Verdict.{Accepted, is_accepted}
use Rattle.elf.specs.declared.program_headers.ProgramHeader.{ProgramHeader}
use Rattle.elf.proofs.FitsLaws.{accepted_stand, accepted_fit}
use Rattle.elf.proofs.PouringLaws.{stream_none, stream_empty, stream_loads, plan_stream}

-- ---- of an accepted load the parts fit

module _ (image : List ℕ) (m : Memory) (offset highmem : Option GuestAddress) (ok : Accepted (plan_of image m offset highmem).answer) where
  header_fits : (h : ProgramHeader) → SegmentFits (length image) m (amount_of offset) h → Fits (length image) m (header_part (amount_of offset) h)
  unfolding header_part
  header_fits h fits =
      pick_with (Fits (length image) m) _
      (λ loads. pick_with (Fits (length image) m) _
      (λ _. record { in_image = λ some. (fits (eqb-true _ _ loads) some).in_image; in_guest = λ some. (fits (eqb-true _ _ loads) some).in_guest })
      (λ _. none_fits (length image) m))
      (λ _. none_fits (length image) m)

  pub parts_fit : (j : ℕ) → j < e_phnum_of image → Fits (length image) m (part_of image offset j)
  unfolding part_of part_at
  parts_fit j lt =
      pick_with (Fits (length image) m) _
      (λ _. pick_with (Fits (length image) m) _ (λ _. header_fits (header_of image j) (accepted_fit image m offset highmem ok j lt)) (λ _. none_fits (length image) m))
      (λ _. none_fits (length image) m)

-- ---- and are the segments

module _ (image : List ℕ) (m : Memory) (shift : ℕ) (h : ProgramHeader) where
  other_same : (h.p_type ≡ 1 → ⊥) → part_stream image (header_part shift h) ≡ segment_stream image shift h
  unfolding header_part pick
  other_same other = rw (ne_eqb h.p_type 1 other) (empty_stream image no_part refl) ∙ sym (stream_none image shift h other)

  size_zero : h.p_filesz ≡ 0 → (header_part shift h).size ≡ 0
  unfolding header_part
  size_zero e =
      pick_with (λ (p : Part). p.size ≡ 0) _ (λ _. pick_with (λ (p : Part). p.size ≡ 0) _ (λ _. e) (λ _. refl)) (λ _. refl)

  fitting_same : h.p_type ≡ 1 → SegmentRules (length image) m shift h → part_stream image (header_part shift h) ≡ segment_stream image shift h
  unfolding header_part pick part_stream
  fitting_same loads rules = rw (eq-eqb h.p_type 1 loads, rules.address_fits) (sym (stream_loads image shift h loads))

  header_same : SegmentFits (length image) m shift h → part_stream image (header_part shift h) ≡ segment_stream image shift h
  header_same fits = split (ℕ_discrete h.p_type 1) (dec_le 1 h.p_filesz)
    where
      split : Dec (h.p_type ≡ 1) → Dec (1 ≤ h.p_filesz) → part_stream image (header_part shift h) ≡ segment_stream image shift h
      split (no other) any = other_same other
      split (yes loads) (no empty) =
          empty_stream image (header_part shift h) (size_zero (omega arith)) ∙ sym (stream_empty image shift h (omega arith))
      split (yes loads) (yes some) = fitting_same loads (fits loads some)

module _ (image : List ℕ) (m : Memory) (offset : Option GuestAddress) where
  part_same : (i : ℕ) → i < e_phnum_of image → header_place image i + program_header_size ≤ length image
      → SegmentFits (length image) m (amount_of offset) (header_of image i)
      → part_stream image (part_of image offset i) ≡ segment_stream image (amount_of offset) (header_of image i)
  unfolding part_of part_at pick
  part_same i lt stands fits =
      rw (lt-ltb i (e_phnum_of image) lt, sum_within (length image) (e_phoff_of image) (program_header_size * i + program_header_size) (omega arith))
      (header_same image m (amount_of offset) (header_of image i) fits)

  parts_same : (k i : ℕ) → i + k ≤ e_phnum_of image → ((j : ℕ) → j < e_phnum_of image → header_place image j + program_header_size ≤ length image)
      → ((j : ℕ) → j < e_phnum_of image → SegmentFits (length image) m (amount_of offset) (header_of image j))
      → parts_from k image (part_of image offset) i ≡ stream_from k image (amount_of offset) i
  unfolding parts_from stream_from
  parts_same zero i le stands fits = refl
  parts_same (suc k) i le stands fits =
      rw (part_same i (omega arith) (stands i (omega arith)) (fits i (omega arith)), parts_same k (suc i) (omega arith) stands fits)

-- so what is written is the bytes of the segments
pub parts_whole : (image : List ℕ) (m : Memory) (offset highmem : Option GuestAddress) → Accepted (plan_of image m offset highmem).answer
    → parts_from (e_phnum_of image) image (part_of image offset) 0 ≡ whole_stream image offset
unfolding whole_stream
parts_whole image m offset highmem ok =
    parts_same image m offset (e_phnum_of image) 0 (omega arith) (accepted_stand image m offset highmem ok).stands (accepted_fit image m offset highmem ok)

-- the stream of a plan, by its answer
module _ (image : List ℕ) (m : Memory) (offset highmem : Option GuestAddress) where
  pub parts_written : {k : KernelLoaderResult} → (plan_of image m offset highmem).answer ≡ Ok k
      → parts_from (e_phnum_of image) image (part_of image offset) 0 ≡ (plan_of image m offset highmem).stream
  parts_written is =
      parts_whole image m offset highmem (subst⁻¹ Accepted is is_accepted)
      ∙ sym (plan_stream image m offset highmem ∙ ap (λ (a : Answer). if_loaded a (whole_stream image offset)) is)

  pub none_written : {r : Refusal} → (plan_of image m offset highmem).answer ≡ Err r → (plan_of image m offset highmem).stream ≡ []
  none_written is = plan_stream image m offset highmem ∙ ap (λ (a : Answer). if_loaded a (whole_stream image offset)) is
