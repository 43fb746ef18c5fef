-- Laws of the stream of a load.
use Rattle.std.specs.Prelude.{Err, Option}
use Rattle.guest.specs.declared.GuestAddress.{GuestAddress}
use Rattle.guest.specs.Answers.{Answer}
use Prim.Native.Nat.{ℕ, ◌+◌}
use mathlib.Core.Path.{◌≡◌, refl}
use mathlib.Core.List.{List, []}
use borrow.Author.Tests.{eq-eqb, ne_eqb}
use lib.Dec.{eqb}
use Rattle.answers.specs.Pick.{pick}
use Rattle.answers.proofs.PickLaws.{pick_with}
use Rattle.guest.specs.Loading.{Plan}
use Rattle.guest.specs.Room.{room}
use Rattle.guest.specs.Stream.{Poke, stream_at, bytes_at}
use Rattle.guest.specs.declared.Memory.{Memory}
use Rattle.guest.proofs.LoadingLaws.{behind_with}
use Rattle.elf.specs.Header.{tests}
use Rattle.elf.specs.Survey.{survey_of}
use Rattle.elf.specs.Pouring.{segment_stream, whole_stream, if_loaded, survey_plan, plan_of}
use Rattle.elf.specs.declared.program_headers.ProgramHeader.{ProgramHeader}

-- ---- one program header

abbrev pub segment_bytes : List ℕ → ProgramHeader → List ℕ
segment_bytes image h = bytes_at image h.p_offset.0 h.p_filesz

module _ (image : List ℕ) (shift : ℕ) (h : ProgramHeader) where
  -- one that is not loadable has no stream
  pub stream_none : (h.p_type ≡ 1 → ⊥) → segment_stream image shift h ≡ []
  unfolding segment_stream pick
  stream_none other = rw (ne_eqb h.p_type 1 other)

  -- nor has one without file bytes
  pub stream_empty : h.p_filesz ≡ 0 → segment_stream image shift h ≡ []
  unfolding segment_stream stream_at
  stream_empty empty = rw empty (pick_with (λ (ps : List Poke). ps ≡ []) (eqb h.p_type 1) (λ _. refl) (λ _. refl))

  pub stream_loads : h.p_type ≡ 1 → segment_stream image shift h ≡ stream_at (shift + h.p_paddr.0) (segment_bytes image h)
  unfolding segment_stream pick
  stream_loads loads = rw (eq-eqb h.p_type 1 loads)

-- ---- the stream by the answer

module _ (image : List ℕ) (m : Memory) (offset highmem : Option GuestAddress) where
  abbrev plan : Plan Answer
  plan = plan_of image m offset highmem

  abbrev headers : Plan Answer
  headers = survey_plan image offset (survey_of image (room m) offset)

  -- a plan writes all segments or nothing
  pub plan_stream : plan.stream ≡ if_loaded plan.answer (whole_stream image offset)
  plan_stream =
      behind_with Err (tests image m offset highmem) headers (λ (p : Plan Answer). p.stream ≡ if_loaded p.answer (whole_stream image offset)) (λ _. refl) (λ _ _. refl)
