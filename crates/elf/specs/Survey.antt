-- The survey of the program headers, one after the other, up to the first that refuses.
use Rattle.answers.specs.declared.Refusal.{Refusal}
use Rattle.guest.specs.Answers.{Answer}
use Rattle.std.specs.Prelude.{ℕ, zero, suc, ◌+◌, max, Bool, List, [], ◌∷◌, leb, eqb, length, Ok, Err, Option, Result}
use Rattle.answers.specs.Pick.{pick}
use Rattle.answers.specs.Tests.{Test, asked_all, Check, pass}
use Rattle.answers.specs.declared.Refusal.TheVariants as refusal
use Rattle.fields.specs.Ranges.{lies_within, fits64}
use Rattle.guest.specs.Addresses.{amount_of, is_given}
use Rattle.guest.specs.declared.GuestAddress.{GuestAddress}
use Rattle.elf.specs.Header.{e_entry_of, e_phnum_of}
use Rattle.elf.specs.ProgramHeaders.{header_of}
use Rattle.elf.specs.Notes.{NoteAnswer}
use Rattle.elf.specs.NoteWalk.{entry_of}
use Rattle.guest.specs.declared.PvhBootCapability.{PvhBootCapability}
use Rattle.guest.specs.declared.PvhBootCapability.TheVariants as pvh
use Rattle.guest.specs.declared.KernelLoaderResult.{KernelLoaderResult}
use Rattle.elf.specs.declared.program_headers.ProgramHeader.{ProgramHeader}
use Rattle.elf.specs.declared.survey.Effect.{Effect}
use Rattle.elf.specs.declared.survey.Effect.TheVariants as effect

-- where n bytes from an address on have room in guest memory
abbrev pub Rooms : Type 0
Rooms = ℕ → ℕ → Bool

-- ---- a loadable segment, moved by shift

abbrev pub address_of : ℕ → ProgramHeader → ℕ
address_of shift h = shift + h.p_paddr.0

-- with file bytes: its sizes, its address, its bytes in the image, their room in guest memory, the end of its memory
abbrev pub segment_tests : ℕ → Rooms → ℕ → ProgramHeader → List Test
segment_tests imageLength hasRoom shift h =
    (leb h.p_filesz h.p_memsz, refusal.InvalidProgramHeaderFileSize)
    ∷ (fits64 shift h.p_paddr.0, refusal.InvalidProgramHeaderAddress)
    ∷ (lies_within imageLength h.p_offset.0 h.p_filesz, refusal.ReadKernelImage)
    ∷ (hasRoom (address_of shift h) h.p_filesz, refusal.ReadKernelImage)
    ∷ (fits64 (address_of shift h) h.p_memsz, refusal.MemoryOverflow)
    ∷ []

-- without file bytes, to be cleared by the kernel: nothing is read or written, and no room is needed
abbrev pub memory_tests : ℕ → ProgramHeader → List Test
memory_tests shift h =
    (fits64 shift h.p_paddr.0, refusal.InvalidProgramHeaderAddress)
    ∷ (fits64 (address_of shift h) h.p_memsz, refusal.MemoryOverflow)
    ∷ []

-- if the tests hold, the segment's end is reported; else the refusal of the first that fails
abbrev pub end_of : ℕ → ProgramHeader → GuestAddress
end_of shift h = record { 0 = address_of shift h + h.p_memsz }

abbrev pub step_by : Check → GuestAddress → Result Effect Refusal
step_by (Ok _) end = Ok (effect.EndsAt end)
step_by (Err r) end = Err r

-- with file bytes, of memory only, or empty and skipped
unfoldable pub load_step : ℕ → Rooms → ℕ → ProgramHeader → Result Effect Refusal
load_step imageLength hasRoom shift h =
    pick (eqb h.p_filesz 0)
    (pick (eqb h.p_memsz 0) (Ok effect.Nothing) (step_by (asked_all pass (memory_tests shift h)) (end_of shift h)))
    (step_by (asked_all pass (segment_tests imageLength hasRoom shift h)) (end_of shift h))

-- ---- any program header

-- what the notes say, as a step
abbrev pub said_step : NoteAnswer → Result Effect Refusal
said_step (Ok note) = Ok (effect.Pvh note.pvh)
said_step (Err r) = Err r

-- a note header: with an offset, PVH is ignored; without, what the walk returns
unfoldable pub note_step : List ℕ → Option GuestAddress → ProgramHeader → Result Effect Refusal
note_step image offset h = pick (is_given offset) (Ok (effect.Pvh pvh.PvhEntryIgnored)) (said_step (entry_of image h.p_offset h.p_filesz))

-- any program header, by its type: 1 is loadable, 4 has notes, others are skipped
unfoldable pub step_of : List ℕ → Rooms → Option GuestAddress → ProgramHeader → Result Effect Refusal
step_of image hasRoom offset h =
    pick (eqb h.p_type 1)
    (load_step (length image) hasRoom (amount_of offset) h)
    (pick (eqb h.p_type 4) (note_step image offset h) (Ok effect.Nothing))

-- PVH after one more note header: the first note found holds
unfoldable pub first_found : PvhBootCapability → PvhBootCapability → PvhBootCapability
first_found (pvh.PvhEntryPresent note) said = pvh.PvhEntryPresent note
first_found pvh.PvhEntryNotPresent said = said
first_found pvh.PvhEntryIgnored said = said

-- the result after one more program header: the end is the greatest so far, and the first note found holds
unfoldable pub advanced : KernelLoaderResult → Effect → KernelLoaderResult
advanced result effect.Nothing = result
advanced result (effect.EndsAt a) = record {
  kernel_load = result.kernel_load;
  kernel_end = record { 0 = max result.kernel_end.0 a.0 };
  pvh_boot_cap = result.pvh_boot_cap;
}
advanced result (effect.Pvh said) = record {
  kernel_load = result.kernel_load;
  kernel_end = result.kernel_end;
  pvh_boot_cap = first_found result.pvh_boot_cap said;
}

-- the result before any program header: the end is 0, and PVH is ignored
abbrev pub blank : GuestAddress → KernelLoaderResult
blank load = record { kernel_load = load; kernel_end = record { 0 = 0 }; pvh_boot_cap = pvh.PvhEntryIgnored }

-- after the step of a program header: `more` goes on
abbrev pub after_step : Result Effect Refusal → (Effect → Answer) → Answer
after_step (Ok e) more = more e
after_step (Err r) more = Err r

-- n program headers from header i on
unfoldable pub survey_from : ℕ → List ℕ → Rooms → Option GuestAddress → ℕ → KernelLoaderResult → Answer
survey_from zero image hasRoom offset i result = Ok result
survey_from (suc n) image hasRoom offset i result =
    after_step (step_of image hasRoom offset (header_of image i)) (λ e. survey_from n image hasRoom offset (suc i) (advanced result e))

-- the load address: the entry point, plus the offset if given
abbrev pub load_address : List ℕ → Option GuestAddress → GuestAddress
load_address image offset = record { 0 = amount_of offset + e_entry_of image }

-- all program headers
abbrev pub survey_of : List ℕ → Rooms → Option GuestAddress → Answer
survey_of image hasRoom offset = survey_from (e_phnum_of image) image hasRoom offset 0 (blank (load_address image offset))
