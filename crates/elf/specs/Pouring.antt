-- The plan of a load: its answer, and the bytes of the segments that are written, in file order, each from its first byte.
use Rattle.guest.specs.declared.GuestAddress.{GuestAddress}
use Rattle.guest.specs.Answers.{Answer}
use Rattle.std.specs.Prelude.{ℕ, zero, suc, ◌+◌, List, [], ◌++◌, eqb, Ok, Err, Option}
use Rattle.answers.specs.Pick.{pick}
use Rattle.guest.specs.Addresses.{amount_of}
use Rattle.guest.specs.Room.{room}
use Rattle.guest.specs.Stream.{Poke, stream_at, bytes_at}
use Rattle.guest.specs.Loading.{Plan, behind_tests}
use Rattle.guest.specs.declared.Memory.{Memory}
use Rattle.elf.specs.Header.{e_phnum_of, tests}
use Rattle.elf.specs.ProgramHeaders.{header_of}
use Rattle.elf.specs.Survey.{survey_of}
use Rattle.elf.specs.declared.program_headers.ProgramHeader.{ProgramHeader}

-- the file bytes of a loadable segment, at its address moved by shift
unfoldable pub segment_stream : List ℕ → ℕ → ProgramHeader → List Poke
segment_stream image shift h =
    pick (eqb h.p_type 1) (stream_at (shift + h.p_paddr.0) (bytes_at image h.p_offset.0 h.p_filesz)) []

-- n program headers from header i on
unfoldable pub stream_from : ℕ → List ℕ → ℕ → ℕ → List Poke
stream_from zero image shift i = []
stream_from (suc n) image shift i = segment_stream image shift (header_of image i) ++ stream_from n image shift (suc i)

-- the segments of all program headers
unfoldable pub whole_stream : List ℕ → Option GuestAddress → List Poke
whole_stream image offset = stream_from (e_phnum_of image) image (amount_of offset) 0

-- an answer that loads writes them, and a refusal nothing
abbrev pub if_loaded : Answer → List Poke → List Poke
if_loaded (Ok result) ps = ps
if_loaded (Err r) ps = []

abbrev pub survey_plan : List ℕ → Option GuestAddress → Answer → Plan Answer
survey_plan image offset answer = record { answer = answer; stream = if_loaded answer (whole_stream image offset) }

-- the plan of a load: the tests before the program headers, then the headers
abbrev pub plan_of : List ℕ → Memory → Option GuestAddress → Option GuestAddress → Plan Answer
plan_of image m offset highmem = behind_tests Err (tests image m offset highmem) (survey_plan image offset (survey_of image (room m) offset))
