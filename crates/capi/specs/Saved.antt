-- A load between two steps, in a list of numbers: how far it is. Its format and its answer come after it.
use Rattle.guest.specs.declared.GuestAddress.{GuestAddress}
use Rattle.std.specs.Prelude.{ℕ, zero, suc, List, [], ◌∷◌, eqb, leb, get_or, Some, None, Option}
use Rattle.std.proofs.lemmas.List.Edits.{sets}
use Rattle.answers.specs.Pick.{pick}
use Rattle.answers.specs.Tests.{Test}
use Rattle.answers.specs.declared.Refusal.TheVariants.{BadList}
use Rattle.guest.specs.Addresses.{amount_of}
use Rattle.guest.specs.declared.Map.{Map}
use Rattle.loads.specs.declared.Stage.{Stage}
use Rattle.loads.specs.declared.Stage.TheVariants.{Fresh, Copying, Done}
use Rattle.capi.specs.Options.{given_by}
use Rattle.capi.specs.declared.progress.Kept.{Kept}

-- k numbers of a list from a place on; past the end they are 0
unfoldable pub numbers_from : ℕ → List ℕ → ℕ → List ℕ
numbers_from zero numbers at = []
numbers_from (suc k) numbers at = get_or numbers at 0 ∷ numbers_from k numbers (suc at)

-- how far a load is, as a number: 0 not started, 1 copying, 2 answered
unfoldable pub stage_code : Stage → ℕ
stage_code Fresh = 0
stage_code Copying = 1
stage_code Done = 2

unfoldable pub stage_of : ℕ → Stage
stage_of n = pick (eqb n 0) Fresh (pick (eqb n 1) Copying Done)

-- 1 if an address is given, else 0
unfoldable pub given_code : Option GuestAddress → ℕ
given_code None = 0
given_code (Some a) = 1

-- ---- what is kept: ten numbers, then 16 starts and 16 sizes of the first step's map

-- the stage, the first step's image length, memory size and count of ranges, the next part and the bytes of it that are done, and the two options
abbrev pub head_of : Kept → List ℕ
head_of k =
    stage_code k.progress.stage
    ∷ k.progress.image_len
    ∷ k.progress.memory.size
    ∷ k.progress.memory.map.count
    ∷ k.progress.at
    ∷ k.progress.done
    ∷ given_code k.kernel_offset
    ∷ amount_of k.kernel_offset
    ∷ given_code k.highmem_start
    ∷ amount_of k.highmem_start
    ∷ []

abbrev pub starts_place : ℕ
starts_place = 10

abbrev pub sizes_place : ℕ
sizes_place = 26

-- where the format and the answer's numbers are
abbrev pub answer_place : ℕ
answer_place = 42

-- a list with what is kept written into it
abbrev pub with_kept : Kept → List ℕ → List ℕ
with_kept k numbers = sets (sets (sets numbers 0 (head_of k)) starts_place k.progress.memory.map.starts) sizes_place k.progress.memory.map.sizes

-- what a list keeps
abbrev pub map_in : List ℕ → Map
map_in numbers = record { count = get_or numbers 3 0; starts = numbers_from 16 numbers starts_place; sizes = numbers_from 16 numbers sizes_place }

abbrev pub kept_in : List ℕ → Kept
kept_in numbers =
    record {
      progress =
          record {
            stage = stage_of (get_or numbers 0 0);
            image_len = get_or numbers 1 0;
            memory = record { size = get_or numbers 2 0; map = map_in numbers };
            at = get_or numbers 4 0;
            done = get_or numbers 5 0;
          };
      kernel_offset = given_by (get_or numbers 6 0) (get_or numbers 7 0);
      highmem_start = given_by (get_or numbers 8 0) (get_or numbers 9 0);
    }

-- what no state is written as: a stage that is none, an option that is neither given nor not
abbrev pub kept_tests : List ℕ → List Test
kept_tests numbers = (leb (get_or numbers 0 0) 2, BadList) ∷ (leb (get_or numbers 6 0) 1, BadList) ∷ (leb (get_or numbers 8 0) 1, BadList) ∷ []
