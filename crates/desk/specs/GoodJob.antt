-- A good job, sentence by sentence, without the order in which the code asks: a count of 1 or 2, a row for each body, exactly one image, at most one
-- line, and the bodies in row order without gap or rest, at most 16,384 bytes in all.
use Rattle.std.specs.Prelude.{ℕ, zero, suc, ◌+◌, ◌*◌, ◌≤◌, ◌≡◌, Bool, ◌||◌, ◌⊎◌, List, [], ◌∷◌, ◌++◌, eqb, length}
use Rattle.answers.specs.Pick.{pick}
use Rattle.elf.specs.Listing.{elf_numbers}
use Rattle.bzimage.specs.Answers.{bz_image_numbers}
use Rattle.loader.specs.Lines.{line_numbers}
use Rattle.desk.specs.Table.{most, count_of, row_of, is_image}
use Rattle.desk.specs.declared.table.Row.{Row}

-- n rows of 12 bytes from a place on
unfoldable pub rows_from : ℕ → List ℕ → ℕ → List Row
rows_from zero job at = []
rows_from (suc n) job at = row_of job at ∷ rows_from n job (at + 12)

-- the rows of a job stand behind the count, and the bodies behind the rows
abbrev pub rows_of : List ℕ → List Row
rows_of job = rows_from (count_of job) job 4

abbrev pub table_size : List ℕ → ℕ
table_size job = 4 + 12 * count_of job

-- the text of a line
unfoldable pub is_line : ℕ → Bool
is_line kind = eqb kind 3

-- 1, 2 and 3 are the kinds that there are
unfoldable pub is_kind : ℕ → Bool
is_kind kind = is_image kind || is_line kind

-- how many rows have a kind for which a test holds
unfoldable pub count_with : (ℕ → Bool) → List Row → ℕ
count_with test [] = 0
count_with test (r ∷ rs) = pick (test r.kind) 1 0 + count_with test rs

-- the bodies of rows, one right behind the other from a place on; the last ends with the job
pub data Bodies (end : ℕ) : ℕ → List Row → Type 0 where
  no_rest : Bodies end end []
  no_gap : {at : ℕ} {r : Row} {rs : List Row} → r.place.0 ≡ at → Bodies end (at + r.size) rs → Bodies end at (r ∷ rs)

pub record GoodJob (job : List ℕ) : Type 0 where
  pub short : length job ≤ most
  pub rows : (count_of job ≡ 1) ⊎ (count_of job ≡ 2)
  pub in_job : table_size job ≤ length job
  pub known : count_with is_kind (rows_of job) ≡ length (rows_of job)
  pub one_image : count_with is_image (rows_of job) ≡ 1
  pub one_line : count_with is_line (rows_of job) ≤ 1
  pub bodies : Bodies (length job) (table_size job) (rows_of job)

-- the numbers that a job may answer beside 0 and 70: those of the two loads, of `try_from`, and of a line put into guest memory
abbrev pub job_numbers : List ℕ
job_numbers = elf_numbers ++ (bz_image_numbers ++ (41 ∷ line_numbers))
