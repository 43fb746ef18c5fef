-- A job: a table of contents, a count and that many rows, and then the bodies of the rows. When it is good, and what its bodies are.
use Rattle.std.specs.Prelude.{ℕ, ◌+◌, ◌<◌, ◌^◌, ◌≡◌, Bool, false, ◌&&◌, ◌||◌, List, [], ◌∷◌, leb, eqb, length}
use Rattle.answers.specs.Pick.{pick}
use Rattle.answers.specs.Tests.{Test}
use Rattle.answers.specs.declared.Refusal.TheVariants.{BadJob}
use Rattle.fields.specs.Numbers.{le}
use Rattle.guest.specs.Stream.{bytes_at}
use Rattle.desk.specs.declared.table.Row.{Row}

-- the most bytes that a job may have
abbrev pub most : ℕ
most = 16384

-- ---- the table: a count of 4 bytes, then rows of three numbers of 4 bytes

abbrev pub count_of : List ℕ → ℕ
count_of job = le 4 job 0

-- the places of the two rows
abbrev pub first_row : ℕ
first_row = 4

abbrev pub second_row : ℕ
second_row = 16

-- the row at a place: the kind of a body, its place in the job, and its size
unfoldable pub row_of : List ℕ → ℕ → Row
row_of job at = record { kind = le 4 job at; place = record { 0 = le 4 job (at + 4) }; size = le 4 job (at + 8) }

-- what a reader of a row answers
pub record RowRead (job : List ℕ) (at : ℕ) (r : Row) : Type 0 where
  pub row : r ≡ row_of job at
  pub small : r.size < 2 ^ 32

-- ---- the rules

-- one row or two
unfoldable pub count_good : ℕ → Bool
count_good count = eqb count 1 || eqb count 2

-- kind 1 is an ELF image, kind 2 a bzImage, kind 3 the text of a line
unfoldable pub is_image : ℕ → Bool
is_image kind = eqb kind 1 || eqb kind 2

-- one row is an image's; of two the one is an image's and the other a line's
unfoldable pub kinds_good : ℕ → ℕ → ℕ → Bool
kinds_good count a b = pick (eqb count 1) (is_image a) (pick (is_image a) (eqb b 3) (pick (eqb a 3) (is_image b) false))

-- the body of one row begins behind the table and ends with the job
unfoldable pub one_placed : Row → ℕ → Bool
one_placed a len = eqb a.place.0 16 && eqb (16 + a.size) len

-- the bodies of two rows: the first begins behind the table, the second behind the first, and ends with the job
unfoldable pub two_placed : Row → Row → ℕ → Bool
two_placed a b len = eqb a.place.0 28 && (eqb b.place.0 (28 + a.size) && eqb (28 + a.size + b.size) len)

unfoldable pub places_good : ℕ → Row → Row → ℕ → Bool
places_good count a b len = pick (eqb count 1) (one_placed a len) (two_placed a b len)

-- the tests of a job; each has the same refusal. A job that ends inside its table fails the last: its bodies would end before they begin
abbrev pub job_tests : List ℕ → List Test
job_tests job =
    (leb (length job) most, BadJob)
    ∷ (count_good (count_of job), BadJob)
    ∷ (kinds_good (count_of job) (row_of job first_row).kind (row_of job second_row).kind, BadJob)
    ∷ (places_good (count_of job) (row_of job first_row) (row_of job second_row) (length job), BadJob)
    ∷ []

-- ---- the bodies

-- the row of the image, whichever comes first
unfoldable pub image_row : List ℕ → Row
image_row job = pick (is_image (row_of job first_row).kind) (row_of job first_row) (row_of job second_row)

-- the other row, which is the line's where there are two
unfoldable pub line_row : List ℕ → Row
line_row job = pick (is_image (row_of job first_row).kind) (row_of job second_row) (row_of job first_row)

unfoldable pub has_line : List ℕ → Bool
has_line job = eqb (count_of job) 2

-- the body of a row
abbrev pub body_of : List ℕ → Row → List ℕ
body_of job row = bytes_at job row.place.0 row.size
