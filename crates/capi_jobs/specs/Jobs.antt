-- The entry point of a job.
use Rattle.std.specs.Prelude.{ℕ, ◌≡◌, List, eqb, length}
use Rattle.desk.specs.Printing.{printed, output_of}
use Rattle.desk.specs.Work.{guest_size}
use Rattle.capi.specs.Values.{number_where, left_where}

-- how many bytes take the text of a job
abbrev pub text_size : ℕ
text_size = 80

-- a list of another size is refused, and left as it was; else it has what the desk program prints, and zeros after it
pub record JobCall (job text : List ℕ) (r : ℕ) (left : List ℕ) : Type 0 where
  pub answer : r ≡ number_where (eqb (length text) text_size) 0
  pub bytes : left ≡ left_where (eqb (length text) text_size) (output_of (printed job guest_size)).bytes text
