-- A number is given exactly when its turn comes and its condition holds, of an answer and the row of tests that it is
-- given by; 0 stands for an accepted call.
use Rattle.std.specs.Prelude.{ℕ, ◌+◌, ◌≡◌, List, length, Ok, Err, Result}
use Rattle.answers.specs.Catalogue.{number_of}
use Rattle.answers.specs.Tests.{Test, AllHold, FirstFails, Check, pass}
use Rattle.answers.specs.declared.Refusal.{Refusal}
use Rattle.cmdline.specs.Insertion.{call_number}
use Rattle.cmdline.specs.Text.{Text}
use Rattle.cmdline.specs.Writing.{whole, write_tests, written_number}

-- accepted exactly where every test holds, refused exactly by the first that fails
pub record AnswersBy (ts : List Test) (a : Check) : Type 0 where
  pub accepted_where : AllHold ts → a ≡ pass
  pub where_accepted : a ≡ pass → AllHold ts
  pub refused_where : (refusal : Refusal) → FirstFails refusal ts → a ≡ Err refusal
  pub where_refused : (refusal : Refusal) → a ≡ Err refusal → FirstFails refusal ts
  pub accepted_number : AllHold ts → call_number a ≡ 0
  pub refused_number : (refusal : Refusal) → FirstFails refusal ts → call_number a ≡ number_of refusal

-- the same of writing a line into room for so many bytes
pub record WritesBy (t : Text) (room : ℕ) (w : Result ℕ Refusal) : Type 0 where
  pub written_where : AllHold (write_tests t room) → w ≡ Ok (length (whole t) + 1)
  pub where_written : (n : ℕ) → w ≡ Ok n → AllHold (write_tests t room)
  pub refused_where : (refusal : Refusal) → FirstFails refusal (write_tests t room) → w ≡ Err refusal
  pub where_refused : (refusal : Refusal) → w ≡ Err refusal → FirstFails refusal (write_tests t room)
  pub number_written : AllHold (write_tests t room) → written_number w ≡ 0
  pub refused_number : (refusal : Refusal) → FirstFails refusal (write_tests t room)
      → written_number w ≡ number_of refusal
