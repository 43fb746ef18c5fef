-- Each public function permits one outcome.
use mathlib.Core.Path.{refl}
use Rattle.answers.specs.Outcome.{OneOutcome}
use Rattle.answers.proofs.Outcomes.{meet}
use Rattle.placing.proofs.PlacingLaws.{lowest_one, highest_one, order_one}
use Rattle.placing.proofs.first_of.Kinds as first_of_kinds
use Rattle.placing.proofs.first_of.Reads as first_of_reads
use Rattle.placing.proofs.fit.Kinds as fit_kinds
use Rattle.placing.proofs.fit.Reads as fit_reads
use Rattle.placing.proofs.place.Kinds as place_kinds
use Rattle.placing.proofs.place.Reads as place_reads
use Rattle.placing.proofs.place_high.Kinds as place_high_kinds
use Rattle.placing.proofs.place_high.Reads as place_high_reads

pub first_of_one : OneOutcome 0 first_of_kinds.ps first_of_kinds.r first_of_reads.Post
first_of_one κs a z z' ws ws' p q = (meet p q, refl)

pub fit_one : OneOutcome 2 fit_kinds.ps fit_kinds.r fit_reads.Post
fit_one κs a z z' ws ws' p q = (order_one a.0 p q, refl)

pub place_one : OneOutcome 2 place_kinds.ps place_kinds.r place_reads.Post
place_one κs a z z' ws ws' p q = (lowest_one p q, refl)

pub place_high_one : OneOutcome 2 place_high_kinds.ps place_high_kinds.r place_high_reads.Post
place_high_one κs a z z' ws ws' p q = (highest_one p q, refl)
