-- Each function permits one outcome.
use mathlib.Core.Path.{refl}
use Rattle.answers.specs.Outcome.{OneOutcome}
use Rattle.answers.proofs.Outcomes.{meet, first}
use Rattle.capi.proofs.Outcomes.{both, over}
use Rattle.capi_pages.proofs.pages.rekusoyen_page_build.Kinds as page_build_kinds
use Rattle.capi_pages.proofs.pages.rekusoyen_page_build.Reads as page_build_reads
use Rattle.capi_pages.proofs.pages.rekusoyen_raw_page_read.Kinds as page_read_kinds
use Rattle.capi_pages.proofs.pages.rekusoyen_raw_page_read.Reads as page_read_reads
use Rattle.capi_pages.proofs.starts.rekusoyen_start_write.Kinds as start_write_kinds
use Rattle.capi_pages.proofs.starts.rekusoyen_start_write.Reads as start_write_reads
use Rattle.capi_pages.proofs.starts.rekusoyen_start_check.Kinds as start_check_kinds
use Rattle.capi_pages.proofs.starts.rekusoyen_start_check.Reads as start_check_reads
use Rattle.capi_pages.proofs.starts.rekusoyen_raw_start_block.Kinds as start_block_kinds
use Rattle.capi_pages.proofs.starts.rekusoyen_raw_start_block.Reads as start_block_reads
use Rattle.capi_pages.proofs.starts.rekusoyen_start_modules.Kinds as start_modules_kinds
use Rattle.capi_pages.proofs.starts.rekusoyen_start_modules.Reads as start_modules_reads
use Rattle.capi_pages.proofs.starts.rekusoyen_start_ranges.Kinds as start_ranges_kinds
use Rattle.capi_pages.proofs.starts.rekusoyen_start_ranges.Reads as start_ranges_reads

pub page_build_one : OneOutcome 3 page_build_kinds.ps page_build_kinds.r page_build_reads.Post
page_build_one κs a z z' ws ws' p q = (meet p.answer q.answer, first (meet p.page q.page))

pub page_read_one : OneOutcome 4 page_read_kinds.ps page_read_kinds.r page_read_reads.Post
page_read_one κs a z z' ws ws' p q =
    (meet p.answer q.answer, over (both (meet p.told q.told) (both (meet p.map q.map) (first (meet p.setup q.setup)))))

pub start_write_one : OneOutcome 4 start_write_kinds.ps start_write_kinds.r start_write_reads.Post
start_write_one κs a z z' ws ws' p q = (meet p.answer q.answer, first (meet p.memory q.memory))

pub start_check_one : OneOutcome 2 start_check_kinds.ps start_check_kinds.r start_check_reads.Post
start_check_one κs a z z' ws ws' p q = (meet p q, refl)

pub start_block_one : OneOutcome 2 start_block_kinds.ps start_block_kinds.r start_block_reads.Post
start_block_one κs a z z' ws ws' p q = (meet p.answer q.answer, over (over (first (meet p.told q.told))))

pub start_modules_one : OneOutcome 2 start_modules_kinds.ps start_modules_kinds.r start_modules_reads.Post
start_modules_one κs a z z' ws ws' p q = (refl, over (over (first (meet p q))))

pub start_ranges_one : OneOutcome 2 start_ranges_kinds.ps start_ranges_kinds.r start_ranges_reads.Post
start_ranges_one κs a z z' ws ws' p q = (refl, over (over (first (meet p q))))
