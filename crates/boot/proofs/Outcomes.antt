-- Each public function permits one outcome.
use mathlib.Core.Path.{refl}
use Rattle.answers.specs.Outcome.{OneOutcome}
use Rattle.answers.proofs.Outcomes.{meet, first}
use Rattle.boot.proofs.pieces.line_limit.Kinds as line_limit_kinds
use Rattle.boot.proofs.pieces.line_limit.Reads as line_limit_reads
use Rattle.boot.proofs.pieces.check_line.Kinds as check_line_kinds
use Rattle.boot.proofs.pieces.check_line.Reads as check_line_reads
use Rattle.boot.proofs.putting.put.Kinds as put_kinds
use Rattle.boot.proofs.putting.put.Reads as put_reads
use Rattle.boot.proofs.pvh.plan.Kinds as pvh_plan_kinds
use Rattle.boot.proofs.pvh.plan.Reads as pvh_plan_reads
use Rattle.boot.proofs.pvh.load.Kinds as pvh_load_kinds
use Rattle.boot.proofs.pvh.load.Reads as pvh_load_reads
use Rattle.boot.proofs.tree.plan.Kinds as tree_plan_kinds
use Rattle.boot.proofs.tree.plan.Reads as tree_plan_reads
use Rattle.boot.proofs.tree.load.Kinds as tree_load_kinds
use Rattle.boot.proofs.tree.load.Reads as tree_load_reads
use Rattle.boot.proofs.zero_page.ramdisk_end.Kinds as ramdisk_end_kinds
use Rattle.boot.proofs.zero_page.ramdisk_end.Reads as ramdisk_end_reads
use Rattle.boot.proofs.zero_page.plan.Kinds as zero_page_plan_kinds
use Rattle.boot.proofs.zero_page.plan.Reads as zero_page_plan_reads
use Rattle.boot.proofs.zero_page.load.Kinds as zero_page_load_kinds
use Rattle.boot.proofs.zero_page.load.Reads as zero_page_load_reads

pub line_limit_one : OneOutcome 1 line_limit_kinds.ps line_limit_kinds.r line_limit_reads.Post
line_limit_one κs a z z' ws ws' p q = (meet p.value q.value, refl)

pub check_line_one : OneOutcome 1 check_line_kinds.ps check_line_kinds.r check_line_reads.Post
check_line_one κs a z z' ws ws' p q = (meet p.checked q.checked, refl)

pub put_one : OneOutcome 2 put_kinds.ps put_kinds.r put_reads.Post
put_one κs a z z' ws ws' p q = (meet p.answer q.answer, first (meet p.memory q.memory))

pub pvh_plan_one : OneOutcome 5 pvh_plan_kinds.ps pvh_plan_kinds.r pvh_plan_reads.Post
pvh_plan_one κs a z z' ws ws' p q = (meet p q, refl)

pub pvh_load_one : OneOutcome 6 pvh_load_kinds.ps pvh_load_kinds.r pvh_load_reads.Post
pvh_load_one κs a z z' ws ws' p q = (meet p.answer q.answer, first (meet p.memory q.memory))

pub tree_plan_one : OneOutcome 4 tree_plan_kinds.ps tree_plan_kinds.r tree_plan_reads.Post
tree_plan_one κs a z z' ws ws' p q = (meet p q, refl)

pub tree_load_one : OneOutcome 5 tree_load_kinds.ps tree_load_kinds.r tree_load_reads.Post
tree_load_one κs a z z' ws ws' p q = (meet p.answer q.answer, first (meet p.memory q.memory))

pub ramdisk_end_one : OneOutcome 1 ramdisk_end_kinds.ps ramdisk_end_kinds.r ramdisk_end_reads.Post
ramdisk_end_one κs a z z' ws ws' p q = (meet p q, refl)

pub zero_page_plan_one : OneOutcome 5 zero_page_plan_kinds.ps zero_page_plan_kinds.r zero_page_plan_reads.Post
zero_page_plan_one κs a z z' ws ws' p q = (meet p q, refl)

pub zero_page_load_one : OneOutcome 6 zero_page_load_kinds.ps zero_page_load_kinds.r zero_page_load_reads.Post
zero_page_load_one κs a z z' ws ws' p q = (meet p.answer q.answer, first (meet p.memory q.memory))
