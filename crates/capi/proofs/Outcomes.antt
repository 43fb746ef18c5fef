-- Each function permits one outcome.
use mathlib.Core.Path.{◌≡◌, refl}
use Rattle.answers.specs.Outcome.{OneOutcome}
use Rattle.answers.proofs.Outcomes.{meet, first}
use Rattle.capi.proofs.entries.rekusoyen_raw_load.Kinds as load_kinds
use Rattle.capi.proofs.entries.rekusoyen_raw_load.Reads as load_reads
use Rattle.capi.proofs.entries.rekusoyen_raw_plan.Kinds as plan_kinds
use Rattle.capi.proofs.entries.rekusoyen_raw_plan.Reads as plan_reads
use Rattle.capi.proofs.entries.rekusoyen_raw_part.Kinds as part_kinds
use Rattle.capi.proofs.entries.rekusoyen_raw_part.Reads as part_reads
use Rattle.capi.proofs.entries.rekusoyen_kind.Kinds as kind_kinds
use Rattle.capi.proofs.entries.rekusoyen_kind.Reads as kind_reads
use Rattle.capi.proofs.entries.rekusoyen_setup_header.Kinds as setup_header_kinds
use Rattle.capi.proofs.entries.rekusoyen_setup_header.Reads as setup_header_reads
use Rattle.capi.proofs.entries.memory_by.Kinds as memory_by_kinds
use Rattle.capi.proofs.entries.memory_by.Reads as memory_by_reads
use Rattle.capi.proofs.notes.rekusoyen_raw_elf_note.Kinds as elf_note_kinds
use Rattle.capi.proofs.notes.rekusoyen_raw_elf_note.Reads as elf_note_reads
use Rattle.capi.proofs.options.ask_format.Kinds as ask_format_kinds
use Rattle.capi.proofs.options.ask_format.Reads as ask_format_reads
use Rattle.capi.proofs.options.options_of.Kinds as options_of_kinds
use Rattle.capi.proofs.options.options_of.Reads as options_of_reads
use Rattle.capi.proofs.options.of_call.Kinds as of_call_kinds
use Rattle.capi.proofs.options.of_call.Reads as of_call_reads
use Rattle.capi.proofs.places.put.Kinds as put_kinds
use Rattle.capi.proofs.places.put.Reads as put_reads
use Rattle.capi.proofs.results.check_number.Kinds as check_number_kinds
use Rattle.capi.proofs.results.check_number.Reads as check_number_reads
use Rattle.capi.proofs.results.kernel_numbers.Kinds as kernel_numbers_kinds
use Rattle.capi.proofs.results.kernel_numbers.Reads as kernel_numbers_reads
use Rattle.capi.proofs.steps.rekusoyen_raw_begin.Kinds as begin_kinds
use Rattle.capi.proofs.steps.rekusoyen_raw_begin.Reads as begin_reads
use Rattle.capi.proofs.steps.rekusoyen_raw_step.Kinds as step_kinds
use Rattle.capi.proofs.steps.rekusoyen_raw_step.Reads as step_reads

-- two tuples, part by part
pub both : {A B : Type 0} {x y : A} {u v : B} → x ≡ y → u ≡ v → ◌≡◌ {A = A × B} (x, u) (y, v)
both e f = rw (e, f)

-- a part that is not lent to be changed
pub over : {A B : Type 0} {u : A} {x y : B} → x ≡ y → ◌≡◌ {A = A × B} (u, x) (u, y)
over e = rw e

pub load_one : OneOutcome 4 load_kinds.ps load_kinds.r load_reads.Post
load_one κs a z z' ws ws' p q =
    (meet p.answer q.answer, both (meet p.memory q.memory) (over (over (over (over (over (over (first (meet p.told q.told)))))))))

pub plan_one : OneOutcome 3 plan_kinds.ps plan_kinds.r plan_reads.Post
plan_one κs a z z' ws ws' p q = (meet p.answer q.answer, over (over (over (over (over (over (over (first (meet p.told q.told)))))))))

pub part_one : OneOutcome 3 part_kinds.ps part_kinds.r part_reads.Post
part_one κs a z z' ws ws' p q = (meet p.answer q.answer, over (over (over (over (over (over (over (first (meet p.told q.told)))))))))

pub kind_one : OneOutcome 1 kind_kinds.ps kind_kinds.r kind_reads.Post
kind_one κs a z z' ws ws' p q = (meet p q, refl)

pub setup_header_one : OneOutcome 2 setup_header_kinds.ps setup_header_kinds.r setup_header_reads.Post
setup_header_one κs a z z' ws ws' p q = (meet p.answer q.answer, over (over (first (meet p.bytes q.bytes))))

pub elf_note_one : OneOutcome 2 elf_note_kinds.ps elf_note_kinds.r elf_note_reads.Post
elf_note_one κs a z z' ws ws' p q = (meet p.answer q.answer, over (over (over (first (meet p.told q.told)))))

pub begin_one : OneOutcome 1 begin_kinds.ps begin_kinds.r begin_reads.Post
begin_one κs a z z' ws ws' p q = (meet p.answer q.answer, first (meet p.state q.state))

pub step_one : OneOutcome 5 step_kinds.ps step_kinds.r step_reads.Post
step_one κs a z z' ws ws' p q =
    (meet p.answer q.answer, both (meet p.memory q.memory) (over (over (both (meet p.state q.state) (over (first (meet p.told q.told)))))))

-- what the entry points of other crates are made with

pub memory_by_one : OneOutcome 1 memory_by_kinds.ps memory_by_kinds.r memory_by_reads.Post
memory_by_one κs a z z' ws ws' p q = (meet p q, refl)

pub ask_format_one : OneOutcome 0 ask_format_kinds.ps ask_format_kinds.r ask_format_reads.Post
ask_format_one κs a z z' ws ws' p q = (meet p q, refl)

pub options_of_one : OneOutcome 0 options_of_kinds.ps options_of_kinds.r options_of_reads.Post
options_of_one κs a z z' ws ws' p q = (meet p q, refl)

pub of_call_one : OneOutcome 0 of_call_kinds.ps of_call_kinds.r of_call_reads.Post
of_call_one κs a z z' ws ws' p q = (meet p q, refl)

pub kernel_numbers_one : OneOutcome 0 kernel_numbers_kinds.ps kernel_numbers_kinds.r kernel_numbers_reads.Post
kernel_numbers_one κs a z z' ws ws' p q = (meet p q, refl)

pub put_one : OneOutcome 2 put_kinds.ps put_kinds.r put_reads.Post
put_one κs a z z' ws ws' p q = (refl, first (meet p q))

pub check_number_one : OneOutcome 0 check_number_kinds.ps check_number_kinds.r check_number_reads.Post
check_number_one κs a z z' ws ws' p q = (meet p q, refl)
