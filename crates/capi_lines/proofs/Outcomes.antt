-- Each function permits one outcome.
use mathlib.Core.Path.{refl}
use Rattle.answers.specs.Outcome.{OneOutcome}
use Rattle.answers.proofs.Outcomes.{meet, first}
use Rattle.capi.proofs.Outcomes.{both, over}
use Rattle.capi_lines.proofs.rekusoyen_line_new.Kinds as line_new_kinds
use Rattle.capi_lines.proofs.rekusoyen_line_new.Reads as line_new_reads
use Rattle.capi_lines.proofs.rekusoyen_line_try_from.Kinds as line_try_from_kinds
use Rattle.capi_lines.proofs.rekusoyen_line_try_from.Reads as line_try_from_reads
use Rattle.capi_lines.proofs.rekusoyen_line_insert.Kinds as line_insert_kinds
use Rattle.capi_lines.proofs.rekusoyen_line_insert.Reads as line_insert_reads
use Rattle.capi_lines.proofs.rekusoyen_line_insert_multiple.Kinds as line_insert_multiple_kinds
use Rattle.capi_lines.proofs.rekusoyen_line_insert_multiple.Reads as line_insert_multiple_reads
use Rattle.capi_lines.proofs.rekusoyen_line_insert_str.Kinds as line_insert_str_kinds
use Rattle.capi_lines.proofs.rekusoyen_line_insert_str.Reads as line_insert_str_reads
use Rattle.capi_lines.proofs.rekusoyen_line_insert_init_args.Kinds as line_insert_init_args_kinds
use Rattle.capi_lines.proofs.rekusoyen_line_insert_init_args.Reads as line_insert_init_args_reads
use Rattle.capi_lines.proofs.rekusoyen_line_add_virtio_mmio_device.Kinds as line_add_virtio_mmio_device_kinds
use Rattle.capi_lines.proofs.rekusoyen_line_add_virtio_mmio_device.Reads as line_add_virtio_mmio_device_reads
use Rattle.capi_lines.proofs.rekusoyen_raw_line_as_cstring.Kinds as line_as_cstring_kinds
use Rattle.capi_lines.proofs.rekusoyen_raw_line_as_cstring.Reads as line_as_cstring_reads
use Rattle.capi_lines.proofs.rekusoyen_raw_line_equal.Kinds as line_equal_kinds
use Rattle.capi_lines.proofs.rekusoyen_raw_line_equal.Reads as line_equal_reads
use Rattle.capi_lines.proofs.line_words.rekusoyen_raw_line_words.Kinds as line_words_kinds
use Rattle.capi_lines.proofs.line_words.rekusoyen_raw_line_words.Reads as line_words_reads
use Rattle.capi_lines.proofs.rekusoyen_line_load.Kinds as line_load_kinds
use Rattle.capi_lines.proofs.rekusoyen_line_load.Reads as line_load_reads
use Rattle.capi_lines.proofs.rekusoyen_line_plan.Kinds as line_plan_kinds
use Rattle.capi_lines.proofs.rekusoyen_line_plan.Reads as line_plan_reads

pub line_new_one : OneOutcome 1 line_new_kinds.ps line_new_kinds.r line_new_reads.Post
line_new_one κs a z z' ws ws' p q = (meet p.answer q.answer, first (meet p.line q.line))

pub line_try_from_one : OneOutcome 2 line_try_from_kinds.ps line_try_from_kinds.r line_try_from_reads.Post
line_try_from_one κs a z z' ws ws' p q = (meet p.answer q.answer, first (meet p.line q.line))

pub line_insert_one : OneOutcome 3 line_insert_kinds.ps line_insert_kinds.r line_insert_reads.Post
line_insert_one κs a z z' ws ws' p q = (meet p.answer q.answer, first (meet p.line q.line))

pub line_insert_multiple_one : OneOutcome 4 line_insert_multiple_kinds.ps line_insert_multiple_kinds.r line_insert_multiple_reads.Post
line_insert_multiple_one κs a z z' ws ws' p q = (meet p.answer q.answer, first (meet p.line q.line))

pub line_insert_str_one : OneOutcome 2 line_insert_str_kinds.ps line_insert_str_kinds.r line_insert_str_reads.Post
line_insert_str_one κs a z z' ws ws' p q = (meet p.answer q.answer, first (meet p.line q.line))

pub line_insert_init_args_one : OneOutcome 2 line_insert_init_args_kinds.ps line_insert_init_args_kinds.r line_insert_init_args_reads.Post
line_insert_init_args_one κs a z z' ws ws' p q = (meet p.answer q.answer, first (meet p.line q.line))

pub line_add_virtio_mmio_device_one : OneOutcome 1 line_add_virtio_mmio_device_kinds.ps line_add_virtio_mmio_device_kinds.r line_add_virtio_mmio_device_reads.Post
line_add_virtio_mmio_device_one κs a z z' ws ws' p q = (meet p.answer q.answer, first (meet p.line q.line))

pub line_as_cstring_one : OneOutcome 3 line_as_cstring_kinds.ps line_as_cstring_kinds.r line_as_cstring_reads.Post
line_as_cstring_one κs a z z' ws ws' p q = (meet p.answer q.answer, over (both (meet p.text q.text) (first (meet p.told q.told))))

pub line_equal_one : OneOutcome 3 line_equal_kinds.ps line_equal_kinds.r line_equal_reads.Post
line_equal_one κs a z z' ws ws' p q = (meet p.answer q.answer, over (over (first (meet p.told q.told))))

pub line_load_one : OneOutcome 3 line_load_kinds.ps line_load_kinds.r line_load_reads.Post
line_load_one κs a z z' ws ws' p q = (meet p.answer q.answer, first (meet p.memory q.memory))

pub line_plan_one : OneOutcome 2 line_plan_kinds.ps line_plan_kinds.r line_plan_reads.Post
line_plan_one κs a z z' ws ws' p q = (meet p q, refl)

pub line_words_one : OneOutcome 5 line_words_kinds.ps line_words_kinds.r line_words_reads.Post
line_words_one κs a z z' ws ws' p q = (
  meet p.answer q.answer,
  over (both (meet p.written.starts_at q.written.starts_at)
      (both (meet p.written.ends_at q.written.ends_at) (both (meet p.written.splits_at q.written.splits_at) (first (meet p.told q.told))))),
)
