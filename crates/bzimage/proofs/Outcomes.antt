-- Each public function permits one outcome.
use mathlib.Core.Path.{refl, ap}
use Rattle.answers.specs.Outcome.{OneOutcome}
use Rattle.answers.proofs.Outcomes.{meet}
use Rattle.bzimage.proofs.header.header_with.Kinds as header_with_kinds
use Rattle.bzimage.proofs.header.header_with.Reads as header_with_reads
use Rattle.bzimage.proofs.setup_header.place.Kinds as place_kinds
use Rattle.bzimage.proofs.setup_header.place.Reads as place_reads
use Rattle.bzimage.proofs.parts.plan.Kinds as parts_plan_kinds
use Rattle.bzimage.proofs.parts.plan.Reads as parts_plan_reads
use Rattle.bzimage.proofs.parts.part.Kinds as parts_part_kinds
use Rattle.bzimage.proofs.parts.part.Reads as parts_part_reads
use Rattle.bzimage.proofs.protocol.line_limit.Kinds as line_limit_kinds
use Rattle.bzimage.proofs.protocol.line_limit.Reads as line_limit_reads
use Rattle.bzimage.proofs.protocol.ramdisk_end.Kinds as ramdisk_end_kinds
use Rattle.bzimage.proofs.protocol.ramdisk_end.Reads as ramdisk_end_reads
use Rattle.bzimage.proofs.protocol.has_64bit_entry.Kinds as has_64bit_entry_kinds
use Rattle.bzimage.proofs.protocol.has_64bit_entry.Reads as has_64bit_entry_reads
use Rattle.bzimage.proofs.protocol.runtime_memory.Kinds as runtime_memory_kinds
use Rattle.bzimage.proofs.protocol.runtime_memory.Reads as runtime_memory_reads

pub place_one : OneOutcome 0 place_kinds.ps place_kinds.r place_reads.Post
place_one κs a z z' ws ws' p q = (ap (λ n. record { 0 = n }) (meet p q), refl)

pub header_with_one : OneOutcome 1 header_with_kinds.ps header_with_kinds.r header_with_reads.Post
header_with_one κs a z z' ws ws' p q = (meet p q, refl)

pub parts_plan_one : OneOutcome 2 parts_plan_kinds.ps parts_plan_kinds.r parts_plan_reads.Post
parts_plan_one κs a z z' ws ws' p q = (meet p q, refl)

pub parts_part_one : OneOutcome 1 parts_part_kinds.ps parts_part_kinds.r parts_part_reads.Post
parts_part_one κs a z z' ws ws' p q = (meet p q, refl)

pub line_limit_one : OneOutcome 1 line_limit_kinds.ps line_limit_kinds.r line_limit_reads.Post
line_limit_one κs a z z' ws ws' p q = (meet p.value q.value, refl)

pub ramdisk_end_one : OneOutcome 1 ramdisk_end_kinds.ps ramdisk_end_kinds.r ramdisk_end_reads.Post
ramdisk_end_one κs a z z' ws ws' p q = (meet p.value q.value, refl)

pub has_64bit_entry_one : OneOutcome 1 has_64bit_entry_kinds.ps has_64bit_entry_kinds.r has_64bit_entry_reads.Post
has_64bit_entry_one κs a z z' ws ws' p q = (meet p q, refl)

pub runtime_memory_one : OneOutcome 1 runtime_memory_kinds.ps runtime_memory_kinds.r runtime_memory_reads.Post
runtime_memory_one κs a z z' ws ws' p q = (meet p q, refl)
