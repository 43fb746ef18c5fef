-- Each public function permits one outcome.
use mathlib.Core.Path.{refl}
use Rattle.answers.specs.Outcome.{OneOutcome}
use Rattle.answers.proofs.Outcomes.{meet}
use Rattle.elf.proofs.parse_elf_note.Kinds as parse_elf_note_kinds
use Rattle.elf.proofs.parse_elf_note.Reads as parse_elf_note_reads
use Rattle.elf.proofs.parts.plan.Kinds as parts_plan_kinds
use Rattle.elf.proofs.parts.plan.Reads as parts_plan_reads
use Rattle.elf.proofs.parts.count.Kinds as parts_count_kinds
use Rattle.elf.proofs.parts.count.Reads as parts_count_reads
use Rattle.elf.proofs.parts.of_header.Kinds as of_header_kinds
use Rattle.elf.proofs.parts.of_header.Reads as of_header_reads
use Rattle.elf.proofs.parts.table.Kinds as table_kinds
use Rattle.elf.proofs.parts.table.Reads as table_reads
use Rattle.elf.proofs.parts.part.Kinds as parts_part_kinds
use Rattle.elf.proofs.parts.part.Reads as parts_part_reads
use Rattle.elf.proofs.memory.memory.Kinds as memory_kinds
use Rattle.elf.proofs.memory.memory.Reads as memory_reads

pub parse_elf_note_one : OneOutcome 1 parse_elf_note_kinds.ps parse_elf_note_kinds.r parse_elf_note_reads.Post
parse_elf_note_one κs a z z' ws ws' p q = (meet p q, refl)

pub parts_plan_one : OneOutcome 2 parts_plan_kinds.ps parts_plan_kinds.r parts_plan_reads.Post
parts_plan_one κs a z z' ws ws' p q = (meet p q, refl)

pub parts_count_one : OneOutcome 1 parts_count_kinds.ps parts_count_kinds.r parts_count_reads.Post
parts_count_one κs a z z' ws ws' p q = (meet p q, refl)

pub parts_part_one : OneOutcome 1 parts_part_kinds.ps parts_part_kinds.r parts_part_reads.Post
parts_part_one κs a z z' ws ws' p q = (meet p q, refl)

pub of_header_one : OneOutcome 1 of_header_kinds.ps of_header_kinds.r of_header_reads.Post
of_header_one κs a z z' ws ws' p q = (meet p q, refl)

pub table_one : OneOutcome 1 table_kinds.ps table_kinds.r table_reads.Post
table_one κs a z z' ws ws' p q = (meet p q, refl)

pub memory_one : OneOutcome 1 memory_kinds.ps memory_kinds.r memory_reads.Post
memory_one κs a z z' ws ws' p q = (meet p q, refl)
