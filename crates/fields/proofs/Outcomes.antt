-- Each public function permits one outcome.
use mathlib.Core.Path.{refl}
use Rattle.answers.specs.Outcome.{OneOutcome}
use Rattle.answers.proofs.Outcomes.{meet, first}
use Rattle.fields.proofs.numbers.byte_at.Kinds as byte_at_kinds
use Rattle.fields.proofs.numbers.byte_at.Reads as byte_at_reads
use Rattle.fields.proofs.numbers.bytes_of.Kinds as bytes_of_kinds
use Rattle.fields.proofs.numbers.bytes_of.Reads as bytes_of_reads
use Rattle.fields.proofs.numbers.read_le.Kinds as read_le_kinds
use Rattle.fields.proofs.numbers.read_le.Reads as read_le_reads
use Rattle.fields.proofs.numbers.read_u16.Kinds as read_u16_kinds
use Rattle.fields.proofs.numbers.read_u16.Reads as read_u16_reads
use Rattle.fields.proofs.numbers.read_u32.Kinds as read_u32_kinds
use Rattle.fields.proofs.numbers.read_u32.Reads as read_u32_reads
use Rattle.fields.proofs.numbers.read_u64.Kinds as read_u64_kinds
use Rattle.fields.proofs.numbers.read_u64.Reads as read_u64_reads
use Rattle.fields.proofs.numbers.put_le.Kinds as put_le_kinds
use Rattle.fields.proofs.numbers.put_le.Reads as put_le_reads
use Rattle.fields.proofs.tags.is_tag.Kinds as is_tag_kinds
use Rattle.fields.proofs.tags.is_tag.Reads as is_tag_reads
use Rattle.fields.proofs.ranges.within.Kinds as within_kinds
use Rattle.fields.proofs.ranges.within.Reads as within_reads
use Rattle.fields.proofs.ranges.sum_fits.Kinds as sum_fits_kinds
use Rattle.fields.proofs.ranges.sum_fits.Reads as sum_fits_reads
use Rattle.fields.proofs.ranges.sum_up_to.Kinds as sum_up_to_kinds
use Rattle.fields.proofs.ranges.sum_up_to.Reads as sum_up_to_reads
use Rattle.fields.proofs.rounding.align_up.Kinds as align_up_kinds
use Rattle.fields.proofs.rounding.align_up.Reads as align_up_reads
use Rattle.fields.proofs.rows.put_rows.Kinds as put_rows_kinds
use Rattle.fields.proofs.rows.put_rows.Reads as put_rows_reads
use Rattle.fields.proofs.rows.read_rows.Kinds as read_rows_kinds
use Rattle.fields.proofs.rows.read_rows.Reads as read_rows_reads
use Rattle.fields.proofs.copying.copy.Kinds as copy_kinds
use Rattle.fields.proofs.copying.copy.Reads as copy_reads
use Rattle.fields.proofs.numbers.is_within.Kinds as is_within_kinds
use Rattle.fields.proofs.numbers.is_within.Reads as is_within_reads
use Rattle.fields.proofs.ranges.are_apart.Kinds as are_apart_kinds
use Rattle.fields.proofs.ranges.are_apart.Reads as are_apart_reads
use Rattle.fields.proofs.rows.are_rows.Kinds as are_rows_kinds
use Rattle.fields.proofs.rows.are_rows.Reads as are_rows_reads
use Rattle.fields.proofs.rows.field_width.Kinds as field_width_kinds
use Rattle.fields.proofs.rows.field_width.Reads as field_width_reads
use Rattle.fields.proofs.copying.put.Kinds as put_kinds
use Rattle.fields.proofs.copying.put.Reads as put_reads
use Rattle.fields.proofs.copying.clear.Kinds as clear_kinds
use Rattle.fields.proofs.copying.clear.Reads as clear_reads

pub byte_at_one : OneOutcome 1 byte_at_kinds.ps byte_at_kinds.r byte_at_reads.Post
byte_at_one κs a z z' ws ws' p q = (meet p.value q.value, refl)

pub bytes_of_one : OneOutcome 0 bytes_of_kinds.ps bytes_of_kinds.r bytes_of_reads.Post
bytes_of_one κs a z z' ws ws' p q = (meet p q, refl)

pub read_le_one : OneOutcome 1 read_le_kinds.ps read_le_kinds.r read_le_reads.Post
read_le_one κs a z z' ws ws' p q = (meet p.value q.value, refl)

pub read_u16_one : OneOutcome 1 read_u16_kinds.ps read_u16_kinds.r read_u16_reads.Post
read_u16_one κs a z z' ws ws' p q = (meet p.value q.value, refl)

pub read_u32_one : OneOutcome 1 read_u32_kinds.ps read_u32_kinds.r read_u32_reads.Post
read_u32_one κs a z z' ws ws' p q = (meet p.value q.value, refl)

pub read_u64_one : OneOutcome 1 read_u64_kinds.ps read_u64_kinds.r read_u64_reads.Post
read_u64_one κs a z z' ws ws' p q = (meet p.value q.value, refl)

pub put_le_one : OneOutcome 1 put_le_kinds.ps put_le_kinds.r put_le_reads.Post
put_le_one κs a z z' ws ws' p q = (refl, first (meet p q))

pub is_tag_one : OneOutcome 2 is_tag_kinds.ps is_tag_kinds.r is_tag_reads.Post
is_tag_one κs a z z' ws ws' p q = (meet p q, refl)

pub within_one : OneOutcome 0 within_kinds.ps within_kinds.r within_reads.Post
within_one κs a z z' ws ws' p q = (meet p q, refl)

pub sum_fits_one : OneOutcome 0 sum_fits_kinds.ps sum_fits_kinds.r sum_fits_reads.Post
sum_fits_one κs a z z' ws ws' p q = (meet p q, refl)

pub sum_up_to_one : OneOutcome 0 sum_up_to_kinds.ps sum_up_to_kinds.r sum_up_to_reads.Post
sum_up_to_one κs a z z' ws ws' p q = (meet p q, refl)

pub align_up_one : OneOutcome 0 align_up_kinds.ps align_up_kinds.r align_up_reads.Post
align_up_one κs a z z' ws ws' p q = (meet p q, refl)

pub put_rows_one : OneOutcome 3 put_rows_kinds.ps put_rows_kinds.r put_rows_reads.Post
put_rows_one κs a z z' ws ws' p q = (refl, first (meet p q))

pub read_rows_one : OneOutcome 3 read_rows_kinds.ps read_rows_kinds.r read_rows_reads.Post
read_rows_one κs a z z' ws ws' p q = (refl, first (meet p q))

pub copy_one : OneOutcome 2 copy_kinds.ps copy_kinds.r copy_reads.Post
copy_one κs a z z' ws ws' p q = (refl, first (meet p q))

pub is_within_one : OneOutcome 0 is_within_kinds.ps is_within_kinds.r is_within_reads.Post
is_within_one κs a z z' ws ws' p q = (meet p q, refl)

pub are_apart_one : OneOutcome 0 are_apart_kinds.ps are_apart_kinds.r are_apart_reads.Post
are_apart_one κs a z z' ws ws' p q = (meet p q, refl)

pub are_rows_one : OneOutcome 2 are_rows_kinds.ps are_rows_kinds.r are_rows_reads.Post
are_rows_one κs a z z' ws ws' p q = (meet p q, refl)

pub put_one : OneOutcome 2 put_kinds.ps put_kinds.r put_reads.Post
put_one κs a z z' ws ws' p q = (refl, first (meet p q))

pub field_width_one : OneOutcome 1 field_width_kinds.ps field_width_kinds.r field_width_reads.Post
field_width_one κs a z z' ws ws' p q = (meet p q, refl)

pub clear_one : OneOutcome 1 clear_kinds.ps clear_kinds.r clear_reads.Post
clear_one κs a z z' ws ws' p q = (refl, first (meet p q))
