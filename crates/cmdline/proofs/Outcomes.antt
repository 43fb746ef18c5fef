-- Each public function permits one outcome: any two that its contract permits are the same.
use mathlib.Core.Path.{◌≡◌, refl, ap}
use contract.Lifetimes.{Lfts}
use denote.Triple.Clauses.{Lasts, at_exit}
use borrow.Fn.Kinds.{Dens, res_t, ended_of}
use Rattle.answers.specs.Outcome.{OneOutcome}
use Rattle.answers.proofs.Outcomes.{meet, first}
use Rattle.cmdline.proofs.Cmdline.new.Kinds as new_kinds
use Rattle.cmdline.proofs.Cmdline.new.Reads as new_reads
use Rattle.cmdline.proofs.Cmdline.try_from.Kinds as try_from_kinds
use Rattle.cmdline.proofs.Cmdline.try_from.Reads as try_from_reads
use Rattle.cmdline.proofs.Cmdline.insert.Kinds as insert_kinds
use Rattle.cmdline.proofs.Cmdline.insert.Reads as insert_reads
use Rattle.cmdline.proofs.Cmdline.insert_multiple.Kinds as insert_multiple_kinds
use Rattle.cmdline.proofs.Cmdline.insert_multiple.Reads as insert_multiple_reads
use Rattle.cmdline.proofs.Cmdline.insert_str.Kinds as insert_str_kinds
use Rattle.cmdline.proofs.Cmdline.insert_str.Reads as insert_str_reads
use Rattle.cmdline.proofs.Cmdline.insert_init_args.Kinds as insert_init_args_kinds
use Rattle.cmdline.proofs.Cmdline.insert_init_args.Reads as insert_init_args_reads
use Rattle.cmdline.proofs.Cmdline.add_virtio_mmio_device.Kinds as add_virtio_mmio_device_kinds
use Rattle.cmdline.proofs.Cmdline.add_virtio_mmio_device.Reads as add_virtio_mmio_device_reads
use Rattle.cmdline.proofs.Cmdline.as_cstring.Kinds as as_cstring_kinds
use Rattle.cmdline.proofs.Cmdline.as_cstring.Reads as as_cstring_reads
use Rattle.cmdline.proofs.Cmdline.boot_text.Kinds as boot_text_kinds
use Rattle.cmdline.proofs.Cmdline.boot_text.Reads as boot_text_reads
use Rattle.cmdline.proofs.Cmdline.init_text.Kinds as init_text_kinds
use Rattle.cmdline.proofs.Cmdline.init_text.Reads as init_text_reads
use Rattle.cmdline.proofs.CmdlinePartialEq.eq.Kinds as eq_kinds
use Rattle.cmdline.proofs.CmdlinePartialEq.eq.Reads as eq_reads
use Rattle.cmdline.proofs.in_place.insert.Kinds as in_place_insert_kinds
use Rattle.cmdline.proofs.in_place.insert.Reads as in_place_insert_reads
use Rattle.cmdline.proofs.in_place.insert_multiple.Kinds as in_place_insert_multiple_kinds
use Rattle.cmdline.proofs.in_place.insert_multiple.Reads as in_place_insert_multiple_reads
use Rattle.cmdline.proofs.in_place.insert_str.Kinds as in_place_insert_str_kinds
use Rattle.cmdline.proofs.in_place.insert_str.Reads as in_place_insert_str_reads
use Rattle.cmdline.proofs.in_place.insert_init_args.Kinds as in_place_insert_init_args_kinds
use Rattle.cmdline.proofs.in_place.insert_init_args.Reads as in_place_insert_init_args_reads
use Rattle.cmdline.proofs.in_place.add_virtio_mmio_device.Kinds as in_place_add_virtio_mmio_device_kinds
use Rattle.cmdline.proofs.in_place.add_virtio_mmio_device.Reads as in_place_add_virtio_mmio_device_reads
use Rattle.cmdline.proofs.sizes.is_capacity.Kinds as sizes_is_capacity_kinds
use Rattle.cmdline.proofs.sizes.is_capacity.Reads as sizes_is_capacity_reads
use Rattle.cmdline.proofs.sizes.fits.Kinds as sizes_fits_kinds
use Rattle.cmdline.proofs.sizes.fits.Reads as sizes_fits_reads
use Rattle.cmdline.proofs.sizes.size.Kinds as sizes_size_kinds
use Rattle.cmdline.proofs.sizes.size.Reads as sizes_size_reads
use Rattle.cmdline.proofs.sizes.Lengths.check.Kinds as lengths_check_kinds
use Rattle.cmdline.proofs.sizes.Lengths.check.Reads as lengths_check_reads
use Rattle.cmdline.proofs.writing.text_gate.Kinds as writing_text_gate_kinds
use Rattle.cmdline.proofs.writing.text_gate.Reads as writing_text_gate_reads
use Rattle.cmdline.proofs.writing.write.Kinds as writing_write_kinds
use Rattle.cmdline.proofs.writing.write.Reads as writing_write_reads
use Rattle.cmdline.proofs.writing.as_cstring.Kinds as writing_as_cstring_kinds
use Rattle.cmdline.proofs.writing.as_cstring.Reads as writing_as_cstring_reads
use Rattle.cmdline.proofs.writing.same_line.Kinds as writing_same_line_kinds
use Rattle.cmdline.proofs.writing.same_line.Reads as writing_same_line_reads
use Rattle.cmdline.proofs.digits.put_decimal.Kinds as digits_put_decimal_kinds
use Rattle.cmdline.proofs.digits.put_decimal.Reads as digits_put_decimal_reads

-- a tuple whose second part alone can differ
second : {A B : Type 0} {u : A} {x y : B} → x ≡ y → ◌≡◌ {A = A × B} (u, x) (u, y)
second {u = u} e = ap (λ b. (u, b)) e

pub new_one : OneOutcome 0 new_kinds.ps new_kinds.r new_reads.Post
new_one κs a z z' ws ws' p q = (meet p q, refl)

pub try_from_one : OneOutcome 1 try_from_kinds.ps try_from_kinds.r try_from_reads.Post
try_from_one κs a z z' ws ws' p q = (meet p q, refl)

pub insert_one : OneOutcome 3 insert_kinds.ps insert_kinds.r insert_reads.Post
insert_one κs a z z' ws ws' p q = (meet p.0.0 q.0.0, first (meet p.0.1 q.0.1))

pub insert_multiple_one : OneOutcome 4 insert_multiple_kinds.ps insert_multiple_kinds.r insert_multiple_reads.Post
insert_multiple_one κs a z z' ws ws' p q = (meet p.0.0 q.0.0, first (meet p.0.1 q.0.1))

pub insert_str_one : OneOutcome 2 insert_str_kinds.ps insert_str_kinds.r insert_str_reads.Post
insert_str_one κs a z z' ws ws' p q = (meet p.0.0 q.0.0, first (meet p.0.1 q.0.1))

pub insert_init_args_one : OneOutcome 2 insert_init_args_kinds.ps insert_init_args_kinds.r insert_init_args_reads.Post
insert_init_args_one κs a z z' ws ws' p q = (meet p.0.0 q.0.0, first (meet p.0.1 q.0.1))

pub add_virtio_mmio_device_one : OneOutcome 1 add_virtio_mmio_device_kinds.ps add_virtio_mmio_device_kinds.r add_virtio_mmio_device_reads.Post
add_virtio_mmio_device_one κs a z z' ws ws' p q = (meet p.0.0 q.0.0, first (meet p.0.1 q.0.1))

pub as_cstring_one : OneOutcome 2 as_cstring_kinds.ps as_cstring_kinds.r as_cstring_reads.Post
as_cstring_one κs a z z' ws ws' p q = (meet p.answer q.answer, second (first (meet p.bytes q.bytes)))

pub eq_one : OneOutcome 2 eq_kinds.ps eq_kinds.r eq_reads.Post
eq_one κs a z z' ws ws' p q = (meet p q, refl)

-- the texts of a line are returned as parts of it: their bytes are one
pub boot_text_one : (κs : Lfts 1) (a : Dens κs boot_text_kinds.ps) (z z' : (res_t boot_text_kinds.r κs).Denot)
    (ws ws' : Lasts (ended_of 1 boot_text_kinds.ps boot_text_kinds.r) κs a)
    → boot_text_reads.Post κs a z (at_exit (ended_of 1 boot_text_kinds.ps boot_text_kinds.r) κs a ws)
    → boot_text_reads.Post κs a z' (at_exit (ended_of 1 boot_text_kinds.ps boot_text_kinds.r) κs a ws') → z.now ≡ z'.now
boot_text_one κs a z z' ws ws' p q = meet p q

pub init_text_one : (κs : Lfts 1) (a : Dens κs init_text_kinds.ps) (z z' : (res_t init_text_kinds.r κs).Denot)
    (ws ws' : Lasts (ended_of 1 init_text_kinds.ps init_text_kinds.r) κs a)
    → init_text_reads.Post κs a z (at_exit (ended_of 1 init_text_kinds.ps init_text_kinds.r) κs a ws)
    → init_text_reads.Post κs a z' (at_exit (ended_of 1 init_text_kinds.ps init_text_kinds.r) κs a ws') → z.now ≡ z'.now
init_text_one κs a z z' ws ws' p q = meet p q

-- ---- in place, over lent buffers

pub in_place_insert_one : OneOutcome 3 in_place_insert_kinds.ps in_place_insert_kinds.r in_place_insert_reads.Post
in_place_insert_one κs a z z' ws ws' p q = (meet p.answer q.answer, first (meet p.bytes q.bytes))

pub in_place_insert_multiple_one : OneOutcome 4 in_place_insert_multiple_kinds.ps in_place_insert_multiple_kinds.r in_place_insert_multiple_reads.Post
in_place_insert_multiple_one κs a z z' ws ws' p q = (meet p.answer q.answer, first (meet p.bytes q.bytes))

pub in_place_insert_str_one : OneOutcome 2 in_place_insert_str_kinds.ps in_place_insert_str_kinds.r in_place_insert_str_reads.Post
in_place_insert_str_one κs a z z' ws ws' p q = (meet p.answer q.answer, first (meet p.bytes q.bytes))

pub in_place_insert_init_args_one : OneOutcome 2 in_place_insert_init_args_kinds.ps in_place_insert_init_args_kinds.r in_place_insert_init_args_reads.Post
in_place_insert_init_args_one κs a z z' ws ws' p q = (meet p.answer q.answer, first (meet p.bytes q.bytes))

pub in_place_add_virtio_mmio_device_one : OneOutcome 1 in_place_add_virtio_mmio_device_kinds.ps in_place_add_virtio_mmio_device_kinds.r in_place_add_virtio_mmio_device_reads.Post
in_place_add_virtio_mmio_device_one κs a z z' ws ws' p q = (meet p.answer q.answer, first (meet p.bytes q.bytes))

pub sizes_is_capacity_one : OneOutcome 0 sizes_is_capacity_kinds.ps sizes_is_capacity_kinds.r sizes_is_capacity_reads.Post
sizes_is_capacity_one κs a z z' ws ws' p q = (meet p q, refl)

pub sizes_fits_one : OneOutcome 0 sizes_fits_kinds.ps sizes_fits_kinds.r sizes_fits_reads.Post
sizes_fits_one κs a z z' ws ws' p q = (meet p q, refl)

pub sizes_size_one : OneOutcome 0 sizes_size_kinds.ps sizes_size_kinds.r sizes_size_reads.Post
sizes_size_one κs a z z' ws ws' p q = (meet p q, refl)

pub lengths_check_one : OneOutcome 0 lengths_check_kinds.ps lengths_check_kinds.r lengths_check_reads.Post
lengths_check_one κs a z z' ws ws' p q = (meet p q, refl)

pub writing_text_gate_one : OneOutcome 2 writing_text_gate_kinds.ps writing_text_gate_kinds.r writing_text_gate_reads.Post
writing_text_gate_one κs a z z' ws ws' p q = (meet p q, refl)

pub writing_write_one : OneOutcome 3 writing_write_kinds.ps writing_write_kinds.r writing_write_reads.Post
writing_write_one κs a z z' ws ws' p q = (meet p.place q.place, first (meet p.bytes q.bytes))

pub writing_as_cstring_one : OneOutcome 3 writing_as_cstring_kinds.ps writing_as_cstring_kinds.r writing_as_cstring_reads.Post
writing_as_cstring_one κs a z z' ws ws' p q = (meet p.answer q.answer, first (meet p.bytes q.bytes))

pub writing_same_line_one : OneOutcome 4 writing_same_line_kinds.ps writing_same_line_kinds.r writing_same_line_reads.Post
writing_same_line_one κs a z z' ws ws' p q = (meet p q, refl)

pub digits_put_decimal_one : OneOutcome 1 digits_put_decimal_kinds.ps digits_put_decimal_kinds.r digits_put_decimal_reads.Post
digits_put_decimal_one κs a z z' ws ws' p q = (meet p.place q.place, first (meet p.bytes q.bytes))
