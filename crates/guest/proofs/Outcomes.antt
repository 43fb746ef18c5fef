-- Each public function permits one outcome.
use mathlib.Core.Path.{◌≡◌, ◌∙◌, refl, ap}
use Rattle.answers.specs.Outcome.{OneOutcome}
use Rattle.answers.proofs.Outcomes.{meet, first}
use Rattle.guest.proofs.addresses.amount.Kinds as amount_kinds
use Rattle.guest.proofs.addresses.amount.Reads as amount_reads
use Rattle.guest.proofs.sizes.is_allowed.Kinds as is_allowed_kinds
use Rattle.guest.proofs.sizes.is_allowed.Reads as is_allowed_reads
use Rattle.guest.proofs.Memory.of.Kinds as memory_of_kinds
use Rattle.guest.proofs.Memory.of.Reads as memory_of_reads
use Rattle.guest.proofs.Map.len.Kinds as map_len_kinds
use Rattle.guest.proofs.Map.len.Reads as map_len_reads
use Rattle.guest.proofs.Map.range.Kinds as map_range_kinds
use Rattle.guest.proofs.Map.range.Reads as map_range_reads
use Rattle.guest.proofs.maps.in_range.Kinds as in_range_kinds
use Rattle.guest.proofs.maps.in_range.Reads as in_range_reads
use Rattle.guest.proofs.maps.is_good.Kinds as is_good_kinds
use Rattle.guest.proofs.maps.is_good.Reads as is_good_reads
use Rattle.guest.proofs.maps.whole.Kinds as whole_Kinds
use Rattle.guest.proofs.maps.whole.Reads as whole_reads
use Rattle.guest.proofs.maps.from_numbers.Kinds as from_numbers_kinds
use Rattle.guest.proofs.maps.from_numbers.Reads as from_numbers_reads
use Rattle.guest.proofs.maps.number_at.Kinds as number_at_kinds
use Rattle.guest.proofs.maps.number_at.Reads as number_at_reads
use Rattle.guest.proofs.room.has_room.Kinds as has_room_kinds
use Rattle.guest.proofs.room.has_room.Reads as has_room_reads
use Rattle.guest.proofs.room.room_for.Kinds as room_for_kinds
use Rattle.guest.proofs.room.room_for.Reads as room_for_reads
use Rattle.guest.proofs.lent.ask_memory.Kinds as ask_memory_kinds
use Rattle.guest.proofs.lent.ask_memory.Reads as ask_memory_reads
use Rattle.guest.proofs.lent.ask.Kinds as ask_kinds
use Rattle.guest.proofs.lent.ask.Reads as ask_reads
use Rattle.guest.proofs.copying.copy_image.Kinds as copy_image_kinds
use Rattle.guest.proofs.copying.copy_image.Reads as copy_image_reads
use Rattle.guest.proofs.maps.same.Kinds as same_kinds
use Rattle.guest.proofs.maps.same.Reads as same_Reads
use Rattle.guest.proofs.room.is_same.Kinds as is_same_kinds
use Rattle.guest.proofs.room.is_same.Reads as is_same_reads
use Rattle.guest.proofs.parts.kept.Kinds as kept_kinds
use Rattle.guest.proofs.parts.kept.Reads as kept_reads
use Rattle.guest.proofs.parts.copy_part.Kinds as copy_part_kinds
use Rattle.guest.proofs.parts.copy_part.Reads as copy_part_reads
use Rattle.guest.specs.declared.parts.Copied.{Copied}

pub amount_one : OneOutcome 0 amount_kinds.ps amount_kinds.r amount_reads.Post
amount_one κs a z z' ws ws' p q = (meet p q, refl)

pub is_allowed_one : OneOutcome 0 is_allowed_kinds.ps is_allowed_kinds.r is_allowed_reads.Post
is_allowed_one κs a z z' ws ws' p q = (meet p q, refl)

pub memory_of_one : OneOutcome 1 memory_of_kinds.ps memory_of_kinds.r memory_of_reads.Post
memory_of_one κs a z z' ws ws' p q = (meet p q, refl)

pub map_len_one : OneOutcome 1 map_len_kinds.ps map_len_kinds.r map_len_reads.Post
map_len_one κs a z z' ws ws' p q = (meet p q, refl)

pub map_range_one : OneOutcome 1 map_range_kinds.ps map_range_kinds.r map_range_reads.Post
map_range_one κs a z z' ws ws' p q = (meet p q, refl)

pub in_range_one : OneOutcome 0 in_range_kinds.ps in_range_kinds.r in_range_reads.Post
in_range_one κs a z z' ws ws' p q = (meet p q, refl)

pub is_good_one : OneOutcome 1 is_good_kinds.ps is_good_kinds.r is_good_reads.Post
is_good_one κs a z z' ws ws' p q = (meet p q, refl)

pub whole_one : OneOutcome 0 whole_Kinds.ps whole_Kinds.r whole_reads.Post
whole_one κs a z z' ws ws' p q = (meet p q, refl)

pub from_numbers_one : OneOutcome 1 from_numbers_kinds.ps from_numbers_kinds.r from_numbers_reads.Post
from_numbers_one κs a z z' ws ws' p q = (meet p q, refl)

pub number_at_one : OneOutcome 1 number_at_kinds.ps number_at_kinds.r number_at_reads.Post
number_at_one κs a z z' ws ws' p q = (meet p q, refl)

pub has_room_one : OneOutcome 1 has_room_kinds.ps has_room_kinds.r has_room_reads.Post
has_room_one κs a z z' ws ws' p q = (meet p q, refl)

pub room_for_one : OneOutcome 1 room_for_kinds.ps room_for_kinds.r room_for_reads.Post
room_for_one κs a z z' ws ws' p q = (meet p q, refl)

pub ask_memory_one : OneOutcome 1 ask_memory_kinds.ps ask_memory_kinds.r ask_memory_reads.Post
ask_memory_one κs a z z' ws ws' p q = (meet p q, refl)

pub ask_one : OneOutcome 1 ask_kinds.ps ask_kinds.r ask_reads.Post
ask_one κs a z z' ws ws' p q = (meet p q, refl)

pub copy_image_one : OneOutcome 2 copy_image_kinds.ps copy_image_kinds.r copy_image_reads.Post
copy_image_one κs a z z' ws ws' p q = (refl, first (meet p q))

pub same_one : OneOutcome 2 same_kinds.ps same_kinds.r same_Reads.Post
same_one κs a z z' ws ws' p q = (meet p q, refl)

pub is_same_one : OneOutcome 2 is_same_kinds.ps is_same_kinds.r is_same_reads.Post
is_same_one κs a z z' ws ws' p q = (meet p q, refl)

pub kept_one : OneOutcome 1 kept_kinds.ps kept_kinds.r kept_reads.Post
kept_one κs a z z' ws ws' p q = (meet p q, refl)

copied_same : {x y : Copied} → x.size ≡ y.size → x.count ≡ y.count → x ≡ y
copied_same {x} {y} es ec = ap (λ n. record { size = n; count = x.count }) es ∙ ap (λ n. record { size = y.size; count = n }) ec

pub copy_part_one : OneOutcome 3 copy_part_kinds.ps copy_part_kinds.r copy_part_reads.Post
copy_part_one κs a z z' ws ws' p q = (copied_same (meet p.all q.all) (meet p.counted q.counted), first (meet p.memory q.memory))
