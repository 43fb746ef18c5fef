-- The worked example of the desk program holds, by computation.
use mathlib.Core.Path.{◌≡◌, refl}
use lib.ListN.{length}
use Rattle.answers.specs.Pick
use Rattle.answers.specs.Tests
use Rattle.fields.specs.Numbers
use Rattle.fields.specs.Ranges
use Rattle.fields.specs.Tags
use Rattle.guest.specs.Addresses
use Rattle.guest.specs.Answers
use Rattle.guest.specs.Loading
use Rattle.guest.specs.Maps
use Rattle.guest.specs.Parts as GuestParts
use Rattle.guest.specs.Room
use Rattle.guest.specs.Sizes
use Rattle.guest.specs.Stream
use Rattle.elf.specs.Header
use Rattle.elf.specs.ProgramHeaders
use Rattle.elf.specs.Survey
use Rattle.elf.specs.Parts
use Rattle.elf.specs.Load
use Rattle.loads.specs.Formats
use Rattle.cmdline.specs.Digits
use Rattle.desk.specs.Table
use Rattle.desk.specs.Work
use Rattle.desk.specs.Work.{guest_size}
use Rattle.desk.specs.Printing
use Rattle.desk.specs.Printing.{printed}
use Rattle.cases.specs.Cases
use Rattle.cases.specs.Jobs.{e1_job, e1_lines}

-- it has 139 bytes
pub e1_long : length e1_job ≡ 139
unfolding e1_job Cases.e1 Numbers.le_bytes
e1_long = refl

pub e1_prints : printed e1_job guest_size ≡ e1_lines
unfolding e1_job Cases.e1 Pick.pick Tests.asked Numbers.le Numbers.le_bytes Ranges.lies_within Tags.tag_at Addresses.amount_of Addresses.is_given Loading.behind_tests Maps.ranges_from Maps.in_range Maps.in_ranges Maps.good_range Maps.good_ranges Maps.good_map Maps.every_second Maps.range_count Room.room Sizes.allowed Stream.pour Stream.stream_at Header.stand_within ProgramHeaders.header_at Survey.load_step Survey.note_step Survey.step_of Survey.first_found Survey.advanced Survey.survey_from Parts.header_part Parts.part_at Parts.part_of GuestParts.part_stream GuestParts.parts_from Answers.pvh_code Answers.pvh_address Answers.pvh_place Answers.pvh_size Answers.answer_number Answers.answer_values Formats.answer_by Formats.count_by Formats.part_by Load.note_number Load.note_values Digits.digit Digits.digits_before Table.row_of Table.count_good Table.is_image Table.kinds_good Table.one_placed Table.two_placed Table.places_good Table.image_row Table.line_row Table.has_line Work.image_format Work.bodies_plan Work.job_plan Printing.pvh_text Printing.pvh_line Printing.answer_text
e1_prints = refl
