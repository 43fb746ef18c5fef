-- The worked examples hold: one statement over one list, proved by computation.
use mathlib.Core.Path.{◌≡◌, refl}
use mathlib.Core.List.{map}
use Rattle.answers.specs.Pick
use Rattle.answers.specs.Tests
use Rattle.fields.specs.Numbers
use Rattle.fields.specs.Ranges
use Rattle.fields.specs.Tags
use Rattle.guest.specs.Addresses
use Rattle.guest.specs.Answers
use Rattle.guest.specs.Loading
use Rattle.guest.specs.Maps
use Rattle.guest.specs.Parts as GuestParts
use Rattle.guest.specs.Room
use Rattle.guest.specs.Sizes
use Rattle.guest.specs.Stream
use Rattle.reading.specs.Notes as NoteHeaders
use Rattle.elf.specs.Header
use Rattle.elf.specs.ProgramHeaders
use Rattle.elf.specs.Notes
use Rattle.elf.specs.NoteWalk as NoteWalk
use Rattle.elf.specs.Survey
use Rattle.elf.specs.Parts
use Rattle.elf.specs.Load
use Rattle.loads.specs.Formats
use Rattle.slugs.specs.Bytes
use Rattle.slugs.specs.Trimming
use Rattle.slugs.specs.Keys
use Rattle.slugs.specs.Values
use Rattle.slugs.specs.Joining
use Rattle.slugs.specs.Splitting
use Rattle.cmdline.specs.Limit
use Rattle.cmdline.specs.Text
use Rattle.cmdline.specs.Insertion
use Rattle.cmdline.specs.Making
use Rattle.cmdline.specs.Calls
use Rattle.cases.specs.Cases
use Rattle.cases.specs.Cases.{Case, cases, result_of}

pub all_cases : map (λ (c : Case). result_of c.ask) cases ≡ map (λ (c : Case). c.want) cases
unfolding cases result_of Cases.e1 Cases.note Cases.said_number Cases.last_number Pick.pick Tests.asked Numbers.le Numbers.le_bytes Ranges.lies_within Tags.tag_at Addresses.amount_of Addresses.is_given Loading.behind_tests Maps.ranges_from Maps.in_range Maps.in_ranges Maps.good_range Maps.good_ranges Maps.good_map Maps.every_second Maps.range_count Room.room Sizes.allowed Stream.pour Stream.stream_at NoteHeaders.note_header_of Header.stand_within ProgramHeaders.header_at Notes.is_wanted Notes.is_pvh_note Notes.note_tests NoteWalk.turn_at NoteWalk.walk_from NoteWalk.entry_of NoteWalk.public_note Survey.load_step Survey.note_step Survey.step_of Survey.first_found Survey.advanced Survey.survey_from Parts.header_part Parts.part_at Parts.part_of GuestParts.part_stream GuestParts.parts_from Answers.pvh_code Answers.pvh_address Answers.pvh_place Answers.pvh_size Answers.answer_number Answers.answer_values Formats.answer_by Formats.count_by Formats.part_by Load.note_number Load.note_values Bytes.blank Bytes.printable Bytes.all_bytes Bytes.has Trimming.trim_start Trimming.trim_end Trimming.before Keys.key_tests Values.value_tests Values.quoted Values.protected Joining.space_after Splitting.split_from Splitting.splits Splitting.even_after Limit.allowed Text.size_of Text.boot_gap Text.init_gap Insertion.insert Insertion.insert_str Insertion.insert_init_args Making.new Making.try_from Calls.run Calls.calls Calls.calling Calls.making
all_cases = refl
