-- `rekusoyen_start_write`: what the writer returns, by its number.
use Rattle.guest.specs.Maps.{map_of}
use Rattle.capi_pages.specs.Starts.{start_of}
use Rattle.start_info.specs.Answers.{gate_number}
use Rattle.capi_pages.proofs.StartsLaws.{start_written}
use Rattle.capi_pages.proofs.starts.rekusoyen_start_write.Goals as goal

pub returns : goal.returns
unfolding gate_number
returns c =
    let args = c.args in
    start_written (start_of args.block args.modules_at args.ranges_at args.flags args.command_line args.rsdp) args.modules.now args.ranges.now (map_of args.map.now) args.guest.now
    c.from_numbers.ensures c.write.ensures c.check_number.ensures
