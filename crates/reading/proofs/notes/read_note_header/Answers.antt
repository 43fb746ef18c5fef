-- `notes::read_note_header`: three numbers, each taken where the one before it ended.
use Rattle.std.proofs.Common.{◌≤◌, length, rules}
use Rattle.fields.specs.Ranges.{top64}
use Rattle.reading.proofs.NotesLaws.{note_header_read}
use Rattle.reading.proofs.notes.read_note_header.Goals as goal

pub returns : goal.returns
returns c =
    let args = c.args in
    let short : length args.image.now ≤ top64 = search rules in
    let small : args.at.0 ≤ top64 = search rules in
    note_header_read args.image args.at short small c.new.ensures c.take-name.ensures c.take-desc.ensures c.take-kind.ensures
