-- `lines::tell_written`: the count is stored; a refusal stores nothing.
use mathlib.Core.Path.{refl}
use Rattle.cmdline.specs.Writing.{written_count}
use Rattle.capi_lines.proofs.lines.tell_written.Goals as goal

pub returns-in-Ok : goal.returns-in-Ok
unfolding written_count
returns-in-Ok c = rw c.in-Ok.is (record { answer = refl; told = refl })

pub returns-in-Err : goal.returns-in-Err
unfolding written_count
returns-in-Err c = rw c.in-Err.is (record { answer = c.from.ensures; told = refl })
