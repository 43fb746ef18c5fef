-- `lines::tell`: the length is put at its place; a refusal puts nothing.
use mathlib.Core.Path.{refl}
use Rattle.capi_lines.proofs.lines.tell.Goals as goal

pub returns-in-Err : goal.returns-in-Err
returns-in-Err c = rw c.in-Err.is (record { answer = c.from.ensures; line = refl })

pub returns-in-Ok : goal.returns-in-Ok
returns-in-Ok c = rw c.in-Ok.is (record { answer = refl; line = c.put_le.ensures })
