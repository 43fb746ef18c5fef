-- `load_image`: the load of `loads`, over the map that is the whole slice.
use Rattle.std.specs.Prelude.{None}
use mathlib.Core.Path.{ap}
use Rattle.loads.specs.declared.Format.{Format}
use Rattle.desk.proofs.WorkLaws.{image_loaded}
use Rattle.desk.proofs.load_image.Goals as goal

pub returns : goal.returns
returns c =
    let args = c.args in
    image_loaded args.kind args.image.now args.guest.now c.whole-map.ensures
    (ap (λ (f : Format). record { format = f; kernel_offset = None; highmem_start = None }) c.format_of.ensures) c.load.ensures
