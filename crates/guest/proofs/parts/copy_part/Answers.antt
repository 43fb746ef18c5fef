-- `parts::copy_part`: the image's bytes after those that are done, as far as the budget goes.
use mathlib.Core.Path.{subst⁻¹}
use native.Mathlib.Omega.{arith}
use lib.ListN.{length}
use Rattle.guest.specs.Parts.{PartLies}
use Rattle.guest.proofs.PartsLaws.{kept_stands, copied_is}
use Rattle.guest.proofs.parts.copy_part.Goals as goal

pub overflow_add-address : goal.overflow_add-address
overflow_add-address c =
    let args = c.args in
    let passed = c.min-passed.ensures in
    let stands = subst⁻¹ (PartLies (length args.image.now) args.memory.now) c.kept-safe.ensures (kept_stands (length args.image.now) args.memory.now args.part) in
    let slice = stands.in_slice in
    omega arith

pub overflow_add-place : goal.overflow_add-place
overflow_add-place c =
    let args = c.args in
    let passed = c.min-passed.ensures in
    let stands = subst⁻¹ (PartLies (length args.image.now) args.memory.now) c.kept-safe.ensures (kept_stands (length args.image.now) args.memory.now args.part) in
    let place = stands.in_image in
    omega arith

pub returns : goal.returns
returns c =
    let args = c.args in
    copied_is args.image.now args.memory.now args.part args.skip args.budget args.guest.now c.kept-safe.ensures c.min-passed.ensures
    c.min-n.ensures c.copy_image.ensures
