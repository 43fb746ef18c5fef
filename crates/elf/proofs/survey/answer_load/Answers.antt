-- `survey::answer_load`: where the tests before the headers hold, the load address fits and the headers are in the image.
use mathlib.Core.Path.{sym, ◌∙◌}
use native.Mathlib.Omega.{arith}
use Rattle.answers.proofs.TestsLaws.{open_all}
use Rattle.elf.specs.Header.{tests}
use Rattle.elf.proofs.HeaderLaws.{load_fits, headers_stand}
use Rattle.elf.proofs.survey.answer_load.Goals as goal

pub overflow_add-load : goal.overflow_add-load
overflow_add-load c =
    let args = c.args in
    let hold = open_all (tests args.image.now args.memory.now args.offset args.highmem) (sym c.validate_header.ensures ∙ c.in_ok-validate_header.was) in
    let sum = load_fits args.image.now args.memory.now args.offset args.highmem hold in
    omega (arith, c.read_u64.ensures.value, c.amount.ensures)

pub survey-requires : goal.survey-requires
survey-requires c =
    let args = c.args in
    let hold = open_all (tests args.image.now args.memory.now args.offset args.highmem) (sym c.validate_header.ensures ∙ c.in_ok-validate_header.was) in
    (c.read_u64-2.ensures.value, rw c.read_u16-e_phnum.ensures.value (headers_stand args.image.now args.memory.now args.offset args.highmem hold))
