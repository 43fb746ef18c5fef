-- Each function permits one outcome.
use Rattle.std.specs.Prelude.{Option}
use Rattle.guest.specs.declared.GuestAddress.{GuestAddress}
use Prim.Native.Nat.{ℕ}
use mathlib.Core.Path.{◌≡◌, refl, sym, ◌∙◌, ap}
use mathlib.Core.List.{List}
use lib.Dec.{eqb}
use lib.ListN.{length}
use lib.Seq.{sets}
use Rattle.answers.specs.Outcome.{OneOutcome}
use Rattle.answers.proofs.Outcomes.{meet, first}
use Rattle.capi.proofs.Outcomes.{both, over}
use Rattle.capi.specs.Values.{number_where, left_where}
use Rattle.placing.proofs.PlacingLaws.{lowest_one, highest_one}
use Rattle.capi_boot.specs.Places.{found_number, found_values, PlaceTells}
use Rattle.capi_boot.proofs.zero_page.rekusoyen_raw_boot_zero_page_plan.Kinds as zero_page_plan_kinds
use Rattle.capi_boot.proofs.zero_page.rekusoyen_raw_boot_zero_page_plan.Reads as zero_page_plan_reads
use Rattle.capi_boot.proofs.zero_page.rekusoyen_raw_boot_zero_page.Kinds as zero_page_kinds
use Rattle.capi_boot.proofs.zero_page.rekusoyen_raw_boot_zero_page.Reads as zero_page_reads
use Rattle.capi_boot.proofs.pvh.rekusoyen_raw_boot_pvh_plan.Kinds as pvh_plan_kinds
use Rattle.capi_boot.proofs.pvh.rekusoyen_raw_boot_pvh_plan.Reads as pvh_plan_reads
use Rattle.capi_boot.proofs.pvh.rekusoyen_raw_boot_pvh.Kinds as pvh_kinds
use Rattle.capi_boot.proofs.pvh.rekusoyen_raw_boot_pvh.Reads as pvh_reads
use Rattle.capi_boot.proofs.tree.rekusoyen_raw_boot_tree_plan.Kinds as tree_plan_kinds
use Rattle.capi_boot.proofs.tree.rekusoyen_raw_boot_tree_plan.Reads as tree_plan_reads
use Rattle.capi_boot.proofs.tree.rekusoyen_raw_boot_tree.Kinds as tree_kinds
use Rattle.capi_boot.proofs.tree.rekusoyen_raw_boot_tree.Reads as tree_reads
use Rattle.capi_boot.proofs.alone.rekusoyen_line_check.Kinds as line_check_kinds
use Rattle.capi_boot.proofs.alone.rekusoyen_line_check.Reads as line_check_reads
use Rattle.capi_boot.proofs.alone.rekusoyen_has_room.Kinds as has_room_kinds
use Rattle.capi_boot.proofs.alone.rekusoyen_has_room.Reads as has_room_reads
use Rattle.capi_boot.proofs.alone.rekusoyen_put.Kinds as put_kinds
use Rattle.capi_boot.proofs.alone.rekusoyen_put.Reads as put_reads
use Rattle.capi_boot.proofs.places.rekusoyen_raw_place.Kinds as place_kinds
use Rattle.capi_boot.proofs.places.rekusoyen_raw_place.Reads as place_reads
use Rattle.capi_boot.proofs.places.rekusoyen_raw_place_high.Kinds as place_high_kinds
use Rattle.capi_boot.proofs.places.rekusoyen_raw_place_high.Reads as place_high_reads

pub zero_page_plan_one : OneOutcome 6 zero_page_plan_kinds.ps zero_page_plan_kinds.r zero_page_plan_reads.Post
zero_page_plan_one κs a z z' ws ws' p q = (
  meet p.answer q.answer,
  over (over (over (over (over (over (over (over (over (over (over (over (over (over (over (first (meet p.told
      q.told)))))))))))))))),
)

pub zero_page_one : OneOutcome 8 zero_page_kinds.ps zero_page_kinds.r zero_page_reads.Post
zero_page_one κs a z z' ws ws' p q = (
  meet p.answer q.answer,
  both (meet p.memory q.memory)
      (over (over (over (over (over (over (over (over (over (over (over (over (over (over (first (meet p.told
      q.told)))))))))))))))),
)

pub pvh_plan_one : OneOutcome 6 pvh_plan_kinds.ps pvh_plan_kinds.r pvh_plan_reads.Post
pvh_plan_one κs a z z' ws ws' p q = (
  meet p.answer q.answer,
  over (over (over (over (over (over (over (over (over (over (over (over (over (over (over (over (first (meet
      p.told q.told))))))))))))))))),
)

pub pvh_one : OneOutcome 8 pvh_kinds.ps pvh_kinds.r pvh_reads.Post
pvh_one κs a z z' ws ws' p q = (
  meet p.answer q.answer,
  both (meet p.memory q.memory)
      (over (over (over (over (over (over (over (over (over (over (over (over (over (over (over (first (meet
      p.told q.told))))))))))))))))),
)

pub tree_plan_one : OneOutcome 5 tree_plan_kinds.ps tree_plan_kinds.r tree_plan_reads.Post
tree_plan_one κs a z z' ws ws' p q = (
  meet p.answer q.answer,
  over (over (over (over (over (over (over (over (over (over (over (over (over (over (first (meet p.told
      q.told))))))))))))))),
)

pub tree_one : OneOutcome 7 tree_kinds.ps tree_kinds.r tree_reads.Post
tree_one κs a z z' ws ws' p q = (
  meet p.answer q.answer,
  both (meet p.memory q.memory)
      (over (over (over (over (over (over (over (over (over (over (over (over (over (first (meet p.told
      q.told))))))))))))))),
)

pub line_check_one : OneOutcome 3 line_check_kinds.ps line_check_kinds.r line_check_reads.Post
line_check_one κs a z z' ws ws' p q = (meet p q, refl)

pub has_room_one : OneOutcome 1 has_room_kinds.ps has_room_kinds.r has_room_reads.Post
has_room_one κs a z z' ws ws' p q = (meet p q, refl)

pub put_one : OneOutcome 3 put_kinds.ps put_kinds.r put_reads.Post
put_one κs a z z' ws ws' p q = (meet p.answer q.answer, first (meet p.memory q.memory))

-- what is told of two addresses that are the same one
same_number : {f g : Option GuestAddress} {out left right : List ℕ} {r s : ℕ} → f ≡ g → PlaceTells f out r left
    → PlaceTells g out s right → r ≡ s
same_number {out = out} e p q =
    p.answer ∙ ap (λ (x : Option GuestAddress). number_where (eqb (length out) 1) (found_number x)) e ∙ sym q.answer

same_left : {f g : Option GuestAddress} {out left right : List ℕ} {r s : ℕ} → f ≡ g → PlaceTells f out r left
    → PlaceTells g out s right → left ≡ right
same_left {out = out} e p q =
    p.told ∙ ap (λ (x : Option GuestAddress). left_where (eqb (length out) 1) (sets out 0 (found_values x)) out) e ∙ sym q.told

pub place_one : OneOutcome 3 place_kinds.ps place_kinds.r place_reads.Post
place_one κs a z z' ws ws' p q =
    let e = lowest_one p.best q.best in (
      same_number e p.tells q.tells,
      over (over (over (over (over (over (over (first (same_left e p.tells q.tells)))))))),
    )

pub place_high_one : OneOutcome 3 place_high_kinds.ps place_high_kinds.r place_high_reads.Post
place_high_one κs a z z' ws ws' p q =
    let e = highest_one p.best q.best in (
      same_number e p.tells q.tells,
      over (over (over (over (over (over (over (first (same_left e p.tells q.tells)))))))),
    )
