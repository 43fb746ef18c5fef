-- An accepted `insert` puts exactly key, equals sign and value after what stood there, with the separator as it is counted:
-- `inserted_pair`. The same of the struct: `inserted_line` (file HeldTexts).
use Rattle.answers.specs.Tests.{pass}
use Prim.Native.Nat.{ℕ}
use mathlib.Core.Path.{◌≡◌, refl}
use mathlib.Core.List.{List, ◌++◌}
use lib.ListN.{length}
use Rattle.answers.proofs.TestsLaws.{open_all, hold_left}
use Rattle.slugs.specs.Keys.{key_tests}
use Rattle.slugs.specs.Values.{value_tests, pair}
use Rattle.cmdline.specs.Growing.{Inserted}
use Rattle.cmdline.specs.Text.{Text, boot_gap}
use Rattle.cmdline.specs.Insertion.{plan_gate, insert, insert_str}
use Rattle.cmdline.proofs.TextLaws.{joined_long, size_after_boot}
use Rattle.slugs.proofs.ValuesLaws.{pair_told}

pub inserted_pair : (t : Text) (key value : List ℕ) → plan_gate (insert t key value) ≡ pass → Inserted t (insert t key value).text key value
unfolding insert insert_str
inserted_pair t key value accepted =
    let hold = open_all (insert t key value).tests accepted in
    let kept = (pair_told key value (hold_left (key_tests key ++ value_tests value) (insert_str t (pair key value)).tests hold)).0 in
    record {
      boot = rw kept;
      init = refl;
      capacity = refl;
      size =
          rw (kept, joined_long t.boot (pair key value))
          (size_after_boot (length t.boot) (length t.init) (boot_gap (length t.boot)) (length (pair key value)));
    }
