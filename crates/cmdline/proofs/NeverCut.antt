-- An insertion into a caller's buffer is never accepted with a text that was cut: the length that is returned is that
-- of the text before it, the space and the slug, it lies within the buffer, and the buffer holds that text.
use Rattle.std.specs.Prelude.{Ok, Err}
use Prim.Native.Nat.{ℕ, ◌+◌, ◌≤◌}
use mathlib.Core.Path.{◌≡◌, refl, sym, ap, ◌∙◌}
use mathlib.Core.Bool.{Bool, true, false}
use mathlib.Core.List.{List, ◌++◌}
use native.Mathlib.Omega.{arith}
use borrow.Author.Tests.{leb-true}
use lib.Dec.{leb}
use lib.ListN.{length, length-append, take}
use lib.Seq.{sets, length-take-le}
use Rattle.answers.specs.Pick.{pick}
use Rattle.answers.specs.Tests.{asked, asked_all, Check, pass}
use Rattle.answers.specs.declared.Refusal.TheVariants.{TooLarge}
use Rattle.slugs.specs.Joining.{space_after}
use Rattle.slugs.specs.Stored.{Stored}
use Rattle.slugs.proofs.ListLaws.{sets_own}
use Rattle.slugs.proofs.StoredLaws.{stored_text}
use Rattle.cmdline.specs.Insertion.{settled}
use Rattle.cmdline.specs.InPlace.{Append, Appends, appended_of}

-- a length is returned only where the tests held and the buffer had room
opened : (g : Check) (fit : Bool) {k n : ℕ} → Ok k ≡ appended_of (asked g fit TooLarge) n → (asked g fit TooLarge ≡ pass) × ((fit ≡ true) × (k ≡ n))
unfolding asked pick
opened (Ok _) true e = (refl, (refl, cc))
opened (Ok _) false e = let w : ◌≡◌ {A = ℕ} 0 1 = cc in absurd (omega arith)
opened (Err r) fit e = let w : ◌≡◌ {A = ℕ} 0 1 = cc in absurd (omega arith)

pub never_cut : (g : Append) (buffer : List ℕ) (n : ℕ) {k : ℕ} {left : List ℕ} → Appends g buffer n (Ok k) left
    → (k ≤ length buffer) × (take k left ≡ take n buffer ++ (space_after n ++ g.slug))
never_cut g buffer n {k} {left} w =
    let s = space_after n ++ g.slug in
    let o = opened (asked_all pass g.tests) (leb (n + length s) (length buffer)) w.answer in
    let fits = leb-true (n + length s) (length buffer) o.1.0 in
    let count = o.1.1 in
    let text = length-take-le n buffer (omega arith) in
    let long = length-append (take n buffer) s in
    let stored : Stored buffer 0 (take n buffer ++ s) left k =
    record {
      bytes = w.bytes ∙ ap (λ (x : Check). settled x buffer (sets buffer n s)) o.0 ∙ sym (sets_own buffer s n (omega arith));
      place = omega arith;
    } in
    (omega arith, stored_text (omega arith) stored)
