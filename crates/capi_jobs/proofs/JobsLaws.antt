-- Laws of the entry point of a job: what it comes to by the size of the list for the text.
use Prim.Native.Nat.{ℕ}
use mathlib.Core.Path.{◌≡◌, refl, ap, ◌∙◌}
use mathlib.Core.List.{List}
use lib.ListN.{length}
use borrow.Author.Tests.{eq-eqb, ne_eqb}
use Rattle.answers.specs.Catalogue.{number_of}
use Rattle.answers.specs.declared.Refusal.TheVariants.{NoRoom}
use Rattle.desk.specs.Printing.{printed, output_of}
use Rattle.desk.specs.Work.{guest_size}
use Rattle.desk.specs.declared.Output.{Output}
use Rattle.capi.proofs.LoadsLaws.{picks, passes}
use Rattle.capi_jobs.specs.Jobs.{JobCall}

module _ (job text : List ℕ) where
  abbrev print : List ℕ
  print = printed job guest_size

  pub job_unsized : {r : ℕ} → (length text ≡ 80 → ⊥) → r ≡ number_of NoRoom → JobCall job text r text
  job_unsized other e =
      let f = ne_eqb (length text) 80 other in
      record { answer = passes 0 f e; bytes = passes (output_of print).bytes f refl }

  pub job_sized : {o : Output} {left : List ℕ} → length text ≡ 80 → o ≡ output_of print → left ≡ o.bytes
      → JobCall job text 0 left
  job_sized same is e =
      let t = eq-eqb (length text) 80 same in
      record { answer = picks (number_of NoRoom) t refl; bytes = picks text t (e ∙ ap (λ (x : Output). x.bytes) is) }
