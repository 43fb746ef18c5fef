-- Laws of the entry point of a line's words: what it comes to where the list for the count has its size, and where it has not.
use Prim.Native.Nat.{ℕ}
use mathlib.Core.Path.{◌≡◌, refl, ap, ◌∙◌}
use mathlib.Core.List.{List}
use lib.ListN.{length}
use lib.Seq.{sets}
use borrow.Author.Tests.{eq-eqb, ne_eqb}
use Rattle.answers.specs.Pick.{pick}
use Rattle.answers.specs.Catalogue.{number_of}
use Rattle.answers.specs.declared.Refusal.TheVariants.{NoRoom}
use Rattle.words.specs.Telling.{Answer}
use Rattle.words.specs.Telling.{room_of, answer_for, words_number, words_values, ReadsLine}
use Rattle.capi.specs.Values.{Tells}
use Rattle.capi_lines.specs.LineWords.{LineWords}
use Rattle.capi.proofs.LoadsLaws.{picks, passes}

module _ (line a b c out : List ℕ) where
  pub words_unsized : {r : ℕ} → (length out ≡ 1 → ⊥) → r ≡ number_of NoRoom → LineWords line a b c out r a b c out
  unfolding pick
  words_unsized other e =
      let f = ne_eqb (length out) 1 other in
      record {
        answer = passes (words_number (answer_for line (room_of a b c))) f e;
        told = passes (sets out 0 (words_values (answer_for line (room_of a b c)))) f refl;
        written = rw f (record { starts_at = refl; ends_at = refl; splits_at = refl });
      }

  pub words_sized : {t : Answer} {r : ℕ} {a' b' c' left : List ℕ} → length out ≡ 1 → ReadsLine line a b c t a' b' c' → Tells (words_number t) (words_values t) out r left
      → LineWords line a b c out r a' b' c' left
  unfolding pick
  words_sized {a' = a'} {b' = b'} {c' = c'} same says tells =
      let s = eq-eqb (length out) 1 same in
      record {
        answer = picks (number_of NoRoom) s (tells.answer ∙ ap words_number says.answer);
        told = picks out s (tells.told ∙ ap (λ (x : Answer). sets out 0 (words_values x)) says.answer);
        written = rw s says.written;
      }
