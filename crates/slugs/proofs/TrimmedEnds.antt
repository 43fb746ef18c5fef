-- "trims bytes 9 to 13 and 32 at both ends": a text is blanks, its trimmed text and blanks, and the trimmed text has no
-- blank at either end (`trim_trimmed`); and no other text is so (`trimmed_only`).
use Prim.Native.Nat.{ℕ, ◌-◌, ◌<◌}
use mathlib.Core.Path.{◌≡◌, refl, sym, ap, ◌∙◌, subst}
use mathlib.Core.Bool.{Bool, true, false}
use mathlib.Core.List.{List, [], ◌∷◌, ◌++◌, append-nil}
use native.Mathlib.Numerals.{unary_clauses}
use native.Mathlib.Omega.{arith}
use lib.ListN.{length, get_or}
use Rattle.answers.specs.Pick.{pick}
use Rattle.answers.proofs.BoolLaws.{both_held, hold_both}
use Rattle.slugs.specs.Bytes.{blank, all_bytes}
use Rattle.slugs.specs.Trimming.{trim_start, trim_end, before, trim}
use Rattle.slugs.specs.Trimmed.{Trimmed}
use Rattle.slugs.proofs.TrimmingLaws.{start_kept, end_kept, end_blanks}

-- ---- trimmed at one end

record StartCut (s t : List ℕ) : Type 0 where
  cut : List ℕ
  whole : s ≡ cut ++ t
  blanks : all_bytes blank cut ≡ true
  first : 0 < length t → blank (get_or t 0 0) ≡ false

record EndCut (s t : List ℕ) : Type 0 where
  cut : List ℕ
  whole : s ≡ t ++ cut
  blanks : all_bytes blank cut ≡ true
  last : 0 < length t → blank (get_or t (length t - 1) 0) ≡ false

start_cut : (s : List ℕ) → StartCut s (trim_start s)
unfolding trim_start all_bytes pick
start_cut [] = record { cut = []; whole = refl; blanks = refl; first = λ h. absurd (omega arith) }
start_cut (x ∷ xs) = by (blank x) refl (start_cut xs)
  where
    by : (b : Bool) → blank x ≡ b → StartCut xs (trim_start xs) → StartCut (x ∷ xs) (pick b (trim_start xs) (x ∷ xs))
    by true e c =
        record { cut = x ∷ c.cut; whole = ap (λ (l : List ℕ). x ∷ l) c.whole; blanks = hold_both (blank x) (all_bytes blank c.cut) e c.blanks; first = c.first }
    by false e c = record { cut = []; whole = refl; blanks = refl; first = λ h. e }

end_cut : (s : List ℕ) → EndCut s (trim_end s)
unfolding trim_end before all_bytes pick
end_cut [] = record { cut = []; whole = refl; blanks = refl; last = λ h. absurd (omega arith) }
end_cut (x ∷ xs) = on (trim_end xs) (end_cut xs)
  where
    by : (b : Bool) → blank x ≡ b → EndCut xs [] → EndCut (x ∷ xs) (pick b [] (x ∷ []))
    by true e c =
        record { cut = x ∷ c.cut; whole = ap (λ (l : List ℕ). x ∷ l) c.whole; blanks = hold_both (blank x) (all_bytes blank c.cut) e c.blanks; last = λ h. absurd (omega arith) }
    by false e c = record { cut = c.cut; whole = ap (λ (l : List ℕ). x ∷ l) c.whole; blanks = c.blanks; last = λ h. e }

    on : (t : List ℕ) → EndCut xs t → EndCut (x ∷ xs) (before x t)
    on [] c = by (blank x) refl c
    on (y ∷ ys) c = record { cut = c.cut; whole = ap (λ (l : List ℕ). x ∷ l) c.whole; blanks = c.blanks; last = λ h. simp unary_clauses (simp unary_clauses at (c.last (omega arith))) }

-- the first byte of a text that is not empty is the first of what begins with it
first_of_lem : (t u : List ℕ) → 0 < length t → get_or t 0 0 ≡ get_or (t ++ u) 0 0
first_of_lem [] u h = absurd (omega arith)
first_of_lem (x ∷ xs) u h = refl

longer : (t u : List ℕ) → 0 < length t → 0 < length (t ++ u)
longer [] u h = absurd (omega arith)
longer (x ∷ xs) u h = omega arith

pub trim_trimmed : (s : List ℕ) → Trimmed s (trim s)
trim_trimmed s =
    let start = start_cut s in
    let end = end_cut (trim_start s) in
    record {
      before = start.cut;
      after = end.cut;
      whole = start.whole ∙ ap (λ (l : List ℕ). start.cut ++ l) end.whole;
      blanks_before = start.blanks;
      blanks_after = end.blanks;
      first = λ h.
          ap blank (first_of_lem (trim s) end.cut h ∙ ap (λ (l : List ℕ). get_or l 0 0) (sym end.whole))
          ∙ start.first (subst (λ (l : List ℕ). 0 < length l) (sym end.whole) (longer (trim s) end.cut h));
      last = end.last;
    }

-- ---- no other text

start_blanks : (a s : List ℕ) → all_bytes blank a ≡ true → trim_start (a ++ s) ≡ trim_start s
unfolding trim_start all_bytes pick
start_blanks [] s e = refl
start_blanks (x ∷ xs) s e = let both = both_held (blank x) (all_bytes blank xs) e in rw both.0 (start_blanks xs s both.1)

-- blanks alone are trimmed to nothing; else the text ends the blanks on both sides
trimmed_text : (t after : List ℕ) → all_bytes blank after ≡ true → (0 < length t → blank (get_or t 0 0) ≡ false)
    → (0 < length t → blank (get_or t (length t - 1) 0) ≡ false) → trim (t ++ after) ≡ t
unfolding trim_end trim_start
trimmed_text [] after e first last = ap trim_end (ap trim_start (sym (append-nil after)) ∙ start_blanks after [] e)
trimmed_text (x ∷ xs) after e first last =
    ap trim_end (start_kept (x ∷ (xs ++ after)) (first (omega arith)))
    ∙ end_blanks (x ∷ xs) after e
    ∙ end_kept (x ∷ xs) (omega arith) (last (omega arith))

pub trimmed_only : (s t : List ℕ) → Trimmed s t → t ≡ trim s
trimmed_only s t c =
    sym (trimmed_text t c.after c.blanks_after c.first c.last)
    ∙ ap trim_end (sym (ap trim_start c.whole ∙ start_blanks c.before (t ++ c.after) c.blanks_before))
