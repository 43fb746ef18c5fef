-- Laws of the line that insertions make, one space between two: its words are the insertions, key and value at their places.
use Prim.Native.Nat.{ℕ, suc, ◌+◌, ◌-◌, ◌≤◌}
use mathlib.Core.Path.{◌≡◌, refl, ap, subst, subst⁻¹, ◌∙◌}
use mathlib.Core.List.{List, [], ◌∷◌, ◌++◌, append_assoc, append-nil}
use native.Mathlib.Omega.{arith}
use native.Mathlib.Nat.{zero-add}
use borrow.Author.Tests.{le-ltb}
use lib.ListN.{length, get_or, take, drop, length-append}
use lib.Seq.{take-append_seam, drop-append_seam, drop-append-add, get_or-append_seam, get_or-append-add}
use Rattle.answers.specs.Pick.{pick}
use Rattle.slugs.specs.Bytes.{space, equals}
use Rattle.slugs.specs.Joining.{space_after, joined}
use Rattle.words.specs.Readers.{plain_from}
use Rattle.words.specs.Words.{Word, words_from, words_of, unclosed_of}
use Rattle.words.specs.Telling.{answer_for}
use Rattle.words.specs.Inserting.{Insertion, words_at, StandsAs, StandInOrder, all_read, next_read, ReadsBack}
use Rattle.std.specs.Prelude.{Ok}
use Rattle.words.proofs.JoinedLaws.{text_of, spaced_out, Goods, none_left, one_more, joined_words, joined_closed, line_snoc}

-- ---- key and value stand at the places of their word

module _ (pre : List ℕ) (x : Insertion) (rest : List ℕ) where
  abbrev text : List ℕ
  text = pre ++ (text_of x ++ rest)

  abbrev behind : List ℕ
  behind = x.value ++ rest

  opened_up : text_of x ++ rest ≡ x.key ++ (equals ∷ behind)
  opened_up = append_assoc x.key (equals ∷ x.value) rest

  from_key : drop (length pre) text ≡ x.key ++ (equals ∷ behind)
  from_key = drop-append_seam pre (text_of x ++ rest) ∙ opened_up

  stands_there : (at : ℕ) → at ≡ length pre → StandsAs text (record { start = at; end = at + length (text_of x); split = at + length x.key }) x
  stands_there at e =
      let long = length-append x.key (equals ∷ x.value) in
      let k : at + length x.key - at ≡ length x.key = omega arith in
      let v : at + length (text_of x) - suc (at + length x.key) ≡ length x.value = omega arith in
      let s : at + length x.key ≡ length pre + length x.key = omega arith in
      let d : suc (at + length x.key) ≡ length pre + (length x.key + 1) = omega arith in
      let z : length x.key ≡ length x.key + 0 = omega arith in
      record {
        key =
            ap (λ (n : ℕ). take n (drop at text)) k ∙ ap (λ (n : ℕ). take (length x.key) (drop n text)) e
            ∙ ap (λ (l : List ℕ). take (length x.key) l) from_key ∙ take-append_seam x.key (equals ∷ behind);
        sign =
            ap (λ (n : ℕ). get_or text n 0) s ∙ get_or-append-add pre (text_of x ++ rest) (length x.key) 0
            ∙ ap (λ (l : List ℕ). get_or l (length x.key) 0) opened_up ∙ get_or-append_seam x.key equals behind 0;
        value =
            ap (λ (n : ℕ). take n (drop (suc (at + length x.key)) text)) v ∙ ap (λ (n : ℕ). take (length x.value) (drop n text)) d
            ∙ ap (λ (l : List ℕ). take (length x.value) l)
            (drop-append-add pre (text_of x ++ rest) (length x.key + 1) ∙ ap (λ (l : List ℕ). drop (length x.key + 1) l) opened_up
            ∙ drop-append-add x.key (equals ∷ behind) 1)
            ∙ take-append_seam x.value rest;
      }

stand_spaced : (xs : List Insertion) (pre : List ℕ) (at : ℕ) → at ≡ suc (length pre) → StandInOrder (pre ++ spaced_out xs) (words_at at xs) xs
unfolding spaced_out words_at
stand_spaced [] pre at e = all_read
stand_spaced (x ∷ xs) pre at e =
    let l1 = length-append pre (space ∷ []) in
    let l2 = length-append pre (space ∷ text_of x) in
    next_read
    (subst (λ (line : List ℕ). StandsAs line (record { start = at; end = at + length (text_of x); split = at + length x.key }) x) (append_assoc pre (space ∷ []) (text_of x ++ spaced_out xs))
    (stands_there (pre ++ (space ∷ [])) x (spaced_out xs) at (omega arith)))
    (subst (λ (line : List ℕ). StandInOrder line (words_at (suc (at + length (text_of x))) xs) xs) (append_assoc pre (space ∷ text_of x) (spaced_out xs))
    (stand_spaced xs (pre ++ (space ∷ text_of x)) (suc (at + length (text_of x))) (omega arith)))

-- ---- the line of insertions

unfoldable pub line_of : List Insertion → List ℕ
line_of [] = []
line_of (x ∷ xs) = text_of x ++ spaced_out xs

-- one more at its end
pub line_more : (xs : List Insertion) (y : Insertion) → line_of (xs ++ (y ∷ [])) ≡ joined (line_of xs) (text_of y)
unfolding line_of spaced_out space_after pick
line_more [] y = append-nil (text_of y)
line_more (x ∷ xs) y = line_snoc x xs y

line_closed : (xs : List Insertion) → Goods xs → unclosed_of (line_of xs) ≡ length (line_of xs)
unfolding line_of unclosed_of plain_from
line_closed [] none_left = refl
line_closed (x ∷ xs) (one_more g gs) = joined_closed x xs g gs

line_words : (xs : List Insertion) → Goods xs → words_of (line_of xs) ≡ words_at 0 xs
unfolding line_of words_of words_from words_at
line_words [] none_left = refl
line_words (x ∷ xs) (one_more g gs) = joined_words x xs g gs ∙ rw (zero-add (length (text_of x)), zero-add (length x.key))

line_stands : (xs : List Insertion) → StandInOrder (line_of xs) (words_at 0 xs) xs
unfolding line_of words_at
line_stands [] = all_read
line_stands (x ∷ xs) = next_read (stands_there [] x (spaced_out xs) 0 refl) (stand_spaced xs (text_of x) (suc (0 + length (text_of x))) (omega arith))

words_count : (at : ℕ) (xs : List Insertion) → length (words_at at xs) ≡ length xs
unfolding words_at
words_count at [] = refl
words_count at (x ∷ xs) = ap suc (words_count (suc (at + length (text_of x))) xs)

told_all : (line : List ℕ) (n room : ℕ) → unclosed_of line ≡ length line → length (words_of line) ≡ n → n ≤ room → answer_for line room ≡ Ok n
unfolding answer_for pick
told_all line n room c e h = rw (c, le-ltb (length line) (length line) (omega arith), e, le-ltb room n h)

pub line_reads : (xs : List Insertion) → Goods xs → ReadsBack (line_of xs) xs
line_reads xs gs =
    let words = line_words xs gs in
    record {
      closed = line_closed xs gs;
      placed = words;
      in_order = subst⁻¹ (λ (ws : List Word). StandInOrder (line_of xs) ws xs) words (line_stands xs);
      told = λ room h. told_all (line_of xs) (length xs) room (line_closed xs gs) (ap (λ (ws : List Word). length ws) words ∙ words_count 0 xs) h;
    }
