-- Laws of the words of texts that are joined by single spaces.
use Prim.Native.Nat.{ℕ, zero, suc, ◌+◌, ◌≤◌}
use mathlib.Core.Path.{◌≡◌, refl, sym, ap, subst, subst₂, ◌∙◌}
use mathlib.Core.Bool.{false}
use mathlib.Core.List.{List, [], ◌∷◌, ◌++◌, append_assoc, append-nil}
use native.Mathlib.Omega.{arith}
use borrow.Author.Tests.{ne_eqb}
use lib.Dec.{eqb}
use lib.ListN.{length, get_or, drop, length-append}
use lib.Seq.{drop-append_seam, get_or-append_seam, get_or-append-add, take-append-add, take-append_seam}
use Rattle.answers.specs.Pick.{pick}
use Rattle.slugs.specs.Joining.{space_after, joined}
use Rattle.words.specs.Readers.{plain_from}
use Rattle.slugs.specs.Values.{pair}
use Rattle.words.specs.Words.{Word, end_of, word_at, split_of, words_from, words_of, unclosed_of}
use Rattle.words.specs.Inserting.{Insertion, words_at}
use Rattle.words.proofs.WordsLaws.{words_word, words_space, words_end}
use Rattle.words.proofs.PassingLaws.{Passes, Free, none, more, passes_free, passes_append}

-- ---- a word in a line: bytes before it, the word, and then the end or a space

pub data Ends : List ℕ → Type 0 where
  nothing : Ends []
  spaced : {bs : List ℕ} → Ends (32 ∷ bs)

stops_here : (rest : List ℕ) (q : ℕ) → Ends rest → plain_from 32 rest q ≡ q
unfolding plain_from pick
stops_here [] q nothing = refl
stops_here (b ∷ bs) q spaced = refl

no_quote : (rest : List ℕ) → Ends rest → eqb (get_or rest 0 0) 34 ≡ false
no_quote [] nothing = refl
no_quote (b ∷ bs) spaced = refl

module _ (pre : List ℕ) (c : ℕ) (cs rest : List ℕ) (not-space : c ≡ 32 → ⊥) (ends : Ends rest) (passes : Passes 32 (c ∷ cs)) where
  abbrev line : List ℕ
  line = pre ++ ((c ∷ cs) ++ rest)

  stop_end : end_of line (length pre) ≡ length pre + length (c ∷ cs)
  stop_end =
      ap (λ (l : List ℕ). plain_from 32 l (length pre)) (drop-append_seam pre ((c ∷ cs) ++ rest)) ∙ passes.on rest (length pre)
      ∙ stops_here rest (length pre + length (c ∷ cs)) ends

  byte_after : get_or line (length pre + length (c ∷ cs)) 0 ≡ get_or rest 0 0
  byte_after =
      let z : length (c ∷ cs) ≡ length (c ∷ cs) + 0 = omega arith in
      get_or-append-add pre ((c ∷ cs) ++ rest) (length (c ∷ cs)) 0
      ∙ ap (λ (k : ℕ). get_or ((c ∷ cs) ++ rest) k 0) z
      ∙ get_or-append-add (c ∷ cs) rest 0 0

  pub word_first : (n : ℕ) → words_from (suc n) line (length pre) ≡ word_at line (length pre) (length pre + length (c ∷ cs)) ∷ words_from n line (length pre + length (c ∷ cs))
  word_first n =
      words_word line (length pre) n
      (let l = length-append pre ((c ∷ cs) ++ rest) in omega arith)
      (λ e. not-space (sym (get_or-append_seam pre c (cs ++ rest) 0) ∙ e))
      (ap (λ (k : ℕ). eqb (get_or line k 0) 34) stop_end ∙ ap (λ (b : ℕ). eqb b 34) byte_after ∙ no_quote rest ends)
      ∙ ap (λ (k : ℕ). word_at line (length pre) k ∷ words_from n line k) stop_end

at_sign : (value : List ℕ) (q : ℕ) → plain_from 61 (61 ∷ value) q ≡ q
unfolding plain_from pick
at_sign value q = refl

-- the split of a key, an equals sign and a value
pub split_first : (pre key value rest : List ℕ) → Passes 61 key
    → split_of (pre ++ ((key ++ (61 ∷ value)) ++ rest)) (length pre) (length pre + length (key ++ (61 ∷ value))) ≡ length pre + length key
unfolding split_of
split_first pre key value rest passes =
    ap (λ (l : List ℕ). plain_from 61 (drop (length pre) l) (length pre)) (take-append-add pre ((key ++ (61 ∷ value)) ++ rest) (length (key ++ (61 ∷ value))) ∙ ap (λ (l : List ℕ). pre ++ l) (take-append_seam (key ++ (61 ∷ value)) rest))
    ∙ ap (λ (l : List ℕ). plain_from 61 l (length pre)) (drop-append_seam pre (key ++ (61 ∷ value)))
    ∙ passes.on (61 ∷ value) (length pre)
    ∙ at_sign value (length pre + length key)

-- ---- words joined by spaces

-- the bytes of an insertion
abbrev pub text_of : Insertion → List ℕ
text_of x = pair x.key x.value

-- a space before each
unfoldable pub spaced_out : List Insertion → List ℕ
spaced_out [] = []
spaced_out (x ∷ xs) = 32 ∷ (text_of x ++ spaced_out xs)

pub data Starts : List ℕ → Type 0 where
  starts : {c : ℕ} {cs : List ℕ} → (c ≡ 32 → ⊥) → Starts (c ∷ cs)

pub record Good (x : Insertion) : Type 0 where
  pub first : Starts (text_of x)
  pub whole : Passes 32 (text_of x)
  pub keyed : Passes 61 x.key
  pub closed : Passes 34 (text_of x)

pub data Goods : List Insertion → Type 0 where
  none_left : Goods []
  one_more : {x : Insertion} {xs : List Insertion} → Good x → Goods xs → Goods (x ∷ xs)

word_at_lem : (pre w rest : List ℕ) → Starts w → Ends rest → Passes 32 w → (n : ℕ)
    → words_from (suc n) (pre ++ (w ++ rest)) (length pre) ≡ word_at (pre ++ (w ++ rest)) (length pre) (length pre + length w) ∷ words_from n (pre ++ (w ++ rest)) (length pre + length w)
word_at_lem pre [] rest x3 e p n = elim x3 [ ]
word_at_lem pre (c ∷ cs) rest (starts m) e p n = word_first pre c cs rest m e p n

ends_spaced : (xs : List Insertion) → Ends (spaced_out xs)
unfolding spaced_out
ends_spaced [] = nothing
ends_spaced (x ∷ xs) = spaced

pair_at : (pre : List ℕ) (x : Insertion) (xs : List Insertion) → Good x → (n : ℕ)
    → words_from (suc n) (pre ++ (text_of x ++ spaced_out xs)) (length pre)
    ≡ record { start = length pre; end = length pre + length (text_of x); split = length pre + length x.key } ∷ words_from n (pre ++ (text_of x ++ spaced_out xs)) (length pre + length (text_of x))
pair_at pre x xs g n =
    word_at_lem pre (text_of x) (spaced_out xs) g.first (ends_spaced xs) g.whole n
    ∙ ap (λ (k : ℕ). record { start = length pre; end = length pre + length (text_of x); split = k } ∷ words_from n (pre ++ (text_of x ++ spaced_out xs)) (length pre + length (text_of x)))
    (split_first pre x.key x.value (spaced_out xs) g.keyed)

space_at : (pre then : List ℕ) (n : ℕ) → words_from (suc n) (pre ++ (32 ∷ then)) (length pre) ≡ words_from n (pre ++ (32 ∷ then)) (suc (length pre))
space_at pre then n = words_space (pre ++ (32 ∷ then)) (length pre) n (let l = length-append pre (32 ∷ then) in omega arith) (get_or-append_seam pre 32 then 0)

one_turn : (pre : List ℕ) (x : Insertion) (xs : List Insertion) → Good x → (n : ℕ)
    → words_from (suc (suc n)) (pre ++ (32 ∷ (text_of x ++ spaced_out xs))) (length pre)
    ≡ record { start = suc (length pre); end = suc (length pre) + length (text_of x); split = suc (length pre) + length x.key }
    ∷ words_from n ((pre ++ (32 ∷ text_of x)) ++ spaced_out xs) (length (pre ++ (32 ∷ text_of x)))
one_turn pre x xs g n =
    let p1 : List ℕ = pre ++ (32 ∷ []) in
    let rest : List ℕ = text_of x ++ spaced_out xs in
    let e1 : p1 ++ rest ≡ pre ++ (32 ∷ rest) = append_assoc pre (32 ∷ []) rest in
    let l1 : length p1 ≡ suc (length pre) = length-append pre (32 ∷ []) ∙ omega arith in
    let e2 : pre ++ (32 ∷ rest) ≡ (pre ++ (32 ∷ text_of x)) ++ spaced_out xs = sym (append_assoc pre (32 ∷ text_of x) (spaced_out xs)) in
    let l2 : suc (length pre) + length (text_of x) ≡ length (pre ++ (32 ∷ text_of x)) = (let l = length-append pre (32 ∷ text_of x) in omega arith) in
    space_at pre rest (suc n)
    ∙ subst₂ (λ (line : List ℕ) (q : ℕ). words_from (suc n) line q ≡ record { start = q; end = q + length (text_of x); split = q + length x.key } ∷ words_from n line (q + length (text_of x))) e1 l1 (pair_at p1 x xs g n)
    ∙ ap (λ (ws : List Word). record { start = suc (length pre); end = suc (length pre) + length (text_of x); split = suc (length pre) + length x.key } ∷ ws)
    (ap (λ (line : List ℕ). words_from n line (suc (length pre) + length (text_of x))) e2 ∙ ap (words_from n ((pre ++ (32 ∷ text_of x)) ++ spaced_out xs)) l2)

pub spaced_words : (xs : List Insertion) → Goods xs → (pre : List ℕ) (n : ℕ) → length xs + length xs ≤ n → words_from n (pre ++ spaced_out xs) (length pre) ≡ words_at (suc (length pre)) xs
unfolding spaced_out words_at
spaced_words [] none_left pre n h = words_end (pre ++ []) (length pre) n (let l = length-append pre [] in omega arith)
spaced_words (x ∷ xs) (one_more g gs) pre zero h = absurd (omega arith)
spaced_words (x ∷ xs) (one_more g gs) pre (suc zero) h = absurd (omega arith)
spaced_words (x ∷ xs) (one_more g gs) pre (suc (suc n)) h =
    let l2 : length (pre ++ (32 ∷ text_of x)) ≡ suc (length pre) + length (text_of x) = (let l = length-append pre (32 ∷ text_of x) in omega arith) in
    one_turn pre x xs g n
    ∙ ap (λ (ws : List Word). record { start = suc (length pre); end = suc (length pre) + length (text_of x); split = suc (length pre) + length x.key } ∷ ws)
    (spaced_words xs gs (pre ++ (32 ∷ text_of x)) n (omega arith) ∙ ap (λ (q : ℕ). words_at (suc q) xs) l2)

-- ---- the whole line

long_enough : (xs : List Insertion) → length xs + length xs ≤ length (spaced_out xs)
unfolding spaced_out
long_enough [] = omega arith
long_enough (x ∷ xs) =
    let h = long_enough xs in
    let a = length-append (text_of x) (spaced_out xs) in
    let b = length-append x.key (61 ∷ x.value) in
    omega arith

pub joined_words : (x : Insertion) (xs : List Insertion) → Good x → Goods xs
    → words_of (text_of x ++ spaced_out xs) ≡ record { start = 0; end = length (text_of x); split = length x.key } ∷ words_at (suc (length (text_of x))) xs
unfolding words_of
joined_words x xs g gs = by_turns (length (text_of x ++ spaced_out xs)) (
    let h = long_enough xs in
    let a = length-append (text_of x) (spaced_out xs) in
    let b = length-append x.key (61 ∷ x.value) in
    omega arith)
  where
    by_turns : (n : ℕ) → suc (length xs + length xs) ≤ n
        → words_from n (text_of x ++ spaced_out xs) 0 ≡ record { start = 0; end = length (text_of x); split = length x.key } ∷ words_at (suc (length (text_of x))) xs
    by_turns zero h = absurd (omega arith)
    by_turns (suc n) h =
        subst₂ (λ (i j : ℕ). words_from (suc n) (text_of x ++ spaced_out xs) 0 ≡ record { start = 0; end = i; split = j } ∷ words_from n (text_of x ++ spaced_out xs) i) (omega arith) (omega arith) (pair_at [] x xs g n)
        ∙ ap (λ (ws : List Word). record { start = 0; end = length (text_of x); split = length x.key } ∷ ws) (spaced_words xs gs (text_of x) n (omega arith))

-- and no quote is open at its end

past_space : (bs : List ℕ) (at : ℕ) → plain_from 34 (32 ∷ bs) at ≡ plain_from 34 bs (suc at)
unfolding plain_from pick
past_space bs at = refl

at_end : (at : ℕ) → plain_from 34 [] at ≡ at
unfolding plain_from
at_end at = refl

spaced_closed : (xs : List Insertion) → Goods xs → (at : ℕ) → plain_from 34 (spaced_out xs) at ≡ at + length (spaced_out xs)
unfolding spaced_out
spaced_closed [] none_left at = at_end at ∙ omega arith
spaced_closed (x ∷ xs) (one_more g gs) at =
    let a = length-append (text_of x) (spaced_out xs) in
    let e = past_space (text_of x ++ spaced_out xs) at ∙ g.closed.on (spaced_out xs) (suc at) ∙ spaced_closed xs gs (suc at + length (text_of x)) in
    omega arith

pub joined_closed : (x : Insertion) (xs : List Insertion) → Good x → Goods xs → unclosed_of (text_of x ++ spaced_out xs) ≡ length (text_of x ++ spaced_out xs)
unfolding unclosed_of
joined_closed x xs g gs =
    let a = length-append (text_of x) (spaced_out xs) in
    let e = g.closed.on (spaced_out xs) 0 ∙ spaced_closed xs gs (0 + length (text_of x)) in
    omega arith

-- ---- what an insertion asks makes a pair good: its key free of spaces, equals signs and quotes, its value free of quotes and spaces, or quoted

first_free : (key value : List ℕ) → Free 32 key → Starts (key ++ (61 ∷ value))
first_free [] value none = let z : (◌≡◌ {A = ℕ} 61 32 → ⊥) = λ e. absurd (omega (arith, e)) in starts z
first_free (c ∷ cs) value (more n f) = starts n

sign_passes : {byte : ℕ} → (61 ≡ byte → ⊥) → Passes byte (61 ∷ [])
sign_passes h = passes_free (more (λ e. absurd (omega (arith, e))) none) (more h none)

pub good_pair : (key value : List ℕ) → Free 34 key → Free 32 key → Free 61 key → Passes 32 value → Passes 34 value → Good (record { key = key; value = value })
good_pair key value q s e p p' = record {
  first = first_free key value s;
  whole = subst (λ (l : List ℕ). Passes 32 l) (append_assoc key (61 ∷ []) value) (passes_append (passes_append (passes_free q s) (sign_passes (λ z. absurd (omega (arith, z))))) p);
  keyed = passes_free q e;
  closed = subst (λ (l : List ℕ). Passes 34 l) (append_assoc key (61 ∷ []) value) (passes_append (passes_append (passes_free q q) (sign_passes (λ z. absurd (omega (arith, z))))) p');
}

-- ---- one pair more at the end, as an insertion puts it

spaced_snoc : (xs : List Insertion) (y : Insertion) → spaced_out (xs ++ (y ∷ [])) ≡ spaced_out xs ++ (32 ∷ text_of y)
unfolding spaced_out
spaced_snoc [] y = ap (λ (l : List ℕ). 32 ∷ l) (append-nil (text_of y))
spaced_snoc (x ∷ xs) y = ap (λ (l : List ℕ). 32 ∷ l) (ap (λ (l : List ℕ). text_of x ++ l) (spaced_snoc xs y) ∙ sym (append_assoc (text_of x) (spaced_out xs) (32 ∷ text_of y)))

space_then : (n : ℕ) → space_after (suc n) ≡ 32 ∷ []
unfolding space_after pick
space_then n = rw (ne_eqb (suc n) 0 (λ e. absurd (omega (arith, e))))

after_some : (n : ℕ) → (n ≡ 0 → ⊥) → space_after n ≡ 32 ∷ []
after_some zero h = absurd (h refl)
after_some (suc n) h = space_then n

pub line_snoc : (x : Insertion) (xs : List Insertion) (y : Insertion) → text_of x ++ spaced_out (xs ++ (y ∷ [])) ≡ joined (text_of x ++ spaced_out xs) (text_of y)
line_snoc x xs y =
    ap (λ (l : List ℕ). text_of x ++ l) (spaced_snoc xs y) ∙ sym (append_assoc (text_of x) (spaced_out xs) (32 ∷ text_of y))
    ∙ ap (λ (l : List ℕ). (text_of x ++ spaced_out xs) ++ (l ++ text_of y)) (sym (after_some (length (text_of x ++ spaced_out xs)) (λ e.
    let a = length-append (text_of x) (spaced_out xs) in
    let b = length-append x.key (61 ∷ x.value) in
    absurd (omega (arith, e)))))
